use Rattle.std.proofs.Common.{◌≡◌, length}
use Rattle.td_certificate.specs.StepReading.{numbers_at}
use Rattle.td_certificate.proofs.Loops.{with_front}
use Rattle.td_certificate.proofs.steps.numbers.Given as goal

abbrev pub invariant-numbers : goal.invariant-numbers
invariant-numbers l = with_front l.numbers.items (numbers_at l.rest) ≡ numbers_at l.text

abbrev pub decreases-numbers : goal.decreases-numbers
decreases-numbers l = length l.rest
