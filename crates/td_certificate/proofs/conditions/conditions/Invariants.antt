use Rattle.std.proofs.Common.{◌≡◌, length}
use Rattle.td_certificate.specs.ConditionReading.{conditions_at}
use Rattle.td_certificate.proofs.Loops.{with_front}
use Rattle.td_certificate.proofs.conditions.conditions.Given as goal

abbrev pub invariant-conditions : goal.invariant-conditions
invariant-conditions l = with_front l.list.items (conditions_at l.rest) ≡ conditions_at l.text

abbrev pub decreases-conditions : goal.decreases-conditions
decreases-conditions l = length l.rest
