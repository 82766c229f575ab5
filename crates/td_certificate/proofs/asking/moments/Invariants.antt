use Rattle.std.proofs.Common.{◌≡◌, ◌-◌}
use Rattle.td_certificate.specs.Reading.{moments_at}
use Rattle.td_certificate.proofs.Loops.{with_front}
use Rattle.td_certificate.proofs.asking.moments.Given as goal

abbrev pub invariant-loop-input : goal.invariant-loop-input
invariant-loop-input l = with_front l.moments.items (moments_at l.at_once (l.inputs - l.input) l.rest) ≡ moments_at l.later l.inputs l.text
