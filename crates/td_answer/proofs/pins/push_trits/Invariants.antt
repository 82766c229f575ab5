use Rattle.std.proofs.Common.{◌≡◌, ◌++◌, take}
use Rattle.std.specs.Prelude.{map}
use Rattle.td_certificate.specs.Text.{trit}
use Rattle.td_certificate.proofs.Batches.{side}
use Rattle.td_answer.proofs.pins.push_trits.Given as goal

abbrev pub invariant-loop-input : goal.invariant-loop-input
invariant-loop-input l = l.text ≡ l.initial.text ++ map trit (take l.input (side l.second l.pins))
