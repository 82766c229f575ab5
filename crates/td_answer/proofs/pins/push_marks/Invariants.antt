use Rattle.std.proofs.Common.{◌≡◌, ◌++◌, take}
use Rattle.std.specs.Prelude.{map, string_bytes}
use Rattle.td_certificate.specs.Text.{hold}
use Rattle.td_answer.proofs.pins.push_marks.Given as goal

abbrev pub invariant-loop-held : goal.invariant-loop-held
invariant-loop-held l = string_bytes l.text ≡ string_bytes l.initial.text ++ map hold (take l.held-index l.fn.held)
