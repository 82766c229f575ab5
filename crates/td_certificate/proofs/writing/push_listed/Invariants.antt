use Rattle.std.proofs.Common.{◌≡◌, ◌++◌, take}
use Rattle.std.specs.Prelude.{string_bytes}
use Rattle.std.specs.List.{flat_map}
use Rattle.td_certificate.proofs.Batches.{behind_at}
use Rattle.td_certificate.proofs.writing.push_listed.Given as goal

abbrev pub invariant-loop-number : goal.invariant-loop-number
invariant-loop-number l = string_bytes l.text ≡ string_bytes l.fn.text ++ (l.word ++ flat_map behind_at (take l.number-index l.listed))
