use Rattle.std.proofs.Common.{◌≡◌, ◌++◌, take}
use Rattle.std.specs.Prelude.{string_bytes}
use Rattle.std.specs.List.{flat_map}
use Rattle.td_certificate.specs.Text.{behind_condition}
use Rattle.td_certificate.proofs.condition_words.push_others.Given as goal

abbrev pub invariant-loop-asked : goal.invariant-loop-asked
invariant-loop-asked l = string_bytes l.text ≡ string_bytes l.fn.text ++ flat_map behind_condition (take l.asked-index l.others)
