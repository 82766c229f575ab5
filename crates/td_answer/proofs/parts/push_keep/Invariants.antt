use Rattle.std.proofs.Common.{◌≡◌, ◌++◌, take}
use Rattle.std.specs.List.{flat_map}
use Rattle.td_answer.specs.Parts.{keep_option}
use Rattle.td_answer.proofs.parts.push_keep.Given as goal

abbrev pub invariant-loop-word : goal.invariant-loop-word
invariant-loop-word l = l.words.items ≡ l.fn.words.items ++ flat_map keep_option (take l.word-index l.keep)
