use Rattle.std.proofs.Common.{◌≡◌, ◌++◌, take}
use Rattle.std.specs.List.{flat_map}
use Rattle.td_answer.specs.Parts.{output_words}
use Rattle.td_answer.proofs.parts.push_outputs.Given as goal

abbrev pub invariant-loop-name : goal.invariant-loop-name
invariant-loop-name l = l.words.items ≡ l.fn.words.items ++ flat_map output_words (take l.name-index l.names)
