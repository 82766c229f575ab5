use Rattle.std.proofs.Common.{◌≡◌, map, take}
use Rattle.td_inputs.specs.Patterns.{letter_of}
use Rattle.td_inputs.proofs.writing.cells_of.Given as goal

-- the cells of the characters so far
abbrev pub invariant-loop-letter : goal.invariant-loop-letter
invariant-loop-letter l = take l.letter-index l.word ≡ map (letter_of l.letters) l.cells.items
