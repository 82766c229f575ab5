use Rattle.std.proofs.Common.{◌≡◌, map, take}
use Rattle.std.specs.Prelude.{string_bytes}
use Rattle.td_inputs.specs.Patterns.{letter_of}
use Rattle.td_inputs.proofs.writing.characters.Given as goal

-- the characters so far
abbrev pub invariant-loop-cell : goal.invariant-loop-cell
invariant-loop-cell l = string_bytes l.word ≡ map (letter_of l.letters) (take l.cell-index l.cells)
