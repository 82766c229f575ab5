use Rattle.std.proofs.Common.{◌≡◌, ◌++◌, take}
use Rattle.td_lines.specs.Texts.{place_lines}
use Rattle.td_lines.proofs.text.places.Given as goal

abbrev pub invariant-loop-row : goal.invariant-loop-row
invariant-loop-row l = l.out ≡ l.initial.out ++ place_lines l.front (take l.row-index l.rows)
