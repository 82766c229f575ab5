use Rattle.std.proofs.Common.{◌≡◌, take}
use Rattle.std.specs.List.{AllZip}
use Rattle.td_circuit.specs.Numbering.{setting}
use Rattle.td_answer.specs.Columns.{pairs_of}
use Rattle.td_answer.specs.Hazards.{IsTrueHazardRow, all_at_both}
use Rattle.td_answer.proofs.hazards.rows.Given as goal

-- the outputs stay, and the rows of the first ones are there
abbrev pub invariant-loop-place : goal.invariant-loop-place
invariant-loop-place g l =
    (l.outputs.whole ≡ l.initial.outputs.whole)
    × AllZip (IsTrueHazardRow (setting l.initial.outputs.whole) (pairs_of l.inquiry)) (all_at_both (take l.place l.initial.outputs.whole.netlist.outputs)) l.rows.items
