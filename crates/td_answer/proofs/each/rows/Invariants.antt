use Rattle.std.proofs.Common.{◌≡◌, take}
use Rattle.std.specs.List.{AllZip}
use Rattle.td_circuit.specs.Numbering.{setting}
use Rattle.td_search.specs.Problems.{Problem}
use Rattle.td_answer.specs.Columns.{pairs_of}
use Rattle.td_answer.specs.Tables.{IsTrueRow}
use Rattle.td_answer.proofs.each.rows.Given as goal

-- the outputs stay, a row for each of the first ones is there, and the watch heard of them alone, and
-- of their rows
abbrev pub invariant-loop-place : goal.invariant-loop-place
invariant-loop-place g l =
    (l.outputs.whole ≡ l.initial.outputs.whole)
    × AllZip (IsTrueRow (setting l.initial.outputs.whole) (pairs_of l.inquiry) l.inquiry.search.now) (take l.place l.initial.outputs.whole.netlist.outputs) l.rows.items
    × ((asked : Problem) → g.W.Watch.reported asked l.initial.watch l.watch)
    × g.W.TableWatch.heard l.rows.items l.initial.watch l.watch
