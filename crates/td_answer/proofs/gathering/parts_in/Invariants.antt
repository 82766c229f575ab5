use Rattle.std.proofs.Common.{◌≤◌, take, length}
use Rattle.std.specs.List.{AllZip}
use Rattle.td_answer.specs.Joins.{texts_of, TellsPart}
use Rattle.td_answer.proofs.gathering.parts_in.Given as goal

-- the parts so far, each of a text that is there
abbrev pub invariant-loop-place : goal.invariant-loop-place
invariant-loop-place l =
    (l.place ≤ length (texts_of l.certificates))
    × AllZip (TellsPart l.text l.reading l.circuit.netlist l.is_checked) (take l.place (texts_of l.certificates)) l.parts.items
