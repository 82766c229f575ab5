use Rattle.std.proofs.Common.{◌≡◌, map, take}
use Rattle.td_answer.specs.Runs.{last_of}
use Rattle.td_answer.specs.Additions.{waves_in}
use Rattle.td_answer.proofs.moments.run_lasts.Given as goal

-- the rows so far
abbrev pub invariant-loop-output : goal.invariant-loop-output
invariant-loop-output l = l.rows.items ≡ map (last_of (waves_in l.circuit l.run)) (take l.output-index l.circuit.netlist.outputs)
