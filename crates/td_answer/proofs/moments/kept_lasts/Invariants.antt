use Rattle.std.proofs.Common.{◌≡◌, map, take}
use Rattle.td_gates.specs.Wave.{Wave, last}
use Rattle.td_nets.specs.Netlist.{Net}
use Rattle.td_circuit.specs.Numbering.{nets}
use Rattle.td_answer.specs.Runs.{last_of}
use Rattle.td_answer.proofs.moments.kept_lasts.Given as goal

-- the rows so far
abbrev pub invariant-loop-output : goal.invariant-loop-output
invariant-loop-output l = (waves : Net → Wave) → l.kept.lasts ≡ map (λ net. last (waves net)) (nets l.circuit)
    → l.rows.items ≡ map (last_of waves) (take l.output-index l.circuit.netlist.outputs)
