use Rattle.td_vcd.specs.Chosen.{names_of}
use Rattle.td_vcd.proofs.Parts.{whole_is}
use Rattle.td_vcd.proofs.Steps.{waves_behind}
use Rattle.td_vcd.proofs.writing.write_variables.Goals as goal

pub returns-clause-written : goal.returns-clause-written
returns-clause-written g c =
    rw (← whole_is c.args.circuit.now.netlist (names_of c.args.circuit.now c.args.nets.now) (waves_behind c.args.waves.now) _ _ _
    c.as_slice.ensures.value c.in_ok-events.ensures.lines (rw c.new-batch.ensures at c.in_ok-push_head.ensures))
    c.write_lines.ensures.written

pub returns-clause-refused : goal.returns-clause-refused
returns-clause-refused g c =
    rw (← whole_is c.args.circuit.now.netlist (names_of c.args.circuit.now c.args.nets.now) (waves_behind c.args.waves.now) _ _ _
    c.as_slice.ensures.value c.in_ok-events.ensures.lines (rw c.new-batch.ensures at c.in_ok-push_head.ensures))
    c.write_lines.ensures.refused
