use Rattle.std.proofs.Common.{ap, ◌∙◌}
use Rattle.td_run.proofs.Gates.{waves_of-within}
use Rattle.td_vcd.proofs.Nets.{all_named, all_below}
use Rattle.td_vcd.proofs.Parts.{run_is}
use Rattle.td_vcd.proofs.Steps.{waves_behind}
use Rattle.td_vcd.proofs.writing.write.Goals as goal

pub run_waves-requires : goal.run_waves-requires
run_waves-requires g c =
    rw c.as_slice-nets.ensures.value (all_below c.args.circuit.now _ c.args.run.now.waves c.in_ok-nets.ensures.nets c.requires.count)

pub write_variables-requires-clause-nets : goal.write_variables-requires-clause-nets
write_variables-requires-clause-nets g c = rw c.as_slice-nets.ensures.value (all_named c.args.circuit.now _ c.in_ok-nets.ensures.nets)

pub write_variables-requires-clause-small : goal.write_variables-requires-clause-small
write_variables-requires-clause-small g c =
    rw (c.as_slice-waves.ensures.value, c.in_ok-waves.ensures, c.as_slice-nets.ensures.value)
    (waves_of-within 200001000000000 c.args.run.now.waves _ c.requires.within (all_below c.args.circuit.now _ c.args.run.now.waves c.in_ok-nets.ensures.nets c.requires.count))

pub returns-clause-written : goal.returns-clause-written
returns-clause-written g c =
    rw (← run_is c.args.circuit.now c.args.run.now _ _ _ c.in_ok-nets.ensures.numbering c.in_ok-nets.ensures.nets c.requires.count c.as_slice-nets.ensures.value
    (ap waves_behind c.as_slice-waves.ensures.value ∙ c.in_ok-waves.ensures))
    c.write_variables.ensures.written

pub returns-clause-refused : goal.returns-clause-refused
returns-clause-refused g c =
    rw (← run_is c.args.circuit.now c.args.run.now _ _ _ c.in_ok-nets.ensures.numbering c.in_ok-nets.ensures.nets c.requires.count c.as_slice-nets.ensures.value
    (ap waves_behind c.as_slice-waves.ensures.value ∙ c.in_ok-waves.ensures))
    c.write_variables.ensures.refused
