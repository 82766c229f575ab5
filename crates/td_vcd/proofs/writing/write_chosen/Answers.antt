use Rattle.std.proofs.Common.{ap, ◌∙◌, List}
use Rattle.td_gates.specs.Wave.{Wave}
use Rattle.td_vcd.specs.Text.{named_dump}
use Rattle.td_vcd.specs.Chosen.{names_of}
use Rattle.td_vcd.proofs.Choices.{all_chosen, chosen_small}
use Rattle.td_vcd.proofs.Steps.{waves_behind}
use Rattle.td_vcd.proofs.writing.write_chosen.Goals as goal

pub write_variables-requires-clause-nets : goal.write_variables-requires-clause-nets
write_variables-requires-clause-nets g c = all_chosen c.args.circuit.now c.args.kept.now c.args.chosen.now c.requires.kept c.requires.chosen

pub write_variables-requires-clause-small : goal.write_variables-requires-clause-small
write_variables-requires-clause-small g c =
    rw (c.as_slice-waves.ensures.value, c.in_ok-waves.ensures)
    (chosen_small c.args.circuit.now c.args.kept.now c.args.chosen.now c.requires.kept c.requires.chosen)

pub returns-clause-written : goal.returns-clause-written
returns-clause-written g c =
    rw (← ap (λ (ws : List Wave). named_dump c.args.circuit.now.netlist (names_of c.args.circuit.now c.args.chosen.now) ws)
    (ap waves_behind c.as_slice-waves.ensures.value ∙ c.in_ok-waves.ensures))
    c.write_variables.ensures.written

pub returns-clause-refused : goal.returns-clause-refused
returns-clause-refused g c =
    rw (← ap (λ (ws : List Wave). named_dump c.args.circuit.now.netlist (names_of c.args.circuit.now c.args.chosen.now) ws)
    (ap waves_behind c.as_slice-waves.ensures.value ∙ c.in_ok-waves.ensures))
    c.write_variables.ensures.refused
