use Rattle.std.proofs.Common.{◌∙◌, ◌++◌, List, ℕ, sym, ap}
use Rattle.td_nets.specs.Printed.{printed}
use Rattle.td_nets.specs.Views.{name_of}
use Rattle.td_circuit.proofs.Searching.{on_ok}
use Rattle.td_question.proofs.NetNames.{net_high, net_within, net_there, is_printed}
use Rattle.td_question.proofs.net_names.print_net.Goals as goal

pub name-requires-clause-constant : goal.name-requires-clause-constant
name-requires-clause-constant c =
    net_high c.args.circuit.now c.gates-gates.ensures.numbering c.args.number c.in-Some.net c.requires.first (sym c.net_named.ensures ∙ c.in-Some.is)

pub name-requires-clause-net : goal.name-requires-clause-net
name-requires-clause-net c =
    net_within c.args.circuit.now c.gates-gates.ensures.numbering c.args.number c.in-Some.net (sym c.net_named.ensures ∙ c.in-Some.is)

pub returns-in-None : goal.returns-in-None
returns-in-None c =
    absurd (net_there c.args.circuit.now c.gates-gates.ensures.numbering c.args.number c.requires.within (sym c.net_named.ensures ∙ c.in-None.is))

pub returns-in-Some : goal.returns-in-Some
returns-in-Some c = on_ok c.print.result _ _
    (λ text. is_printed c.args.circuit.now c.gates-gates.ensures.numbering c.args.number c.in-Some.net (name_of c.name.result.now) _
    (sym c.net_named.ensures ∙ c.in-Some.is) c.name.ensures
    (text ∙ ap (λ (front : List ℕ). front ++ printed (name_of c.name.result.now)) c.clear.ensures.items))
    c.print.ensures.printed
