use Rattle.std.proofs.Common.{◌∙◌, sym}
use Rattle.td_question.proofs.Choices.{net_is, net_not, none_is}
use Rattle.td_question.proofs.chosen.net_of.Goals as goal

pub returns-in-Some-clause-some : goal.returns-in-Some-clause-some
returns-in-Some-clause-some c =
    net_is c.args.circuit.now c.gates-gates.ensures.numbering c.args.names.now c.args.numbers.now c.args.name.now c.requires.there c.requires.found
    c.in-Some.number c.net_named.result (sym c.number_of.ensures ∙ c.in-Some.is) c.net_named.ensures

pub returns-in-Some-clause-none : goal.returns-in-Some-clause-none
returns-in-Some-clause-none c =
    net_not c.args.circuit.now c.gates-gates.ensures.numbering c.args.names.now c.args.numbers.now c.args.name.now c.requires.there c.requires.found
    c.in-Some.number c.net_named.result (sym c.number_of.ensures ∙ c.in-Some.is) c.net_named.ensures

pub returns-in-None-clause-none : goal.returns-in-None-clause-none
returns-in-None-clause-none c =
    none_is c.args.circuit.now c.gates-gates.ensures.numbering c.args.names.now c.args.numbers.now c.args.name.now c.requires.there c.requires.found
    (sym c.number_of.ensures ∙ c.in-None.is)
