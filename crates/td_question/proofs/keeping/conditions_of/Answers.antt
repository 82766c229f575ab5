use Rattle.std.proofs.Common.{◌∙◌, List, map, ap, subst}
use Rattle.std.specs.Prelude.{IfOk, IfErr}
use Rattle.td_question.specs.KeepLines.{Quote, quote_in}
use Rattle.td_question.specs.Keeping.{AreConditions, IsFirstFault}
use Rattle.td_question.proofs.Questions.{wrong_first}
use Rattle.td_question.proofs.keeping.conditions_of.Goals as goal

pub returns-clause-keep : goal.returns-clause-keep
returns-clause-keep c =
    subst (λ (quotes : List Quote). IfOk c.conditions_by.result (λ reported. IfOk reported (λ keep. AreConditions c.args.circuit.now.netlist quotes keep.items)))
    (ap (map quote_in) c.deref.ensures.value ∙ c.in_ok-quotes.ensures) c.conditions_by.ensures.keep

pub returns-clause-fault : goal.returns-clause-fault
returns-clause-fault c =
    wrong_first c.args.circuit.now.netlist c.args.question.now c.conditions_by.result
    (subst (λ (quotes : List Quote). IfOk c.conditions_by.result (λ reported. IfErr reported (IsFirstFault c.args.circuit.now.netlist quotes)))
    (ap (map quote_in) c.deref.ensures.value ∙ c.in_ok-quotes.ensures) c.conditions_by.ensures.fault)
