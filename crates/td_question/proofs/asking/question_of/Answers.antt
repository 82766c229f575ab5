use Rattle.std.proofs.Common.{ap, sym, subst}
use Rattle.std.specs.Prelude.{option_map}
use Rattle.std.proofs.lemmas.Result.{IfOk-weaker, IfErr-weaker}
use Rattle.td_circuit.specs.Numbering.{Numbered, setting}
use Rattle.td_inputs.specs.Placings.{words_by_place}
use Rattle.td_source.specs.Reads.{AreOutputsOf}
use Rattle.td_question.proofs.Questions.{say_so, asked_same, pair_fault, keep_fault}
use Rattle.td_question.proofs.asking.question_of.Goals as goal

pub returns-in-Ok-clause-asked : goal.returns-in-Ok-clause-asked
returns-in-Ok-clause-asked c = IfOk-weaker c.keeping.result _ _
    (λ kept is. asked_same c.args.text.now c.args.reading.now c.args.question.now kept.circuit c.in-Ok.asked.circuit kept.admit c.in-Ok.asked.admit
    is.0 is.1 c.in-Ok.ensures.asked)
    c.keeping.ensures.same

pub returns-in-Ok-clause-outputs : goal.returns-in-Ok-clause-outputs
returns-in-Ok-clause-outputs c = IfOk-weaker c.keeping.result _ _
    (λ kept is. subst (λ outputs. AreOutputsOf c.args.text.now c.args.reading.now (option_map (λ numbers. numbers.items) outputs)) (sym is.2) c.in-Ok.ensures.outputs)
    c.keeping.ensures.same

pub returns-in-Ok-clause-together : goal.returns-in-Ok-clause-together
returns-in-Ok-clause-together c = IfOk-weaker c.keeping.result _ _
    (λ kept is. say_so c.args.question.now.inputs _ _ _ _ (ap (λ (circuit : Numbered). circuit.netlist) is.0) (ap words_by_place is.3) c.in-Ok.ensures.together)
    c.keeping.ensures.same

pub returns-in-Ok-clause-fault : goal.returns-in-Ok-clause-fault
returns-in-Ok-clause-fault c = IfErr-weaker c.keeping.result _ _
    (keep_fault c.args.text.now c.args.reading.now c.args.question.now (setting c.in-Ok.asked.circuit) c.in-Ok.asked.admit c.in-Ok.ensures.asked)
    c.keeping.ensures.fault

pub returns-in-Err-clause-fault : goal.returns-in-Err-clause-fault
returns-in-Err-clause-fault c = pair_fault c.args.text.now c.args.reading.now c.args.question.now c.in-Err.fault c.in-Err.ensures.fault
