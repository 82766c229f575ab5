use Rattle.std.proofs.Common.{sym, subst}
use Rattle.std.specs.Prelude.{option_map}
use Rattle.td_source.specs.Reads.{AreOutputsOf}
use Rattle.std.proofs.lemmas.Result.{IfOk-weaker, IfErr-weaker}
use Rattle.td_circuit.specs.Numbering.{setting}
use Rattle.td_inputs.specs.Placings.{words_by_place}
use Rattle.td_question.specs.Asking.{placed_words}
use Rattle.td_question.proofs.Questions.{say_so, is_asked, word_fault, any_fault}
use Rattle.td_question.proofs.asking.pairs_of.Goals as goal

pub returns-in-Ok-clause-asked : goal.returns-in-Ok-clause-asked
returns-in-Ok-clause-asked c = IfOk-weaker c.asked_by.result _ _
    (λ asked is. is_asked c.args.text.now c.args.reading.now c.args.question.now c.in-Ok.placed.circuit.netlist (words_by_place c.in-Ok.placed.words)
    (setting asked.circuit) asked.admit c.in-Ok.ensures.circuit c.in-Ok.ensures.together is)
    c.asked_by.ensures.asked

pub returns-in-Ok-clause-fault : goal.returns-in-Ok-clause-fault
returns-in-Ok-clause-fault c = IfErr-weaker c.asked_by.result _ _
    (word_fault c.args.text.now c.args.reading.now c.args.question.now.inputs c.in-Ok.placed.circuit.netlist (words_by_place c.in-Ok.placed.words)
    c.in-Ok.ensures.circuit c.in-Ok.ensures.together placed_words)
    c.asked_by.ensures.fault

pub returns-in-Err-clause-fault : goal.returns-in-Err-clause-fault
returns-in-Err-clause-fault c = any_fault c.args.text.now c.args.reading.now c.args.question.now.inputs placed_words c.in-Err.fault c.in-Err.ensures.fault

pub returns-in-Ok-clause-outputs : goal.returns-in-Ok-clause-outputs
returns-in-Ok-clause-outputs c = IfOk-weaker c.asked_by.result _ _
    (λ asked is. subst (λ outputs. AreOutputsOf c.args.text.now c.args.reading.now (option_map (λ numbers. numbers.items) outputs)) (sym is) c.in-Ok.ensures.outputs)
    c.asked_by.ensures.outputs

pub returns-in-Ok-clause-together : goal.returns-in-Ok-clause-together
returns-in-Ok-clause-together c = IfOk-weaker c.asked_by.result _ _
    (λ asked is. say_so c.args.question.now.inputs _ _ _ _ is.0 is.1 c.in-Ok.ensures.together)
    c.asked_by.ensures.words
