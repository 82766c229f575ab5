use Rattle.std.proofs.lemmas.Result.{IfOk-weaker, IfErr-weaker}
use Rattle.td_circuit.specs.Numbering.{setting}
use Rattle.td_inputs.specs.Placings.{words_by_place}
use Rattle.td_question.specs.Asking.{vector_words}
use Rattle.td_question.proofs.Questions.{is_pair, word_fault, any_fault}
use Rattle.td_question.proofs.pair.pair_of.Goals as goal

pub returns-in-Ok-clause-asked : goal.returns-in-Ok-clause-asked
returns-in-Ok-clause-asked c = IfOk-weaker c.spelled_by.result _ _
    (λ asked is. is_pair c.args.text.now c.args.reading.now c.args.inputs.now c.in-Ok.placed.circuit.netlist (words_by_place c.in-Ok.placed.words)
    c.in-Ok.ensures.circuit c.in-Ok.ensures.together c.args.from.now c.args.to.now (setting asked.circuit) asked.first.items asked.second.items is)
    c.spelled_by.ensures.asked

pub returns-in-Ok-clause-fault : goal.returns-in-Ok-clause-fault
returns-in-Ok-clause-fault c = IfErr-weaker c.spelled_by.result _ _
    (word_fault c.args.text.now c.args.reading.now c.args.inputs.now c.in-Ok.placed.circuit.netlist (words_by_place c.in-Ok.placed.words)
    c.in-Ok.ensures.circuit c.in-Ok.ensures.together (vector_words c.args.from.now c.args.to.now))
    c.spelled_by.ensures.fault

pub returns-in-Err-clause-fault : goal.returns-in-Err-clause-fault
returns-in-Err-clause-fault c = any_fault c.args.text.now c.args.reading.now c.args.inputs.now (vector_words c.args.from.now c.args.to.now) c.in-Err.fault c.in-Err.ensures.fault
