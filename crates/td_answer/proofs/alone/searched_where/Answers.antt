use Rattle.std.proofs.Common.{◌∷◌}
use Rattle.std.proofs.lemmas.Result.{err_from_is_err_and}
use Rattle.td_circuit.specs.Numbering.{setting}
use Rattle.td_search.specs.declared.strategy.Strategy.TheVariants.{Lead}
use Rattle.td_search.specs.Problems.{problem_by}
use Rattle.td_certificate.specs.ConditionReading.{condition_by}
use Rattle.td_answer.proofs.Conditioned.{fit_with, true_answer}
use Rattle.td_answer.proofs.EachOne.{unanswered}
use Rattle.td_answer.proofs.alone.searched_where.Goals as goal

pub worst_kept-requires-clause-held : goal.worst_kept-requires-clause-held
worst_kept-requires-clause-held g c κs within = c.requires.held

pub worst_kept-requires-clause-fit : goal.worst_kept-requires-clause-fit
worst_kept-requires-clause-fit g c κs within =
    rw c.deref.ensures.value (fit_with c.args.alone.circuit.now.netlist c.args.alone.inquiry.keep.now c.in_ok-keep.keep.items c.args.alone.net c.args.settled.form
    c.requires.fit c.requires.output c.in_ok-keep.ensures)

pub returns-clause-answer : goal.returns-clause-answer
returns-clause-answer g c =
    true_answer (setting c.args.alone.circuit.now) c.args.alone.inquiry.admit.now c.in_ok-keep.keep.items
    (condition_by c.args.alone.net c.args.settled.form ∷ c.args.alone.inquiry.keep.now) c.in_ok-keep.ensures.same c.in_ok-found.found.answer
    (rw c.deref.ensures.value at c.in_ok-found.ensures.answer)

pub returns-in_err-found-clause-refusal : goal.returns-in_err-found-clause-refusal
returns-in_err-found-clause-refusal g c =
    let reported = err_from_is_err_and c.from_residual-in_err-found.result c.from_residual-in_err-found.ensures.1 in
    rw (reported.1, reported.2) (unanswered (problem_by Lead c.args.alone.circuit.now c.args.alone.inquiry.admit.now) c.in_err-found.field-0.0 c.in_err-found.ensures.fault)
