use Rattle.std.proofs.lemmas.Result.{err_from_is_err_and}
use Rattle.td_search.specs.declared.strategy.Strategy.TheVariants.{Least, Lead}
use Rattle.td_search.specs.Problems.{problem_by}
use Rattle.td_worst.proofs.Outcomes.{outcome_of, more_budget, outcome_alike, written_alike, fault_alike}
use Rattle.td_worst.proofs.searching.bounded.Goals as goal

pub returns-clause-answer : goal.returns-clause-answer
returns-clause-answer g c = λ budget few.
    let asked = problem_by Least c.args.circuit.now c.args.admit.now in
    let found = c.in_ok-found.found.answer in
    rw c.of.ensures.answer
    (more_budget (problem_by Lead c.args.circuit.now c.args.admit.now) c.args.limits.effort.budget budget found few
    (outcome_alike asked Lead c.args.limits.effort.budget found (outcome_of asked c.args.limits.effort.budget found c.in_ok-found.ensures.answer)))

pub returns-clause-text : goal.returns-clause-text
returns-clause-text g c =
    rw c.of.ensures.answer (written_alike (problem_by Least c.args.circuit.now c.args.admit.now) Lead c.in_ok-found.found.answer c.in_ok-found.ensures.text)

pub returns-clause-shown : goal.returns-clause-shown
returns-clause-shown g c = c.of.ensures.tree (problem_by Least c.args.circuit.now c.args.admit.now) c.in_ok-found.ensures.shown

pub returns-clause-reported : goal.returns-clause-reported
returns-clause-reported g c = g.met.W.Watch.reported_alike (problem_by Least c.args.circuit.now c.args.admit.now) Lead _ _ c.search.ensures.reported

pub returns-in_err-found-clause-reported : goal.returns-in_err-found-clause-reported
returns-in_err-found-clause-reported g c = g.met.W.Watch.reported_alike (problem_by Least c.args.circuit.now c.args.admit.now) Lead _ _ c.search.ensures.reported

pub returns-in_err-found-clause-fault : goal.returns-in_err-found-clause-fault
returns-in_err-found-clause-fault g c =
    let reported = err_from_is_err_and c.from_residual.result c.from_residual.ensures.1 in
    rw (reported.1, reported.2) (fault_alike (problem_by Least c.args.circuit.now c.args.admit.now) Lead c.in_err-found.field-0.0 c.in_err-found.ensures.fault)

pub returns-clause-within : goal.returns-clause-within
returns-clause-within g c = rw c.of.ensures.answer c.of.ensures.within
