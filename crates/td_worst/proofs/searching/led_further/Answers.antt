use Rattle.td_circuit.specs.Numbering.{setting}
use Rattle.td_search.specs.declared.strategy.Strategy.TheVariants.{Least, Lead}
use Rattle.td_search.specs.Problems.{problem_by}
use Rattle.td_worst.proofs.Outcomes.{outcome_of, outcome_alike, written_alike}
use Rattle.td_worst.proofs.searching.led_further.Goals as goal

pub returns-in-Ok-clause-answer : goal.returns-in-Ok-clause-answer
returns-in-Ok-clause-answer g c = λ budget is written.
    let asked = problem_by Lead c.args.circuit.now c.args.admit.now in
    c.with_tree.ensures.answer (problem_by Least c.args.circuit.now c.args.admit.now) budget c.args.limits.effort.budget is written
    (rw c.of.ensures.answer
    (outcome_alike asked Least c.args.limits.effort.budget c.in-Ok.found.answer (outcome_of asked c.args.limits.effort.budget c.in-Ok.found.answer c.in-Ok.ensures.answer)))
    (rw c.of.ensures.answer (written_alike asked Least c.in-Ok.found.answer c.in-Ok.ensures.text))

pub returns-in-Ok-clause-reported : goal.returns-in-Ok-clause-reported
returns-in-Ok-clause-reported g c = g.met.W.Watch.reported_alike (problem_by Lead c.args.circuit.now c.args.admit.now) Least _ _ c.search.ensures.reported

pub returns-in-Err-clause-reported : goal.returns-in-Err-clause-reported
returns-in-Err-clause-reported g c = g.met.W.Watch.reported_alike (problem_by Lead c.args.circuit.now c.args.admit.now) Least _ _ c.search.ensures.reported

pub returns-in-Ok-clause-time : goal.returns-in-Ok-clause-time
returns-in-Ok-clause-time g c = λ known. c.with_tree.ensures.time c.args.limits.stop.now.can_be_set known (rw c.of.ensures.answer c.in-Ok.ensures.time)

pub returns-in-Ok-clause-high : goal.returns-in-Ok-clause-high
returns-in-Ok-clause-high g c = λ budget is.
    let asked = problem_by Lead c.args.circuit.now c.args.admit.now in
    (c.with_tree.ensures.narrower (problem_by Least c.args.circuit.now c.args.admit.now) budget c.args.limits.effort.budget is
    (rw c.of.ensures.answer
    (outcome_alike asked Least c.args.limits.effort.budget c.in-Ok.found.answer (outcome_of asked c.args.limits.effort.budget c.in-Ok.found.answer c.in-Ok.ensures.answer)))).0.high

pub returns-in-Ok-clause-shown : goal.returns-in-Ok-clause-shown
returns-in-Ok-clause-shown g c = λ known.
    c.with_tree.ensures.shown (setting c.args.circuit.now) c.args.admit.now known
    (c.of.ensures.tree (problem_by Lead c.args.circuit.now c.args.admit.now) c.in-Ok.ensures.shown)

pub returns-in-Ok-clause-within : goal.returns-in-Ok-clause-within
returns-in-Ok-clause-within g c = λ budget is known.
    let asked = problem_by Lead c.args.circuit.now c.args.admit.now in
    c.with_tree.ensures.within (problem_by Least c.args.circuit.now c.args.admit.now) budget c.args.limits.effort.budget is
    (rw c.of.ensures.answer
    (outcome_alike asked Least c.args.limits.effort.budget c.in-Ok.found.answer (outcome_of asked c.args.limits.effort.budget c.in-Ok.found.answer c.in-Ok.ensures.answer)))
    known (rw c.of.ensures.answer c.of.ensures.within)
