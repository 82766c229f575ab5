use Rattle.td_search.specs.declared.answers.Cause.TheVariants.{Memory}
use Rattle.td_search.specs.Problems.{problem_of}
use Rattle.td_worst.proofs.Standings.{reported_between, with_best, best_small}
use Rattle.std.proofs.Common.{sym, subst}
use Rattle.td_refute.specs.declared.refuting.Refuted.{Refuted}
use Rattle.td_worst.specs.Methods.{high_of}
use Rattle.td_worst.specs.Supports.{IsWithinSteps}
use Rattle.td_worst.proofs.KeptLeaves.{if_some}
use Rattle.td_worst.proofs.refuting.refute_open_answer.Goals as goal

pub refuted-answer-requires : goal.refuted-answer-requires
refuted-answer-requires g c = record {
  small = best_small (problem_of c.args.problem.now) c.args.budget _
      (with_best (problem_of c.args.problem.now) c.args.budget c.args.known _ c.requires.known c.search-found.ensures.best);
}

pub returns-in-Ok-Some-clause-answer : goal.returns-in-Ok-Some-clause-answer
returns-in-Ok-Some-clause-answer g c =
    rw c.with_steps.ensures.answer (c.refuted-answer.ensures.answer (problem_of c.args.problem.now) c.args.budget c.requires.some (record {
      inputs = c.gates-gates.ensures.numbering.well_formed.few_inputs;
      gates = c.gates-gates.ensures.numbering.well_formed.few_gates;
      held = c.args.problem.now.held;
      pins = c.pins-pins.ensures.fit;
      moments = c.moments-moments.ensures.fit;
    }) (with_best (problem_of c.args.problem.now) c.args.budget c.args.known _ c.requires.known c.search-found.ensures.best)
    (rw (c.in-Ok-Some.is, c.in-Ok-Some.field-0-is) at c.search-found.ensures.shown)).0

pub returns-in-Ok-Some-clause-text : goal.returns-in-Ok-Some-clause-text
returns-in-Ok-Some-clause-text g c =
    rw c.with_steps.ensures.answer (c.refuted-answer.ensures.answer (problem_of c.args.problem.now) c.args.budget c.requires.some (record {
      inputs = c.gates-gates.ensures.numbering.well_formed.few_inputs;
      gates = c.gates-gates.ensures.numbering.well_formed.few_gates;
      held = c.args.problem.now.held;
      pins = c.pins-pins.ensures.fit;
      moments = c.moments-moments.ensures.fit;
    }) (with_best (problem_of c.args.problem.now) c.args.budget c.args.known _ c.requires.known c.search-found.ensures.best)
    (rw (c.in-Ok-Some.is, c.in-Ok-Some.field-0-is) at c.search-found.ensures.shown)).1

pub returns-in-Ok-Some-clause-high : goal.returns-in-Ok-Some-clause-high
returns-in-Ok-Some-clause-high g c =
    rw c.with_steps.ensures.answer (c.refuted-answer.ensures.high (c.requires.known.high c.search-found.new.best.pair c.search-found.new.best.time
    c.search-found.ensures.best.admitted c.search-found.ensures.best.delay))

pub returns-in-Ok-Some-clause-time : goal.returns-in-Ok-Some-clause-time
returns-in-Ok-Some-clause-time g c = rw c.with_steps.ensures.answer (c.refuted-answer.ensures.time c.args.effort.stop.now.can_be_set c.search-found.ensures.cause)

pub returns-in-Ok-None-clause-answer : goal.returns-in-Ok-None-clause-answer
returns-in-Ok-None-clause-answer g c =
    rw (c.of.ensures.answer, c.between.ensures) (reported_between (problem_of c.args.problem.now) c.args.budget _ c.search-found.result.why
    (with_best (problem_of c.args.problem.now) c.args.budget c.args.known _ c.requires.known c.search-found.ensures.best)).0

pub returns-in-Err-clause-answer : goal.returns-in-Err-clause-answer
returns-in-Err-clause-answer g c =
    rw (c.of-in-Err.ensures.answer, c.between-in-Err.ensures) (reported_between (problem_of c.args.problem.now) c.args.budget _ Memory
    (with_best (problem_of c.args.problem.now) c.args.budget c.args.known _ c.requires.known c.search-found.ensures.best)).0

pub returns-in-Ok-Some-clause-within : goal.returns-in-Ok-Some-clause-within
returns-in-Ok-Some-clause-within g c =
    let within = c.refuted-answer.ensures.within (problem_of c.args.problem.now) c.search-found.ensures.best
    (rw (c.in-Ok-Some.is, c.in-Ok-Some.field-0-is) at c.search-found.ensures.shown) in
    rw c.with_steps.ensures.answer (if_some _ _ (λ (steps : Refuted) same. subst (IsWithinSteps (high_of c.refuted-answer.result)) (sym same) within)
    c.with_steps.result.refuted c.with_steps.ensures.steps)
