use Rattle.std.proofs.Common.{◌∙◌}
use Rattle.td_search.specs.Problems.{problem_of}
use Rattle.td_worst.proofs.Edged.{within_bound, within_none}
use Rattle.td_worst.proofs.Standings.{open_answer}
use Rattle.td_worst.proofs.edge_bound.bounded_by_edges.Goals as goal

pub returns-in-Ok-Some-clause-answer : goal.returns-in-Ok-Some-clause-answer
returns-in-Ok-Some-clause-answer c =
    (c.bounded.ensures.answer (problem_of c.args.problem.now) c.args.budget c.requires.some (record {
      inputs = c.gates-gates.ensures.numbering.well_formed.few_inputs;
      gates = c.gates-gates.ensures.numbering.well_formed.few_gates;
      held = c.args.problem.now.held;
      pins = c.pins-pins.ensures.fit;
      moments = c.moments-moments.ensures.fit;
    }) (open_answer _ _ _ _ _ _ (rw c.in-Between.is at c.requires.known))
    (rw (c.in-Ok-Some.field-0-is, c.pins-pins.ensures.pins) at c.in-Ok-Some.ensures.bound)
    (rw c.pins-pins.ensures.pins at (c.in-Ok-Some.ensures.sound c.in-Ok-Some.bound c.in-Ok-Some.field-0-is))).0

pub returns-in-Ok-Some-clause-text : goal.returns-in-Ok-Some-clause-text
returns-in-Ok-Some-clause-text c =
    (c.bounded.ensures.answer (problem_of c.args.problem.now) c.args.budget c.requires.some (record {
      inputs = c.gates-gates.ensures.numbering.well_formed.few_inputs;
      gates = c.gates-gates.ensures.numbering.well_formed.few_gates;
      held = c.args.problem.now.held;
      pins = c.pins-pins.ensures.fit;
      moments = c.moments-moments.ensures.fit;
    }) (open_answer _ _ _ _ _ _ (rw c.in-Between.is at c.requires.known))
    (rw (c.in-Ok-Some.field-0-is, c.pins-pins.ensures.pins) at c.in-Ok-Some.ensures.bound)
    (rw c.pins-pins.ensures.pins at (c.in-Ok-Some.ensures.sound c.in-Ok-Some.bound c.in-Ok-Some.field-0-is))).1

pub returns-in-Ok-Some-clause-edges : goal.returns-in-Ok-Some-clause-edges
returns-in-Ok-Some-clause-edges c =
    let known = rw c.in-Between.is at c.requires.known in
    within_bound (problem_of c.args.problem.now) c.bounded.result c.in-Ok-Some.bound
    (λ other is. c.in-Ok-Some.ensures.only other (rw c.pins-pins.ensures.pins is) ∙ c.in-Ok-Some.field-0-is)
    (c.bounded.ensures.edges ((rw c.pins-pins.ensures.pins at (c.in-Ok-Some.ensures.sound c.in-Ok-Some.bound c.in-Ok-Some.field-0-is))
    c.in-Between.pair c.in-Between.low known.reached.0.pinned known.reached.1))

pub returns-in-Ok-Some-clause-time : goal.returns-in-Ok-Some-clause-time
returns-in-Ok-Some-clause-time c = λ can_be_set needs. c.bounded.ensures.time can_be_set (rw c.in-Between.is at needs)

pub returns-in-Ok-None-clause-edges : goal.returns-in-Ok-None-clause-edges
returns-in-Ok-None-clause-edges c =
    within_none (problem_of c.args.problem.now) c.between.result
    (λ other is. c.in-Ok-None.ensures.only other (rw c.pins-pins.ensures.pins is) ∙ c.in-Ok-None.field-0-is)
