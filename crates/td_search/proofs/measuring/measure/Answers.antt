use Rattle.std.proofs.Common.{◌*◌, length, ap, subst, ◌∙◌}
use Rattle.td_domain.specs.Pairs.{Pair}
use Rattle.td_search.specs.Deciding.{IsMeasured}
use Rattle.td_search.specs.Problems.{problem_of}
use Rattle.td_search.proofs.Bounded.{vectors_inside}
use Rattle.td_search.proofs.measuring.measure.Goals as goal

pub delay_until-requires-clause-first_fits : goal.delay_until-requires-clause-first_fits
delay_until-requires-clause-first_fits c =
    let given = c.args.problem.now in
    (vectors_inside (length given.circuit.now.netlist.inputs) c.args.cube.now c.in_ok-representative.representative
    (c.requires.within.0 ∙ (c.pins-pins.ensures.fit ∙ ap (λ n. 2 * n) given.held)) c.in_ok-representative.ensures.inside).0

pub delay_until-requires-clause-second_fits : goal.delay_until-requires-clause-second_fits
delay_until-requires-clause-second_fits c =
    let given = c.args.problem.now in
    (vectors_inside (length given.circuit.now.netlist.inputs) c.args.cube.now c.in_ok-representative.representative
    (c.requires.within.0 ∙ (c.pins-pins.ensures.fit ∙ ap (λ n. 2 * n) given.held)) c.in_ok-representative.ensures.inside).1

pub returns-clause-measured : goal.returns-clause-measured
returns-clause-measured c =
    subst (λ (pair : Pair). IsMeasured (problem_of c.args.problem.now) pair c.in_ok-time.time) c.in_ok-representative.ensures.pair
    (record { is = (c.in_ok-representative.ensures.admitted, c.in_ok-time.ensures.delay); only = λ other h. c.in_ok-time.ensures.only other h.1 })
