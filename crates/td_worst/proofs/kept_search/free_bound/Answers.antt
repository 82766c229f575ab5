use Rattle.std.proofs.Common.{ap, arith}
use Rattle.std.specs.Prelude.{Some}
use Rattle.td_search.specs.declared.strategy.Strategy.TheVariants.{Least}
use Rattle.td_search.proofs.Bounded.{above_bound}
use Rattle.td_worst.proofs.Edged.{or_zero}
use Rattle.td_worst.proofs.kept_search.free_bound.Goals as goal

pub returns-in-Some-clause-sound : goal.returns-in-Some-clause-sound
returns-in-Some-clause-sound c = λ pair delay is_in has.
    (let one = above_bound Least c.args.circuit.now c.gates-gates.ensures.numbering c.moments-moments.ensures.fit c.args.cube.now c.in_ok-high.high pair delay
    c.in_ok-high.ensures.bound is_in has in
    let other = c.in_ok-bound.ensures.sound c.in-Some.bound c.in-Some.is pair delay is_in has in
    omega (arith, c.min.ensures))

pub returns-in-Some-clause-edges : goal.returns-in-Some-clause-edges
returns-in-Some-clause-edges c = λ bound has.
    (let same = ap or_zero (c.in_ok-bound.ensures.only (Some bound) has) in let is = ap or_zero c.in-Some.is in omega (arith, c.min.ensures))

pub returns-in-None-clause-sound : goal.returns-in-None-clause-sound
returns-in-None-clause-sound c = λ pair delay is_in has.
    above_bound Least c.args.circuit.now c.gates-gates.ensures.numbering c.moments-moments.ensures.fit c.args.cube.now c.in_ok-high.high pair delay
    c.in_ok-high.ensures.bound is_in has

pub returns-in-None-clause-edges : goal.returns-in-None-clause-edges
returns-in-None-clause-edges c = λ bound has. absurd (let e = c.in_ok-bound.ensures.only (Some bound) has in let none = c.in-None.is in cc)
