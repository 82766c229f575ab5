use Rattle.std.proofs.Common.{length, sym, subst, ◌∙◌, arith}
use Rattle.td_search.specs.Best.{IsKept}
use Rattle.td_search.specs.Problems.{problem_of}
use Rattle.td_search.proofs.Bounded.{vectors_inside}
use Rattle.td_search.proofs.Decided.{raised}
use Rattle.td_search.proofs.best.BestKeeper.offer_pair.Goals as goal

pub put-requires-clause-first : goal.put-requires-clause-first
put-requires-clause-first c =
    let admit = c.args.problem.now.admit.now in
    (vectors_inside (length admit.held) admit.pins c.args.self.now.pair c.pins-pins.ensures.fit c.requires.keeps.0.0.pinned).0
    ∙ sym (vectors_inside (length admit.held) admit.pins c.args.timed.now.pair c.pins-pins.ensures.fit c.requires.timed.admitted.pinned).0

pub put-requires-clause-second : goal.put-requires-clause-second
put-requires-clause-second c =
    let admit = c.args.problem.now.admit.now in
    (vectors_inside (length admit.held) admit.pins c.args.self.now.pair c.pins-pins.ensures.fit c.requires.keeps.0.0.pinned).1
    ∙ sym (vectors_inside (length admit.held) admit.pins c.args.timed.now.pair c.pins-pins.ensures.fit c.requires.timed.admitted.pinned).1

pub returns-then-timed-time-clause-keeps : goal.returns-then-timed-time-clause-keeps
returns-then-timed-time-clause-keeps c =
    let given = c.args.problem.now in
    let same = c.time.ensures in
    let more = c.if-timed-time.true in
    subst (IsKept (problem_of given)) (sym c.put.ensures)
    (raised (problem_of given) c.args.self.now c.args.timed.now.time c.args.timed.now.pair c.requires.keeps (c.requires.timed.admitted, c.requires.timed.delay) (omega (arith, same, more)))
