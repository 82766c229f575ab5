use Rattle.std.proofs.Common.{length, sym, subst, arith}
use Rattle.td_search.specs.Best.{IsKept}
use Rattle.td_search.specs.Problems.{problem_of}
use Rattle.td_search.specs.Representatives.{representative}
use Rattle.td_search.proofs.Bounded.{vectors_inside}
use Rattle.td_search.proofs.Decided.{raised}
use Rattle.td_search.proofs.best.BestKeeper.offer.Goals as goal

pub replace-requires-clause-first : goal.replace-requires-clause-first
replace-requires-clause-first c =
    let admit = c.args.problem.now.admit.now in
    (vectors_inside (length admit.held) admit.pins c.args.self.now.pair c.pins-pins.ensures.fit c.requires.keeps.0.0.pinned).0

pub replace-requires-clause-second : goal.replace-requires-clause-second
replace-requires-clause-second c =
    let admit = c.args.problem.now.admit.now in
    (vectors_inside (length admit.held) admit.pins c.args.self.now.pair c.pins-pins.ensures.fit c.requires.keeps.0.0.pinned).1

pub returns-then-time-clause-keeps : goal.returns-then-time-clause-keeps
returns-then-time-clause-keeps c =
    let given = c.args.problem.now in
    let same = c.time.ensures in
    let more = c.if-time.true in
    subst (IsKept (problem_of given)) (sym c.replace.ensures)
    (raised (problem_of given) c.args.self.now c.args.time (representative given.admit.now c.args.cube.now) c.requires.keeps c.requires.measured.is (omega (arith, same, more)))
