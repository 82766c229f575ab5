use Rattle.std.proofs.Common.{ℕ, ◌-◌, length, sym, true≢false, arith}
use Rattle.td_pool.specs.Frontiers.{BeginsAt}
use Rattle.td_pool.proofs.Covers.{none_more, read_at, stands_below}
use Rattle.td_pool.proofs.frontier.place_of.Goals as goal

pub loop-behind-init : goal.loop-behind-init
loop-behind-init c = λ place leaf at far begins. absurd (let e = stands_below c.args.leaves.now place leaf at in omega (arith, e, far))

pub loop-behind-preserved : goal.loop-behind-preserved
loop-behind-preserved c =
    let place : ℕ = length c.args.leaves.now - 1 - c.loop-behind.behind in
    let inside = c.loop-behind-test.true in
    none_more (BeginsAt c.args.evidence.now) c.args.leaves.now c.loop-behind.behind place c.index-leaves-place.result
    (read_at c.args.leaves.now place c.index-leaves-place.result (omega (arith, inside)) c.index-leaves-place.is) (omega (arith, inside))
    (λ begins. true≢false (sym (c.if-begins_at.ensures.1 begins))) c.loop-behind.invariant

pub returns : goal.returns
returns c = λ place leaf at. c.loop-behind.invariant place leaf at (omega (arith, c.loop-behind-test.false))
