use Rattle.std.proofs.Common.{◌≡◌, ℕ, ◌+◌, ◌*◌, List, length, drop, ap, arith}
use Rattle.td_domain.specs.declared.cubes.Trit.{Trit}
use Rattle.td_search.specs.Representatives.{forced_flip, forced_flips}
use Rattle.td_search.proofs.Bits.{forced_step, forced_done}
use Rattle.td_search.proofs.representatives.flips_left.Goals as goal

pub loop-i-preserved : goal.loop-i-preserved
loop-i-preserved c =
    let cube : List Trit = c.args.cube.now in
    let i : ℕ = c.loop-i.i in
    let was = c.loop-i.invariant in
    let left = c.saturating_sub-left.ensures in
    let flip = c.forced_flip.ensures.flip in
    let step : forced_flips (drop (2 * i) cube) ≡ forced_flip c.trit.result c.trit-in-loop-i.result + forced_flips (drop (2 * (i + 1)) cube) =
    forced_step cube i c.trit.result c.trit-in-loop-i.result c.trit.ensures c.trit-in-loop-i.ensures in
    omega arith

pub returns : goal.returns
returns c =
    let count : length c.held-i-end.result.now ≡ length c.args.admit.now.held = ap length c.held-i-end.ensures in
    let over = c.loop-i-test.false in
    let long = c.requires in
    let none = forced_done c.args.cube.now c.loop-i.i (omega arith) in
    let was = c.loop-i.invariant in
    omega arith
