use Rattle.std.proofs.Common.{◌≡◌, List, length, take, take_all, refl, sym, subst, ◌∙◌, arith}
use Rattle.td_domain.specs.declared.cubes.Trit.{Trit}
use Rattle.td_domain.specs.Pairs.{Pair}
use Rattle.td_domain.specs.Cubes.{IsIn}
use Rattle.td_pool.proofs.Pins.{ArePinned, one_more_pinned, pinned_inside}
use Rattle.td_pool.proofs.shared.is_within.Goals as goal

pub loop-position-preserved : goal.loop-position-preserved
loop-position-preserved c =
    one_more_pinned c.pins-pins.result.now c.args.cube.now c.loop-position.position c.trit.result c.trit-in-loop-position.result c.loop-position.invariant
    c.trit.ensures c.trit-in-loop-position.ensures (c.if-not-is_pinned.ensures refl)

pub returns : goal.returns
returns c =
    let pins : List Trit = c.pins-pins.result.now in
    let cube : List Trit = c.args.cube.now in
    let past = c.loop-position-test.false in
    let end = c.len-position-end.ensures in
    let size : length cube ≡ length pins = sym c.len.ensures ∙ (c.if-len.false ∙ c.len-2.ensures) in
    let all_pins : take c.loop-position.position pins ≡ pins = take_all c.loop-position.position pins (omega arith) in
    let all_cube : take c.loop-position.position cube ≡ cube = take_all c.loop-position.position cube (omega arith) in
    let pinned : ArePinned pins cube =
    subst (λ (l : List Trit). ArePinned l cube) all_pins (subst (λ (l : List Trit). ArePinned (take c.loop-position.position pins) l) all_cube c.loop-position.invariant) in
    λ yes. subst (λ (q : List Trit). (length cube ≡ length q) × ((pair : Pair) → IsIn pair cube → IsIn pair q)) c.pins-pins.ensures.pins
    (size, λ pair is_in. pinned_inside pins cube pair.first pair.second pinned is_in)
