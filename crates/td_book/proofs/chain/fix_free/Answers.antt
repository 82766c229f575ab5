use Rattle.std.proofs.Common.{◌+◌, ◌<◌, ◌≤◌, List, length, sym, subst, arith}
use Rattle.td_domain.specs.declared.cubes.Trit.{Trit}
use Rattle.td_domain.specs.declared.cubes.Trit.TheVariants.{Zero}
use Rattle.td_book.proofs.Overlays.{IsFixedBelow, fixed_free, kept_known, all_fixed}
use Rattle.td_book.proofs.chain.fix_free.Goals as goal
use Rattle.td_book.proofs.chain.fix_free.Goals.{then-is_free, else-is_free}

pub loop-position-preserved : goal.loop-position-preserved
loop-position-preserved c =
    let was : List Trit = c.args.cube.now in
    let others : List Trit = c.args.other.now in
    let cube : List Trit = c.loop-position.cube in
    let long = c.loop-position.auto.cube in
    let lt : c.loop-position.position < length cube = let h = c.loop-position-test.true in let e = c.loop-position.auto.position-end in let k = c.loop-position.invariant.long in omega arith in
    elim c.if-is_free.branch [
      | then-is_free w ↦ subst (λ (l : List Trit). IsFixedBelow was others l (c.loop-position.position + 1)) (sym w.cube-is)
          (fixed_free was others cube c.loop-position.position w.trit.result Zero lt (sym w.if-is_free.ensures) w.trit.ensures c.loop-position.invariant)
      | else-is_free w ↦ subst (λ (l : List Trit). IsFixedBelow was others l (c.loop-position.position + 1)) (sym w.cube-is)
          (kept_known was others cube c.loop-position.position Zero (sym w.if-is_free.ensures) c.loop-position.invariant)
    ]

pub returns : goal.returns
returns c =
    let over : length c.loop-position.cube ≤ c.loop-position.position = let h = c.loop-position-test.false in let e = c.loop-position.auto.position-end in let k = c.loop-position.invariant.long in omega arith in
    all_fixed c.args.cube.now c.args.other.now c.loop-position.cube c.loop-position.position over c.loop-position.invariant
