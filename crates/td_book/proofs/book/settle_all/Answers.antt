use Rattle.std.proofs.Common.{◌≡◌, ◌<◌, ◌++◌, List, length, get_or, refl, ap, subst, ◌∙◌, arith}
use Rattle.std.specs.Prelude.{slice_get, Some}
use Rattle.std.proofs.lemmas.Option.{slice_get-get_or}
use Rattle.td_domain.specs.declared.cubes.Trit.TheVariants.{Free}
use Rattle.td_book.specs.declared.node.State.{State}
use Rattle.td_book.specs.declared.node.State.TheVariants.{Split, Open}
use Rattle.td_book.specs.Grafting.{leaf_nodes}
use Rattle.td_book.specs.Steps.{Fits}
use Rattle.td_book.proofs.Books.{free_below}
use Rattle.td_book.proofs.Grafting.{settling_starts, settling_next, settling_goes_on}
use Rattle.td_book.proofs.book.settle_all.Goals as goal

pub loop-state-init : goal.loop-state-init
loop-state-init c = record {
  cube = refl;
  space = refl;
  capacity = refl;
  settling = settling_starts _ 0 0 _ _ _ _ _ (record { before = c.requires.place.before; after = c.requires.place.after; rest = c.requires.place.rest; is = c.requires.place.is; cube_is = c.requires.place.cube_is }) c.requires.wide c.requires.fits;
}

pub settle-requires-clause-pending : goal.settle-requires-clause-pending
settle-requires-clause-pending c =
    let all : List State = c.args.states.now in
    let s : State = get_or all c.loop-state.state-index (Split 0) in
    let low : c.loop-state.state-index < length all = let t = c.loop-state-test.true in omega arith in
    let is_next : slice_get all c.loop-state.state-index ≡ Some s = slice_get-get_or all c.loop-state.state-index (Split 0) low in
    let so_far = c.loop-state.invariant.settling in
    let x = settling_next _ _ _ _ _ _ _ _ _ so_far s is_next in
    (so_far.before, leaf_nodes x.others ++ so_far.after, Open, x.is, refl)

pub settle-requires-clause-position : goal.settle-requires-clause-position
settle-requires-clause-position c = λ p e.
    let all : List State = c.args.states.now in
    let s : State = get_or all c.loop-state.state-index (Split 0) in
    let low : c.loop-state.state-index < length all = let t = c.loop-state-test.true in omega arith in
    let is_next : slice_get all c.loop-state.state-index ≡ Some s = slice_get-get_or all c.loop-state.state-index (Split 0) low in
    let x = settling_next _ _ _ _ _ _ _ _ _ c.loop-state.invariant.settling s is_next in
    let fits : slice_get x.leaf.cube p ≡ Some Free = subst (λ (t : State). Fits x.leaf.cube t) e x.fits in
    let below = free_below x.leaf.cube p Free fits in
    let wide = x.wide in let top = ap length c.loop-state.invariant.cube in
    omega arith

pub loop-state-preserved : goal.loop-state-preserved
loop-state-preserved c =
    let all : List State = c.args.states.now in
    let s : State = get_or all c.loop-state.state-index (Split 0) in
    let low : c.loop-state.state-index < length all = let t = c.loop-state-test.true in omega arith in
    let is_next : slice_get all c.loop-state.state-index ≡ Some s = slice_get-get_or all c.loop-state.state-index (Split 0) low in
    record {
      cube = c.settle.ensures.cube ∙ c.loop-state.invariant.cube;
      space = c.settle.ensures.space ∙ c.loop-state.invariant.space;
      capacity = c.push_reserved.ensures.capacity ∙ c.loop-state.invariant.capacity;
      settling = settling_goes_on _ _ _ _ _ _ _ _ _ c.loop-state.invariant.settling s is_next _ _ _ c.settle.ensures.nodes c.push_reserved.ensures.items c.next-at.ensures.next c.next-at.ensures.once low;
    }
