use Rattle.std.proofs.Common.{◌≡◌, ◌∙◌, Some, sym, arith}
use Rattle.std.specs.Prelude.{slice_get}
use Rattle.std.proofs.lemmas.Option.{slice_get_within}
use Rattle.td_domain.specs.declared.cubes.Trit.TheVariants.{Free}
use Rattle.td_join.specs.Joining.{AreKnownAt}
use Rattle.td_join.specs.Steps.{certificates_of}
use Rattle.td_join.proofs.Parting.{are_known, are_not_known, uncut_more, free_at, not_free_at}
use Rattle.td_join.proofs.parts.common_position.Goals as goal
use Rattle.td_join.proofs.parts.common_position.Goals.{else-eq-via-then-eq+else-are_known_at, else-eq-via-else-eq}

pub returns-then-are_known_at : goal.returns-then-are_known_at
returns-then-are_known_at c = (
  free_at c.args.group.now.cube c.loop-position.position c.trit.result c.trit.ensures (sym c.eq.ensures ∙ c.if-eq.true),
  are_known c.loop-position.position c.args.group.now.parts.items (rw (← c.deref.ensures.value) (sym c.are_known_at.ensures ∙ c.if-are_known_at.true)),
)

pub loop-position-preserved : goal.loop-position-preserved
loop-position-preserved c =
    uncut_more (λ k. slice_get c.args.group.now.cube k ≡ Some Free) (λ k. AreKnownAt k (certificates_of c.args.group.now.parts.items))
    c.loop-position.position c.loop-position.invariant
    (elim c.else-eq.branch [
      | else-eq-via-then-eq+else-are_known_at w ↦ λ free.
          are_not_known c.loop-position.position c.args.group.now.parts.items (rw (← w.deref.ensures.value) (sym w.are_known_at.ensures ∙ w.if-are_known_at.false))
      | else-eq-via-else-eq w ↦ λ free known.
          not_free_at c.args.group.now.cube c.loop-position.position c.trit.result c.trit.ensures (sym c.eq.ensures ∙ w.if-eq.false) free
    ])

pub returns : goal.returns
returns c position free = c.loop-position.invariant position (omega (arith, slice_get_within _ position Free free, c.loop-position-test.false, c.len-position-end.ensures)) free
