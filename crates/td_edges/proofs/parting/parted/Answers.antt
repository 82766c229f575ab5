use Rattle.std.proofs.Common.{◌∙◌, ap, take_all}
use Rattle.std.specs.Prelude.{filter_map, slice_get}
use Rattle.td_edges.specs.Parting.{no_parts, parted}
use Rattle.td_edges.proofs.Picks.{parts-step}
use Rattle.td_edges.proofs.parting.parted.Goals as goal

pub loop-place-preserved : goal.loop-place-preserved
loop-place-preserved c =
    parts-step _ _ c.loop-place.place-index _ c.loop-place-test.true (c.requires _ 0 c.loop-place-test.true) (no_parts c.args.parity) _ _
    c.loop-place.invariant c.parted_with-parts.ensures

pub returns : goal.returns
returns c = c.loop-place.invariant
    ∙ ap (λ places. parted (no_parts c.args.parity) (filter_map (slice_get c.args.all.now) places)) (take_all _ _ c.loop-place-test.false)
