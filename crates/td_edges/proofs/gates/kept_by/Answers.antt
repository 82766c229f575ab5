use Rattle.std.specs.Prelude.{filter_map, slice_get}
use Rattle.td_gates.specs.Table.{controlling}
use Rattle.td_edges.specs.EdgeSignals.{settled}
use Rattle.td_edges.proofs.Picks.{kept-none, kept-step}
use Rattle.td_edges.proofs.gates.kept_by.Goals as goal

pub returns-then-is_none : goal.returns-then-is_none
returns-then-is_none c = kept-none c.controlling_level-control.result (controlling c.args.kind) (settled c.args.kind)
    (filter_map (slice_get c.args.all.now) c.args.ins.now) c.args.span c.controlling_level-control.ensures c.if-is_none.ensures

pub loop-place-preserved : goal.loop-place-preserved
loop-place-preserved c =
    kept-step _ _ c.loop-place.place-index _ c.loop-place-test.true (c.requires _ 0 c.loop-place-test.true) _ _ _ _ _ _
    c.loop-place.invariant c.capped.ensures c.raised-kept.ensures
