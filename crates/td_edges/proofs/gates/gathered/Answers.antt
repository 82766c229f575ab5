use Rattle.std.proofs.Common.{◌<◌, ◌∙◌, ap, length, map, take_all}
use Rattle.std.specs.Prelude.{filter_map, slice_get}
use Rattle.std.proofs.lemmas.List.{length-map}
use Rattle.std.proofs.lemmas.List.Elements.{recursion_from_All}
use Rattle.td_domain.proofs.Lists.{length-picked}
use Rattle.td_gates.specs.Counts.{counts_of}
use Rattle.td_edges.specs.declared.signals.Signal.{Signal}
use Rattle.td_edges.proofs.Picks.{hull-step, starts-step, finishes-step, low-step}
use Rattle.td_edges.proofs.gates.gathered.Goals as goal

pub loop-place-preserved : goal.loop-place-preserved
loop-place-preserved c =
    let here = c.loop-place-test.true in
    let place = c.requires.places _ 0 here in
    let old = c.loop-place.invariant in record {
      starts = starts-step _ _ c.loop-place.place-index _ here place _ _ old.starts c.add.ensures;
      finishes = finishes-step _ _ c.loop-place.place-index _ here place _ _ old.finishes c.add-in-loop-place.ensures;
      changes = hull-step _ _ c.loop-place.place-index _ here place _ _ old.changes c.around_both-changes.ensures;
      few_starts = low-step _ _ _ _ c.add.ensures old.few_starts;
      few_finishes = low-step _ _ _ _ c.add-in-loop-place.ensures old.few_finishes;
    }

pub returns-clause-start : goal.returns-clause-start
returns-clause-start c = c.eval_counts.ensures.table (map (λ (signal : Signal). signal.start) (filter_map (slice_get c.args.all.now) c.args.ins.now))
    (rw (length-map, length-picked c.args.all.now c.args.ins.now (recursion_from_All (λ place. place < length c.args.all.now) c.args.ins.now c.requires.places)) c.requires.takes)
    (c.loop-place.invariant.starts
    ∙ ap (λ places. counts_of (map (λ (signal : Signal). signal.start) (filter_map (slice_get c.args.all.now) places))) (take_all _ _ c.loop-place-test.false))

pub returns-clause-finish : goal.returns-clause-finish
returns-clause-finish c = c.eval_counts-2.ensures.table (map (λ (signal : Signal). signal.finish) (filter_map (slice_get c.args.all.now) c.args.ins.now))
    (rw (length-map, length-picked c.args.all.now c.args.ins.now (recursion_from_All (λ place. place < length c.args.all.now) c.args.ins.now c.requires.places)) c.requires.takes)
    (c.loop-place.invariant.finishes
    ∙ ap (λ places. counts_of (map (λ (signal : Signal). signal.finish) (filter_map (slice_get c.args.all.now) places))) (take_all _ _ c.loop-place-test.false))
