use Rattle.std.proofs.Common.{◌≡◌, ◌+◌, ℕ, min, get_or, sym, subst}
use Rattle.td_event_sim.specs.Earliest.{IsLeast}
use Rattle.td_event_sim.proofs.Blocks.{least-more}
use Rattle.td_event_sim.proofs.earliest.least.Goals as goal

pub loop-place-preserved : goal.loop-place-preserved
loop-place-preserved c =
    let is : c.min-least.result ≡ min c.loop-place.least (get_or c.args.moments.now c.loop-place.place 0) = c.min-least.ensures in
    subst (λ (least : ℕ). IsLeast c.args.start (c.loop-place.place + 1) c.args.moments.now least) (sym is)
    (least-more c.args.start c.loop-place.place c.args.moments.now c.loop-place.least c.loop-place.auto.place c.loop-place.invariant)
