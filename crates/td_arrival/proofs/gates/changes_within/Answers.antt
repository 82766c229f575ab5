use Rattle.std.proofs.Common.{◌≡◌, ◌+◌, ◌-◌, ◌<◌, ◌≤◌, ◌^◌, ℕ, max, arith}
use Rattle.std.proofs.lemmas.List.Elements.{recursion_from_All}
use Rattle.std.specs.List.{AllByRecursion}
use Rattle.td_domain.proofs.Lists.{weaker}
use Rattle.td_gates.specs.Table.{controlling}
use Rattle.td_arrival.specs.Arrivals.{opens_at}
use Rattle.td_arrival.specs.Coverage.{span_reach}
use Rattle.td_arrival.specs.ArrivalLaws.{opens_reach, closes_within, Within}
use Rattle.td_arrival.proofs.gates.changes_within.Goals as goal

pub overflow_add-result : goal.overflow_add-result
overflow_add-result c =
    let most : ℕ = 10 ^ 15 - 1 - max c.args.delay.rise c.args.delay.fall in
    let each : AllByRecursion (Within most) c.args.signals.now =
    weaker _ _ (λ signal small. omega arith) c.args.signals.now
    (recursion_from_All (λ signal. span_reach signal.changes + max c.args.delay.rise c.args.delay.fall < 10 ^ 15) c.args.signals.now c.requires.each) in
    let early : opens_at (controlling c.args.kind) c.args.span.earliest c.args.signals.now ≤ most =
    opens_reach (controlling c.args.kind) most c.args.span.earliest c.args.signals.now (omega (arith, c.requires.within)) each in
    let same : c.opening-earliest.result ≡ opens_at (controlling c.args.kind) c.args.span.earliest c.args.signals.now =
    rw c.controlling_level-control.ensures at c.opening-earliest.ensures in
    omega (arith, same, c.to.ensures.steps, early)

pub overflow_add-result-2 : goal.overflow_add-result-2
overflow_add-result-2 c =
    let late = closes_within c.controlling_level-control.result c.args.span.latest c.args.signals.now in
    omega (arith, c.closing-latest.ensures, c.slowest_to.ensures.few, c.requires.within, late)
