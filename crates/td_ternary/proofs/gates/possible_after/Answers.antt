use Rattle.std.proofs.Common.{◌≡◌, ◌∙◌, ap}
use Rattle.td_gates.specs.declared.timing.Change.{Change}
use Rattle.td_gates.specs.declared.primitives.Level.{Level}
use Rattle.td_gates.specs.declared.primitives.Level.TheVariants.{Zero, One}
use Rattle.td_ternary.specs.Prospects.{begun}
use Rattle.td_ternary.specs.Tracks.{outlook_of}
use Rattle.td_ternary.proofs.Passing.{IsShown, begun-level, both, buffer, kept-possible, kept-end, kept-on, kept-rising}
use Rattle.td_ternary.proofs.gates.possible_after.Goals as goal

abbrev origin : Change
origin = record { moment = 0; level = Zero }

pub loop-change-preserved : goal.loop-change-preserved
loop-change-preserved c = kept-on c.args.delay c.reversed-reversed.result c.args.target.now c.changes-change-items.result.now c.loop-change.changes.items _
    (outlook_of c.loop-change.now) (outlook_of c.in_ok-next.next) c.loop-change.change-index origin c.loop-change-test.true c.loop-change.invariant c.in_ok-next.ensures.changes c.in_ok-next.ensures.outlook

shown : (c : goal.In_ok-finish)
    → IsShown 0 (begun c.args.target.now.start).level c.finish.new.changes.items
    (both (buffer Zero c.reversed-reversed.result c.args.target.now) (buffer One c.args.delay c.args.target.now))
shown c = kept-end c.args.delay c.reversed-reversed.result c.args.target.now c.changes-change-items.result.now c.loop-change.changes.items _
    (outlook_of c.loop-change.now) c.loop-change.change-index c.loop-change-test.false c.reversed-reversed.ensures.in_range c.reversed-reversed.ensures.exchanged
    c.loop-change.invariant c.in_ok-finish.ensures

start : (c : goal.In_ok-finish) → c.start-start.result ≡ (begun c.args.target.now.start).level
start c = begun-level c.start-start.result ∙ ap (λ (level : Level). (begun level).level) c.start-start.ensures

pub from_changes-requires : goal.from_changes-requires
from_changes-requires c = kept-rising c.args.delay c.reversed-reversed.result c.args.target.now c.start-start.result _ (start c) (shown c)

pub returns-clause-shows : goal.returns-clause-shows
returns-clause-shows c = kept-possible c.args.delay c.reversed-reversed.result c.args.target.now _ _ _ c.reversed-reversed.ensures.in_range
    c.changes-change-items.ensures.rising c.reversed-reversed.ensures.exchanged (start c.before) (shown c.before) c.from_changes.ensures
