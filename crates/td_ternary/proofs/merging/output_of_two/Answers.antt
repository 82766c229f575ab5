use Rattle.std.proofs.Common.{◌≡◌, refl, drop, None, Some}
use Rattle.td_gates.specs.declared.primitives.Level.TheVariants.{Zero, One}
use Rattle.td_ternary.specs.Merging.{first_moment}
use Rattle.td_ternary.specs.Prospects.{earlier, begun}
use Rattle.td_ternary.specs.Tracks.{outlook_of}
use Rattle.td_ternary.proofs.Passing.{IsShown, both, buffer}
use Rattle.td_ternary.proofs.Ahead.{target_of, merging-init, merging-on, merging-end, merged-rising, merged-possible, next-is, next-within, next-shorter}
use Rattle.td_ternary.proofs.merging.output_of_two.Goals as goal

pub loop-moment-init : goal.loop-moment-init
loop-moment-init c = merging-init c.args.kind c.args.delay c.reversed-falling.result c.args.left.now c.args.right.now
    c.changes-lefts.result.now c.changes-rights.result.now c.start.result c.start-2.result c.level_of_two-start.result c.begun-now.result.target _ _
    c.changes-lefts.ensures.rising c.changes-rights.ensures.rising c.changes-lefts.ensures.changes c.changes-rights.ensures.changes
    c.start.ensures c.start-2.ensures c.level_of_two-start.ensures c.begun-now.ensures.target c.begun-now.ensures.outlook c.requires.space

pub shift-requires : goal.shift-requires
shift-requires c = next-within 9223372036854775808 c.in-Some.moment c.changes-lefts.result.now c.changes-rights.result.now c.loop-moment.first.place c.loop-moment.second.place
    (rw c.changes-lefts.ensures.changes c.requires.left) (rw c.changes-rights.ensures.changes c.requires.right)
    (next-is c.moment_at.result c.moment_at-in-loop-moment.result _ _ (Some c.in-Some.moment)
    c.moment_at.ensures c.moment_at-in-loop-moment.ensures c.in-Some.ensures)

is_next : (c : goal.In_ok-next)
    → earlier (first_moment (drop c.loop-moment.first.place c.changes-lefts.result.now)) (first_moment (drop c.loop-moment.second.place c.changes-rights.result.now)) ≡ Some c.in-Some.moment
is_next c = next-is c.moment_at.result c.moment_at-in-loop-moment.result _ _ (Some c.in-Some.moment)
    c.moment_at.ensures c.moment_at-in-loop-moment.ensures c.in-Some.ensures

pub loop-moment-smaller : goal.loop-moment-smaller
loop-moment-smaller c = rw (c.read-first.ensures.rest, c.read-second.ensures.rest) (next-shorter c.in-Some.moment _ _ (is_next c))

pub loop-moment-preserved : goal.loop-moment-preserved
loop-moment-preserved c = merging-on c.args.kind c.args.delay c.reversed-falling.result c.args.left.now c.args.right.now
    c.in-Some.moment (drop c.loop-moment.first.place c.changes-lefts.result.now) (drop c.loop-moment.second.place c.changes-rights.result.now) _ _
    c.loop-moment.first.level c.loop-moment.second.level _ _ c.loop-moment.now.target c.level_of_two-level.result _ c.loop-moment.changes.items _
    (outlook_of c.loop-moment.now) (outlook_of c.in_ok-next.next) (is_next c) c.loop-moment.invariant
    c.read-first.ensures.rest c.read-second.ensures.rest c.read-first.ensures.level c.read-second.ensures.level c.level_of_two-level.ensures c.in_ok-next.ensures.target
    c.in_ok-next.ensures.outlook c.in_ok-next.ensures.changes

none_next : (c : goal.In_ok-finish)
    → earlier (first_moment (drop c.loop-moment.first.place c.changes-lefts.result.now)) (first_moment (drop c.loop-moment.second.place c.changes-rights.result.now)) ≡ None
none_next c = next-is c.moment_at.result c.moment_at-in-loop-moment.result _ _ None
    c.moment_at.ensures c.moment_at-in-loop-moment.ensures c.in_default.ensures

shown : (c : goal.In_ok-finish)
    → IsShown 0 (begun (target_of c.args.kind c.args.left.now c.args.right.now).start).level c.finish.new.changes.items
    (both (buffer Zero c.reversed-falling.result (target_of c.args.kind c.args.left.now c.args.right.now)) (buffer One c.args.delay (target_of c.args.kind c.args.left.now c.args.right.now)))
shown c = merging-end c.args.kind c.args.delay c.reversed-falling.result c.args.left.now c.args.right.now _ _ c.loop-moment.first.level c.loop-moment.second.level
    c.loop-moment.now.target c.loop-moment.changes.items _ (outlook_of c.loop-moment.now) c.reversed-falling.ensures.in_range c.reversed-falling.ensures.exchanged
    (none_next c) c.loop-moment.invariant c.in_ok-finish.ensures

start : (c : goal.In_ok-finish) → c.level_of_two-start.result ≡ (target_of c.args.kind c.args.left.now c.args.right.now).start
start c = rw (c.level_of_two-start.ensures, c.start.ensures, c.start-2.ensures) refl

pub from_changes-requires : goal.from_changes-requires
from_changes-requires c = merged-rising c.args.kind c.args.delay c.reversed-falling.result c.args.left.now c.args.right.now c.level_of_two-start.result _ (start c) (shown c)

pub returns-clause-shows : goal.returns-clause-shows
returns-clause-shows c = merged-possible c.args.kind c.args.delay c.reversed-falling.result c.args.left.now c.args.right.now _ _ _
    c.reversed-falling.ensures.in_range c.changes-lefts.ensures.rising c.changes-rights.ensures.rising c.reversed-falling.ensures.exchanged
    (start c.before) (shown c.before) c.from_changes.ensures
