use Rattle.std.proofs.Common.{◌∙◌, List, take, sym, ap}
use Rattle.td_gates.specs.declared.timing.Change.{Change}
use Rattle.td_gates.specs.declared.primitives.Level.TheVariants.{Zero}
use Rattle.td_ternary.proofs.Capping.{kept-rising}
use Rattle.td_ternary.proofs.gates.capped.Goals as goal

abbrev origin : Change
origin = record { moment = 0; level = Zero }

pub from_changes-requires : goal.from_changes-requires
from_changes-requires c =
    kept-rising c.args.signal c.start-start.result c.changes-all.result.now c.truncate.new.self.items c.widen.new.changes.items origin
    c.start-start.ensures c.changes-all.ensures.changes c.if-all-le-MAX_CHANGES.false
    (c.truncate.ensures.items ∙ ap (λ (changes : List Change). take 511 changes) (c.into_changes-changes.ensures ∙ sym c.changes-all.ensures.changes))
    c.in_ok-widen.ensures c.changes-all.ensures.rising
