use Rattle.std.proofs.Common.{◌/◌, length}
use Rattle.td_spans.proofs.Tellings.{told_merged}
use Rattle.td_spans.proofs.pieces.+by_sayings.Goals as goal

pub returns-in_ok-pieces-in_default : goal.returns-in_ok-pieces-in_default
returns-in_ok-pieces-in_default t c = told_merged c.args.sayings.now (length c.args.sayings.now / 2) c.in_ok-low-in_default.low.items c.in_ok-high-in_default.high.items c.in_ok-pieces-in_default.pieces.items
    c.in_ok-low-in_default.ensures c.in_ok-high-in_default.ensures (rw (c.deref.ensures.value, c.deref-in_default.ensures.value) at c.in_ok-pieces-in_default.ensures)
