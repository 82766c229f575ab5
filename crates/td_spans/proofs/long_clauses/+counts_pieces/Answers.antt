use Rattle.std.proofs.Common.{◌/◌, length, sym, ◌∙◌}
use Rattle.td_spans.specs.Pieces.{trit_said}
use Rattle.td_spans.proofs.Tellings.{counts_all, counts_merged}
use Rattle.td_spans.proofs.long_clauses.+counts_pieces.Goals as goal

pub returns-then-are_all : goal.returns-then-are_all
returns-then-are_all t c = λ place.
    c.in_ok-pieces-in_default.ensures place
    ∙ counts_all (λ net. trit_said c.args.said.now net place) c.args.nets.now _ (sym c.are_all.ensures ∙ c.if-are_all.true)

pub returns-in_ok-pieces-in_default-2 : goal.returns-in_ok-pieces-in_default-2
returns-in_ok-pieces-in_default-2 t c = counts_merged c.args.said.now c.args.nets.now (length c.args.nets.now / 2)
    c.in_ok-low-in_default.low.items c.in_ok-high-in_default.high.items c.in_ok-pieces-in_default-2.pieces.items c.requires
    c.in_ok-low-in_default.ensures c.in_ok-high-in_default.ensures (rw (c.deref.ensures.value, c.deref-in_default.ensures.value) at c.in_ok-pieces-in_default-2.ensures)
