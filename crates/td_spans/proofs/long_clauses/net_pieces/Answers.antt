use Rattle.td_spans.proofs.Tellings.{net_merged}
use Rattle.td_spans.proofs.long_clauses.net_pieces.Goals as goal

pub returns : goal.returns
returns c = net_merged c.args.said.now c.args.net c.in_ok-first.first.items c.in_ok-rest.rest.items c.in_ok-pieces.pieces.items
    (rw (c.deref.ensures.value, c.in_ok-own.ensures) at c.in_ok-first.ensures) c.in_ok-rest.ensures (rw (c.deref-2.ensures.value, c.deref-3.ensures.value) at c.in_ok-pieces.ensures)
