use Rattle.std.proofs.Common.{rules}
use Rattle.td_book.proofs.Grafting.{grafted_long}
use Rattle.td_book.proofs.counted.Counted.graft.Goals as goal

pub invariant_of-self-2 : goal.invariant_of-self-2
invariant_of-self-2 g c =
    let long = grafted_long c.args.self.now.book c.args.lease c.args.subtree _ _ c.in_ok-left.ensures.ok c.requires.cube c.states-settled.ensures.fits in
    record { counted = search rules }
