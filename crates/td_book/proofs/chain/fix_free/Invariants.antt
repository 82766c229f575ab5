use Rattle.td_book.proofs.Overlays.{IsFixedBelow}
use Rattle.td_book.proofs.chain.fix_free.Given as goal

abbrev pub invariant-loop-position : goal.invariant-loop-position
invariant-loop-position l = IsFixedBelow l.fn.cube l.other l.cube l.position
