use Rattle.td_domain.specs.PairBits.{AreAdmitted}
use Rattle.td_refute.proofs.pairs.put_all.Given as goal

abbrev pub invariant-loop-input : goal.invariant-loop-input
invariant-loop-input l = AreAdmitted l.admit l.pair
