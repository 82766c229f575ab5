use Rattle.td_domain.specs.PairBits.{AreAdmitted}
use Rattle.td_climb.proofs.taking.take.Given as goal

abbrev pub invariant-loop-input : goal.invariant-loop-input
invariant-loop-input l = AreAdmitted l.admit l.bits

abbrev pub invariant-loop-differs : goal.invariant-loop-differs
invariant-loop-differs l = AreAdmitted l.admit l.bits
