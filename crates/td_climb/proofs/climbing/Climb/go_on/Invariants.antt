use Rattle.td_domain.specs.PairBits.{AreAdmitted}
use Rattle.td_climb.proofs.climbing.Climb.go_on.Given as goal

abbrev pub invariant-loop : goal.invariant-loop
invariant-loop l = AreAdmitted l.admit l.self
