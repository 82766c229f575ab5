use Rattle.td_checker.proofs.Points.{AreBits}
use Rattle.td_checker.proofs.pairs.pair_of.Given as goal

abbrev pub invariant-loop-input : goal.invariant-loop-input
invariant-loop-input l = AreBits l.cube l.input l.first.items l.second.items
