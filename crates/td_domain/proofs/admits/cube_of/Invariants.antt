use Rattle.std.proofs.Common.{◌≡◌, ◌++◌, drop}
use Rattle.td_domain.specs.PairCubes.{cube_of}
use Rattle.td_domain.proofs.admits.cube_of.Given as goal

abbrev pub invariant-loop-input : goal.invariant-loop-input
invariant-loop-input l = l.trits.items ++ cube_of (drop l.input l.pair.first) (drop l.input l.pair.second) ≡ cube_of l.pair.first l.pair.second
