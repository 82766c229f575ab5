use Rattle.std.proofs.Common.{◌≡◌, length, get_or, take, true, false}
use Rattle.std.specs.List.{All}
use Rattle.td_circuit.specs.Numbering.{nets}
use Rattle.td_answer.proofs.sim.wanted_of.Given as goal

-- the nets so far are wanted
abbrev pub invariant-loop-net : goal.invariant-loop-net
invariant-loop-net l = record {
  count : length l.wanted.items ≡ length (nets l.circuit);
  these : All (λ net. get_or l.wanted.items net false ≡ true) (take l.net-index l.chosen);
}
