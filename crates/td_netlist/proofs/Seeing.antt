-- A terminal that is seen, and no more.
use Rattle.std.proofs.Common.{◌≡◌, Result, Ok, ap}
use Rattle.td_syntax.specs.Grammar as grammar
use Rattle.td_netlist.specs.declared.fault.Fault.{Fault}
use Rattle.td_nets.specs.Netlist.{Net}
use Rattle.td_netlist.specs.Faults.{Fails, ◌>>=◌}
use Rattle.td_netlist.specs.Checks.{Drivers, seen, see}
use Rattle.td_netlist.proofs.Walks.{fails_behind}

pub see_ok : (s : Drivers) (t : grammar.Terminal) (net : Net) (u : Drivers) → seen s t ≡ Ok (net, u) → see s t ≡ Ok u
unfolding see
see_ok s t net u e = ap (λ (r : Result (Net × Drivers) Fault). r >>= λ x. Ok x.1) e

pub see_fails : (s : Drivers) (t : grammar.Terminal) (e : Fault) → Fails e (seen s t) → Fails e (see s t)
unfolding see
see_fails s t e fails = fails_behind e (seen s t) (λ x. Ok x.1) fails
