use Rattle.std.proofs.Common.{◌≡◌, drop, map}
use Rattle.td_syntax.specs.Views.{terminal_view}
use Rattle.td_netlist.specs.Making as making
use Rattle.td_netlist.specs.Checks.{each}
use Rattle.td_nets.specs.Views.{net_of}
use Rattle.std.proofs.Common.{[]}
use Rattle.td_netlist.proofs.gates.nets.Given as goal

abbrev pub invariant-loop-terminal : goal.invariant-loop-terminal
invariant-loop-terminal l = each (making.with_net l.names) (map net_of l.nets.items) (map terminal_view (drop l.terminal-index l.terminals)) ≡ each (making.with_net l.names) ([]) (map terminal_view l.terminals)
