use Rattle.std.proofs.Common.{◌≡◌, drop, map}
use Rattle.td_syntax.specs.Views.{terminal_view}
use Rattle.td_netlist.specs.Making as making
use Rattle.td_netlist.specs.Checks.{each}
use Rattle.td_nets.specs.Views.{gate_of}
use Rattle.td_netlist.specs.CheckViews.{primitive_of}
use Rattle.td_netlist.proofs.gates.add_gates.Given as goal

abbrev pub invariant-loop-terminal : goal.invariant-loop-terminal
invariant-loop-terminal l = each (making.with_gate l.names l.timing.tens l.timing.default (primitive_of l.primitive)) (map gate_of l.gates.items) (map terminal_view (drop l.terminal-index l.terminal-items)) ≡ each (making.with_gate l.names l.timing.tens l.timing.default (primitive_of l.primitive)) (map gate_of l.fn.gates.items) (map terminal_view l.terminal-items)
