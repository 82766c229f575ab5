use Rattle.std.proofs.Common.{◌≡◌, ◌++◌, take, map}
use Rattle.std.specs.List.{flat_map}
use Rattle.td_syntax.specs.Grammar.{Gates}
use Rattle.td_syntax.specs.Views.{terminal_view, instance_view, statement_view}
use Rattle.td_netlist.specs.Module.{item_primitives, outputs_of}
use Rattle.td_hints.proofs.drivers.add_outputs.Given as goal

abbrev pub invariant-loop-instance : goal.invariant-loop-instance
invariant-loop-instance l = map terminal_view l.found.items ≡ map terminal_view l.fn.found.items ++ flat_map outputs_of (item_primitives (Gates (record { attributes = l.statement.attributes; kind = l.statement.kind; delay = (statement_view l.statement).delay; instances = map instance_view (take l.instance-index l.statement.instances.items) })))
