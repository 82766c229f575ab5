use Rattle.std.proofs.Common.{◌≡◌, ◌++◌, take, map}
use Rattle.td_syntax.specs.Grammar.{Gates}
use Rattle.td_syntax.specs.Views.{instance_view, statement_view}
use Rattle.td_netlist.specs.Module.{item_primitives}
use Rattle.td_netlist.specs.CheckViews.{primitive_of}
use Rattle.td_netlist.proofs.primitive.add_statement.Given as goal

abbrev pub invariant-loop-instance : goal.invariant-loop-instance
invariant-loop-instance l = map primitive_of l.primitives.items ≡ map primitive_of l.fn.primitives.items ++ item_primitives (Gates (record { attributes = l.statement.attributes; kind = l.statement.kind; delay = (statement_view l.statement).delay; instances = map instance_view (take l.instance-index l.statement.instances.items) }))
