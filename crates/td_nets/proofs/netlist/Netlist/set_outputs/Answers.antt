use Rattle.std.proofs.Common.{sym, subst, map}
use Rattle.td_nets.specs.Netlist.{Netlist}
use Rattle.td_nets.specs.Views.{name_of, netlist_of}
use Rattle.td_nets.specs.Outputs.{CanBeOutputs}
use Rattle.td_nets.proofs.Outputs.{formed_with}
use Rattle.td_nets.proofs.netlist.Netlist.set_outputs.Goals as goal

pub invariant_of-self : goal.invariant_of-self
invariant_of-self c =
    formed_with (netlist_of c.self.inside) (map name_of c.args.outputs.items) c.self.invariant
    (subst (λ (given : Netlist). CanBeOutputs given (map name_of c.args.outputs.items)) (sym c.self.view_is) c.requires)
