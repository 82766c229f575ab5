use Rattle.std.proofs.Common.{sym, subst, map}
use Rattle.td_nets.specs.Netlist.{Netlist}
use Rattle.td_nets.specs.Views.{name_of}
use Rattle.td_circuit.specs.Numbering.{Numbered, CanBeAsked}
use Rattle.td_circuit.specs.Views.{circuit_of, IsCircuit}
use Rattle.td_circuit.proofs.Moments.{numbering_asked}
use Rattle.td_circuit.proofs.circuit.Circuit.set_outputs.Goals as goal

pub invariant_of-self : goal.invariant_of-self
invariant_of-self c =
    let can = subst (λ (n : Numbered). CanBeAsked n (map name_of c.args.names.items) c.args.nets.items) (sym c.self.view_is) c.requires in
    subst (λ (netlist : Netlist). IsCircuit (record c.self.inside { netlist = netlist; outputs = c.args.nets })) (sym c.set_outputs.ensures)
    (record {
      numbering = numbering_asked (circuit_of c.self.inside) (map name_of c.args.names.items) c.args.nets.items can c.self.invariant.numbering;
      within = c.self.invariant.within;
      moments = record { count = c.self.invariant.moments.count; within = c.self.invariant.moments.within };
    })
