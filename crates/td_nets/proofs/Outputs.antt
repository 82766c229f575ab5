-- A netlist is as well-formed with other outputs.
use Rattle.std.proofs.Common.{List}
use Rattle.td_nets.specs.Netlist.{Name, Gate, Netlist}
use Rattle.td_nets.specs.WellFormed.{IsGate, IsWellFormed}
use Rattle.td_nets.specs.Outputs.{CanBeOutputs, with_outputs}

same_gate : (netlist : Netlist) (outputs : List Name) (gate : Gate) → IsGate netlist gate → IsGate (with_outputs netlist outputs) gate
same_gate netlist outputs gate is = record { takes = is.takes; few = is.few; delay = is.delay; reads = is.reads }

pub formed_with : (netlist : Netlist) (outputs : List Name) → IsWellFormed netlist → CanBeOutputs netlist outputs
    → IsWellFormed (with_outputs netlist outputs)
formed_with netlist outputs formed can = record {
  one_driver = formed.one_driver;
  gates = λ gate stands. same_gate netlist outputs gate (formed.gates gate stands);
  outputs = can.driven;
  distinct_outputs = can.distinct;
  few_inputs = formed.few_inputs;
  few_gates = formed.few_gates;
}
