use Rattle.std.proofs.Common.{ℕ, List, Option, subst, sym}
use Rattle.td_source.specs.Reads.{AreOutputsIn}
use Rattle.td_source.proofs.Reading.{numbers_fit, circuit_whole}
use Rattle.td_source.proofs.source.source_of.Goals as goal

pub asked-requires : goal.asked-requires
asked-requires c = numbers_fit c.in_ok-whole.whole.circuit.netlist c.args.reading.now.outputs _ c.in_ok-whole.ensures.outputs

pub returns-clause-circuit : goal.returns-clause-circuit
returns-clause-circuit c =
    circuit_whole c.args.text.now c.args.reading.now c.in_ok-whole.whole.circuit.netlist _ c.in_ok-source.source.circuit.netlist c.in_ok-whole.ensures.means
    c.in_ok-whole.ensures.acyclic c.in_ok-whole.ensures.outputs c.in_ok-source.ensures.asked

pub returns-clause-outputs : goal.returns-clause-outputs
returns-clause-outputs c = record {
  whole = c.in_ok-whole.whole.circuit.netlist;
  means = c.in_ok-whole.ensures.means;
  are = subst (λ (o : Option (List ℕ)). AreOutputsIn c.in_ok-whole.whole.circuit.netlist c.args.reading.now.outputs o) (sym c.in_ok-source.ensures.outputs)
      c.in_ok-whole.ensures.outputs;
}
