-- Internal: the gates that are made of a module's instances, by what is known of its names.
use Rattle.std.specs.Prelude.{ℕ, List, [], ◌∷◌, ◌++◌, Result, Ok}
use Rattle.td_gates.specs.declared.timing.Delay.{Delay}
use Rattle.td_syntax.specs.Grammar as grammar
use Rattle.td_netlist.specs.declared.fault.Fault.{Fault}
use Rattle.td_netlist.specs.Faults.{◌>>=◌}
use Rattle.td_nets.specs.Netlist.{Name, Net, Low, High, Named, Gate}
use Rattle.td_netlist.specs.Module.{outputs_of, inputs_of, Primitive, delay_of}
use Rattle.td_netlist.specs.Checks.{each, Known, resolve}

-- one net more
unfoldable pub with_net : List Known → List Net → grammar.Terminal → Result (List Net) Fault
with_net ks nets t = resolve ks t >>= λ net. Ok (nets ++ net ∷ [])

-- the gate of an instance that drives this net
unfoldable pub gate_at : List Known → ℕ → Delay → Primitive → Name → Result Gate Fault
gate_at ks tens default p output = each (with_net ks) [] (inputs_of p) >>= λ inputs. Ok (record {
  kind = p.kind;
  delay = delay_of tens default p.delay;
  output = output;
  inputs = inputs;
})

abbrev pub gate_driving : List Known → ℕ → Delay → Primitive → List Gate → Net → Result (List Gate) Fault
gate_driving ks tens default p gates Low = Ok gates
gate_driving ks tens default p gates High = Ok gates
gate_driving ks tens default p gates (Named output) = gate_at ks tens default p output >>= λ gate. Ok (gates ++ gate ∷ [])

-- one gate more
unfoldable pub with_gate : List Known → ℕ → Delay → Primitive → List Gate → grammar.Terminal → Result (List Gate) Fault
with_gate ks tens default p gates t = resolve ks t >>= gate_driving ks tens default p gates

-- the gates of one instance more
unfoldable pub with_gates : List Known → ℕ → Delay → List Gate → Primitive → Result (List Gate) Fault
with_gates ks tens default gates p = each (with_gate ks tens default p) gates (outputs_of p)
