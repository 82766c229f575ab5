-- Lookups: nets by the numbers that a certificate names them by, and the gates that drive them.
use Rattle.std.specs.Prelude.{ℕ, ◌-◌, ◌<◌, ◌≤◌, nat_lt, [], length, get_or, slice_get, Option, Some, if◌then◌else◌}
use Rattle.td_gates.specs.declared.primitives.Kind.TheVariants.{And}
use Rattle.td_circuit.specs.Numbering.{NumberedGate, Numbered, first_output}

-- The net with a number: the constants, the inputs, and then the outputs of the gates in the
-- netlist's order.
abbrev pub net_named : Numbered → ℕ → Option ℕ
net_named circuit number =
    if nat_lt number (first_output circuit) then Some number else slice_get circuit.gate_outputs (number - first_output circuit)

abbrev pub no_gate : NumberedGate
no_gate = record { kind = And; delay = record { rise = 1; fall = 1 }; inputs = [] }

-- the gate at a place of the circuit's list
abbrev pub the_gate : Numbered → ℕ → NumberedGate
the_gate circuit place = get_or circuit.gates place no_gate

-- a gate drives the net
abbrev pub IsDriven : Numbered → ℕ → Type 0
IsDriven circuit net = (first_output circuit ≤ net) × (net - first_output circuit < length circuit.gates)

-- the gate that drives a net
abbrev pub driver : Numbered → ℕ → NumberedGate
driver circuit net = the_gate circuit (net - first_output circuit)
