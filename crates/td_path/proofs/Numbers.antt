-- The nets of a run by number and by name.
use Rattle.std.proofs.Common.{◌≡◌, ℕ, ◌+◌, ◌<◌, List, length, map, arith, ◌∙◌, sym, ap, Some}
use Rattle.std.specs.Prelude.{slice_get}
use Rattle.std.proofs.lemmas.List.Elements.{All-contains}
use Rattle.td_gates.specs.declared.primitives.Level.TheVariants.{X}
use Rattle.td_gates.specs.declared.primitives.Kind.{Kind}
use Rattle.td_gates.specs.declared.timing.Delay.{Delay}
use Rattle.td_gates.specs.Wave.{Wave, IsWave}
use Rattle.td_gates.specs.Schedule.{Obeys}
use Rattle.td_gates.proofs.Places.{slice_get-some, slice_get-within, slice_get-get}
use Rattle.td_nets.specs.Netlist.{Net, Low, Named, Gate}
use Rattle.td_circuit.specs.Numbering.{NumberedGate, Numbered, nets, first_output, IsGateAt, IsNumbering}
use Rattle.td_circuit.specs.NetValues.{net_wave}
use Rattle.td_circuit.proofs.Looping.{output_number}
use Rattle.td_circuit.proofs.Nets.{length-nets, gate_at, range-at}
use Rattle.td_circuit.proofs.Values.{value_at, named-numbers}
use Rattle.td_run.specs.Waves.{constant, waves_of}
use Rattle.td_run.specs.Runs.{NetWaves}
use Rattle.td_path.specs.Chains.{IsRunFor, net_at}
use Rattle.td_path.specs.Walks.{wave_at, ChangesAt}
use Rattle.td_path.proofs.Causes.{HasCause, has_cause}

obeys_as : (kind kind' : Kind) (delay delay' : Delay) (ins ins' : List Wave) (out out' : Wave)
    → kind ≡ kind' → delay ≡ delay' → ins ≡ ins' → out ≡ out' → Obeys kind' delay' ins' out' → Obeys kind delay ins out
obeys_as kind kind' delay delay' ins ins' out out' p q r s obeys = rw (p, q, r, s) obeys

pub net_at-is : (nets : List Net) (number : ℕ) (net : Net) → slice_get nets number ≡ Some net → net_at nets number ≡ net
net_at-is nets number net at_number = slice_get-get nets number net Low at_number

module _ (circuit : Numbered) (run : NetWaves) (numbering : IsNumbering circuit) (is : IsRunFor circuit run) where
  pub named_wave : (number : ℕ) (net : Net) → slice_get (nets circuit) number ≡ Some net
      → net_wave (nets circuit) run.waves net ≡ wave_at run.waves number
  named_wave number net at_number = value_at (constant X) circuit numbering run.waves is.count number net at_number

  pub number_wave : (number : ℕ) → number < length (nets circuit)
      → net_wave (nets circuit) run.waves (net_at (nets circuit) number) ≡ wave_at run.waves number
  number_wave number below =
      let net = slice_get-within (nets circuit) number below in
      ap (λ n. net_wave (nets circuit) run.waves n) (net_at-is (nets circuit) number net.0 net.1)
      ∙ named_wave number net.0 net.1

  pub inputs_are : (place : ℕ) (numbered : NumberedGate) (gate : Gate) → IsGateAt circuit place numbered gate
      → map (net_wave (nets circuit) run.waves) gate.inputs ≡ waves_of run.waves numbered.inputs
  inputs_are place numbered gate at_place =
      named-numbers (constant X) (net_wave (nets circuit) run.waves) (nets circuit) run.waves numbered.inputs gate.inputs at_place.inputs
      (λ number net at_number. named_wave number net at_number)

  pub below_all : (place : ℕ) (numbered : NumberedGate) → slice_get circuit.gates place ≡ Some numbered
      → first_output circuit + place < length (nets circuit)
  below_all place numbered at_place =
      let inside = slice_get-some circuit.gates place numbered at_place in
      omega (arith, inside, length-nets circuit numbering)

  pub obeys_at : (place : ℕ) (numbered : NumberedGate) → slice_get circuit.gates place ≡ Some numbered
      → Obeys numbered.kind numbered.delay (waves_of run.waves numbered.inputs) (wave_at run.waves (first_output circuit + place))
  obeys_at place numbered at_place =
      let found = gate_at circuit numbering place numbered at_place in
      let gate : Gate = found.0 in
      let output = named_wave (first_output circuit + place) (Named gate.output) (output_number circuit place gate found.1) in
      let obeys = All-contains
      (λ (g : Gate). Obeys g.kind g.delay (map (net_wave (nets circuit) run.waves) g.inputs) (net_wave (nets circuit) run.waves (Named g.output)))
      circuit.netlist.gates gate is.runs.gates found.2 in
      obeys_as numbered.kind gate.kind numbered.delay gate.delay
      (waves_of run.waves numbered.inputs) (map (net_wave (nets circuit) run.waves) gate.inputs)
      (wave_at run.waves (first_output circuit + place)) (net_wave (nets circuit) run.waves (Named gate.output))
      found.3.kind found.3.delay (sym (inputs_are place numbered gate found.3)) (sym output) obeys

  -- what made a change of the output of the gate at a place
  pub cause_of : (place : ℕ) (numbered : NumberedGate) (moment : ℕ) → slice_get circuit.gates place ≡ Some numbered
      → ChangesAt (wave_at run.waves (first_output circuit + place)) moment
      → HasCause numbered.kind numbered.delay run.waves numbered.inputs (wave_at run.waves (first_output circuit + place)) moment
  cause_of place numbered moment at_place changes =
      has_cause numbered.kind numbered.delay (range-at circuit numbering place numbered at_place) run.waves numbered.inputs
      (wave_at run.waves (first_output circuit + place)) moment (obeys_at place numbered at_place) changes

  pub is_wave : (number : ℕ) → number < length (nets circuit) → IsWave (wave_at run.waves number)
  is_wave number below = rw (← number_wave number below) (is.runs.are_waves (net_at (nets circuit) number))
