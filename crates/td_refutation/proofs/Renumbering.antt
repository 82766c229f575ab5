-- Renumbering: two numberings of the nets of a setting are one another's by other numbers.
use Rattle.std.proofs.Common.{◌≡◌, ℕ, zero, suc, ◌+◌, ◌-◌, ◌<◌, ◌≤◌, Bool, true, false, List, length, map, get_or, Some, inl, inr, refl, ap, sym, ◌∙◌, subst, arith}
use Rattle.std.specs.Prelude.{nat_lt, slice_get, option_map, if◌then◌else◌}
use Rattle.std.specs.List.{Contains}
use Rattle.std.proofs.lemmas.Bool.{cases_lt, ltb-true}
use Rattle.std.proofs.lemmas.List.{ext_get_or, length-map}
use Rattle.std.proofs.lemmas.Option.{slice_get-map, slice_get-get_or}
use Rattle.std.proofs.lemmas.List.Elements.{Contains-append_left, Contains-append_right}
use Rattle.td_gates.specs.declared.primitives.Kind.{Kind}
use Rattle.td_gates.specs.declared.timing.Delay.{Delay}
use Rattle.td_gates.proofs.Places.{some-same, slice_get-within, slice_get-some, slice_get-get, slice_get-Contains, slice_get-map_some, Contains-slice_get}
use Rattle.td_nets.specs.Netlist.{Net, Low, High, Named, Gate, Netlist}
use Rattle.td_nets.specs.WellFormed.{gate_outputs}
use Rattle.td_circuit.specs.Numbering.{NumberedGate, Numbered, nets, first_output, AreNumbersOf, IsNumbering}
use Rattle.td_circuit.specs.Run.{IsNetOf}
use Rattle.td_circuit.proofs.Looping.{input_number, output_number}
use Rattle.td_circuit.proofs.Nets.{length-nets, gate_at, place_of, number_of, each_net}
use Rattle.td_spans.specs.Lookups.{net_named, no_gate, IsDriven, driver}
use Rattle.td_refutation.proofs.Renaming.{renamed_gate, IsOneOne, IsRenaming}

gate_parts : (kind kind' : Kind) (delay delay' : Delay) (inputs inputs' : List ℕ) → kind ≡ kind' → delay ≡ delay' → inputs ≡ inputs'
    → ◌≡◌ {A = NumberedGate} (record { kind = kind; delay = delay; inputs = inputs }) (record { kind = kind'; delay = delay'; inputs = inputs' })
gate_parts kind kind' delay delay' inputs inputs' k d i =
    ap (λ (it : Kind). record { kind = it; delay = delay; inputs = inputs }) k
    ∙ ap (λ (it : Delay). record { kind = kind'; delay = it; inputs = inputs }) d
    ∙ ap (λ (it : List ℕ). record { kind = kind'; delay = delay'; inputs = it }) i

-- what has a number is a net of the netlist
net_is : (circuit : Numbered) → IsNumbering circuit → (n : ℕ) (net : Net) → slice_get (nets circuit) n ≡ Some net → IsNetOf circuit.netlist net
net_is circuit numbering n net at =
    each_net circuit numbering (λ net number. IsNetOf circuit.netlist net) tt tt
    (λ i name at. Contains-append_left circuit.netlist.inputs (gate_outputs circuit.netlist) name (slice_get-Contains circuit.netlist.inputs i name at))
    (λ place numbered gate at has is read.
    Contains-append_right circuit.netlist.inputs (gate_outputs circuit.netlist) gate.output (output_there circuit.netlist.gates gate has))
    n net at
  where
    output_there : (gates : List Gate) (gate : Gate) → Contains gates gate → Contains (map (λ (g : Gate). g.output) gates) gate.output
    output_there gates gate has =
        let here = Contains-slice_get gates gate has in
        slice_get-Contains (map (λ (g : Gate). g.output) gates) here.0 gate.output (slice_get-map_some (λ (g : Gate). g.output) gates here.0 gate here.1)

module _ (this that : Numbered) (numbering : IsNumbering this) (numbering' : IsNumbering that) (same : that.netlist ≡ this.netlist) where
  inputs_same : length that.netlist.inputs ≡ length this.netlist.inputs
  inputs_same = ap (λ (n : Netlist). length n.inputs) same

  gates_same : length that.gates ≡ length this.gates
  gates_same =
      numbering'.gate_count ∙ numbering'.count ∙ ap (λ (n : Netlist). length n.gates) same ∙ sym (numbering.gate_count ∙ numbering.count)

  nets_same : length (nets that) ≡ length (nets this)
  nets_same = omega (arith, length-nets that numbering', length-nets this numbering, gates_same, inputs_same)

  -- the number that a net has in the other circuit; what is no net's number stays
  abbrev Moves : ℕ → ℕ → Type 0
  Moves n m = ((net : Net) → slice_get (nets this) n ≡ Some net → slice_get (nets that) m ≡ Some net) × (length (nets this) ≤ n → m ≡ n)

  moved : (n : ℕ) → (m : ℕ) × Moves n m
  moved n = elim (cases_lt n (length (nets this))) [
    | inl low ↦
        (let net = slice_get-within (nets this) n low in
        let there = number_of that numbering' net.0 (subst (λ (it : Netlist). IsNetOf it net.0) (sym same) (net_is this numbering n net.0 net.1)) in
        (there.0, (λ other at. there.1 ∙ sym net.1 ∙ at, λ past. absurd (omega arith))))
    | inr past ↦ (n, (λ net at. absurd (let low = slice_get-some (nets this) n net at in omega arith), λ _. refl))
  ]

  pub renumbered : ℕ → ℕ
  renumbered n = (moved n).0

  pub net_kept : (n : ℕ) (net : Net) → slice_get (nets this) n ≡ Some net → slice_get (nets that) (renumbered n) ≡ Some net
  unfolding renumbered
  net_kept n net at = (moved n).1.0 net at

  past_kept : (n : ℕ) → length (nets this) ≤ n → renumbered n ≡ n
  unfolding renumbered
  past_kept n past = (moved n).1.1 past

  within_kept : (n : ℕ) → n < length (nets this) → renumbered n < length (nets that)
  within_kept n low =
      let net = slice_get-within (nets this) n low in
      slice_get-some (nets that) (renumbered n) net.0 (net_kept n net.0 net.1)

  one_one : IsOneOne renumbered
  one_one n m is = elim (cases_lt n (length (nets this))) [
    | inl low ↦ elim (cases_lt m (length (nets this))) [
      | inl small ↦
          (let x = slice_get-within (nets this) n low in
          let y = slice_get-within (nets this) m small in
          let one = net_kept n x.0 x.1 in
          let other = net_kept m y.0 y.1 in
          let equal : y.0 ≡ x.0 = some-same y.0 x.0 (sym other ∙ ap (slice_get (nets that)) (sym is) ∙ one) in
          numbering.distinct n m x.0 x.1 (y.1 ∙ ap Some equal))
      | inr past ↦ absurd (omega (arith, within_kept n low, past_kept m past, is, nets_same, past))
    ]
    | inr over ↦ elim (cases_lt m (length (nets this))) [
      | inl small ↦ absurd (omega (arith, within_kept m small, past_kept n over, is, nets_same, over))
      | inr past ↦ sym (past_kept n over) ∙ is ∙ past_kept m past
    ]
  ]

  -- constants and inputs have the same numbers
  front : (n : ℕ) → n < first_output this → (net : Net) × (slice_get (nets this) n ≡ Some net) × (slice_get (nets that) n ≡ Some net)
  front zero low = (Low, refl, refl)
  front (suc zero) low = (High, refl, refl)
  front (suc (suc i)) low =
      let name = slice_get-within this.netlist.inputs i (omega arith) in
      (Named name.0, input_number this i name.0 name.1, input_number that i name.0 (ap (λ (n : Netlist). slice_get n.inputs i) same ∙ name.1))

  fixed : (n : ℕ) → n < first_output this → renumbered n ≡ n
  fixed n low =
      let net = front n low in
      numbering'.distinct (renumbered n) n net.0 (net_kept n net.0 net.1) net.2

  behind : (n : ℕ) → first_output this ≤ n → first_output this ≤ renumbered n
  behind n late = elim (cases_lt (renumbered n) (first_output this)) [
    | inr high ↦ high
    | inl low ↦ absurd (let is = one_one (renumbered n) n (fixed (renumbered n) low) in omega arith)
  ]

  low_driven : (n : ℕ) → IsDriven this n → n < length (nets this)
  low_driven n is = let high = is.0 in let few = is.1 in omega (arith, length-nets this numbering, high, few)

  driven_kept : (n : ℕ) → IsDriven this n → IsDriven that (renumbered n)
  driven_kept n is =
      let low = within_kept n (low_driven n is) in
      let high = behind n is.0 in
      (omega (arith, high, inputs_same), omega (arith, high, low, inputs_same, length-nets that numbering'))

  pub numbers_kept : (numbers numbers' : List ℕ) (named : List Net) → AreNumbersOf (nets this) numbers named → AreNumbersOf (nets that) numbers' named
      → numbers' ≡ map renumbered numbers
  numbers_kept numbers numbers' named are are' =
      ext_get_or 0 numbers' (map renumbered numbers) (are'.count ∙ sym are.count ∙ sym (length-map numbers renumbered)) (λ i low.
      let below : i < length numbers = omega (arith, low, are.count, are'.count) in
      let net = slice_get-within named i (omega (arith, below, are.count)) in
      let one = slice_get-within numbers i below in
      let other = slice_get-within numbers' i low in
      let is : other.0 ≡ renumbered one.0 =
      numbering'.distinct other.0 (renumbered one.0) net.0 (are'.each i other.0 net.0 other.1 net.1) (net_kept one.0 net.0 (are.each i one.0 net.0 one.1 net.1)) in
      slice_get-get numbers' i other.0 0 other.1
      ∙ is
      ∙ sym (slice_get-get (map renumbered numbers) i (renumbered one.0) 0 (slice_get-map_some renumbered numbers i one.0 one.1)))

  driver_kept : (n : ℕ) → IsDriven this n → driver that (renumbered n) ≡ renamed_gate renumbered (driver this n)
  driver_kept n is =
      let place : ℕ = n - first_output this in
      let here : slice_get this.gates place ≡ Some (driver this n) = slice_get-get_or this.gates place no_gate is.1 in
      let found = gate_at this numbering place (driver this n) here in
      let at : first_output this + place ≡ n = let high = is.0 in omega arith in
      let net = net_kept n (Named found.0.output) (ap (slice_get (nets this)) (sym at) ∙ output_number this place found.0 found.1) in
      let there = place_of that numbering' found.0 (subst (λ (it : Netlist). Contains it.gates found.0) (sym same) found.2) in
      let goes : renumbered n ≡ first_output that + there.0 =
      numbering'.distinct (renumbered n) (first_output that + there.0) (Named found.0.output) net (output_number that there.0 found.0 there.3) in
      let stands : renumbered n - first_output that ≡ there.0 = omega (arith, goes) in
      let is_it : driver that (renumbered n) ≡ there.1 =
      ap (λ p. get_or that.gates p no_gate) stands ∙ slice_get-get that.gates there.0 there.1 no_gate there.2 in
      is_it
      ∙ gate_parts there.1.kind (driver this n).kind there.1.delay (driver this n).delay there.1.inputs (map renumbered (driver this n).inputs)
      (there.4.kind ∙ sym found.3.kind) (there.4.delay ∙ sym found.3.delay)
      (numbers_kept (driver this n).inputs there.1.inputs found.0.inputs found.3.inputs there.4.inputs)

  gate_outputs_kept : that.gate_outputs ≡ map renumbered this.gate_outputs
  gate_outputs_kept = numbers_kept this.gate_outputs that.gate_outputs (map (λ (gate : Gate). Named gate.output) this.netlist.gates) numbering.gate_outputs
      (subst (λ (it : Netlist). AreNumbersOf (nets that) that.gate_outputs (map (λ (gate : Gate). Named gate.output) it.gates)) same numbering'.gate_outputs)

  outputs_kept : that.outputs ≡ map renumbered this.outputs
  outputs_kept = numbers_kept this.outputs that.outputs (map (λ name. Named name) this.netlist.outputs) numbering.outputs
      (subst (λ (it : Netlist). AreNumbersOf (nets that) that.outputs (map (λ name. Named name) it.outputs)) same numbering'.outputs)

  named_by : (number : ℕ) (low : Bool) → (low ≡ true → renumbered number ≡ number)
      → (if low then Some number else slice_get that.gate_outputs (number - first_output this))
      ≡ option_map renumbered (if low then Some number else slice_get this.gate_outputs (number - first_output this))
  named_by number true stays = ap Some (sym (stays refl))
  named_by number false stays =
      ap (λ outputs. slice_get outputs (number - first_output this)) gate_outputs_kept ∙ slice_get-map renumbered this.gate_outputs (number - first_output this)

  named_kept : (number : ℕ) → net_named that number ≡ option_map renumbered (net_named this number)
  named_kept number =
      ap (λ first. if nat_lt number first then Some number else slice_get that.gate_outputs (number - first)) (ap (λ n. n + 2) inputs_same)
      ∙ named_by number (nat_lt number (first_output this)) (λ is. fixed number (ltb-true number (first_output this) is))

  pub is_renaming : that.moments ≡ this.moments → IsRenaming this that renumbered
  is_renaming moments = record {
    one_one = one_one;
    inputs = inputs_same;
    moments = moments;
    gates = gates_same;
    fixed = fixed;
    behind = behind;
    past = λ n past.
        let is = past_kept n (omega (arith, past, length-nets this numbering)) in omega (arith, is, past);
    driven = driven_kept;
    drivers = driver_kept;
    named = named_kept;
    outputs = outputs_kept;
  }
