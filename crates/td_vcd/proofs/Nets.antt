-- The nets of the variables, and their waves.
use Rattle.std.proofs.Common.{◌≡◌, ℕ, zero, suc, ◌<◌, List, [], ◌∷◌, ◌++◌, length, map, get_or, refl, arith, inl, inr, sym, ap, ◌∙◌, subst, Some}
use Rattle.std.specs.Prelude.{slice_get}
use Rattle.std.specs.List.{All}
use Rattle.std.proofs.lemmas.List.{length-map, length-append, map-append, get_or-map}
use Rattle.td_gates.specs.declared.primitives.Level.TheVariants.{X}
use Rattle.td_gates.specs.Wave.{Wave}
use Rattle.td_gates.proofs.Places.{Each, some-same, slice_get-some, slice_get-within, slice_get-get, slice_get-append_left, slice_get-append_right, slice_get-append_cases, slice_get-map_some, map-fuse, maps_match}
use Rattle.td_nets.specs.Netlist.{Name, Net, Low, Named, Gate}
use Rattle.td_nets.specs.WellFormed.{driven, gate_outputs}
use Rattle.td_circuit.specs.Numbering.{Numbered, nets, AreNumbersOf, IsNumbering}
use Rattle.td_circuit.specs.NetValues.{net_wave}
use Rattle.td_circuit.proofs.Looping.{input_number}
use Rattle.td_circuit.proofs.Nets.{numbers-below}
use Rattle.td_circuit.proofs.Values.{named-numbers, value_at}
use Rattle.td_run.specs.Waves.{constant, waves_of}
use Rattle.td_vcd.specs.Text.{variable_waves}
use Rattle.td_vcd.specs.Chosen.{net_name, names_of, IsNamed}
use Rattle.td_vcd.specs.Walks.{AreVariables}

abbrev name_net : Name → Net
name_net name = Named name

-- the numbers of one list of nets and then of another
both : (numbered : List Net) (these those : List ℕ) (first second : List Net) → AreNumbersOf numbered these first
    → AreNumbersOf numbered those second → AreNumbersOf numbered (these ++ those) (first ++ second)
both numbered these those first second p q = record {
  count = omega (arith, length-append these those, length-append first second, p.count, q.count);
  each = λ i number net at_number at_net. elim (slice_get-append_cases these those i number at_number) [
    | inl front ↦
        let inside = slice_get-some these i number front in
        let there = slice_get-within first i (omega (arith, inside, p.count)) in
        let same : there.0 ≡ net = some-same there.0 net (sym (slice_get-append_left first second i there.0 there.1) ∙ at_net) in
        p.each i number net front (there.1 ∙ ap (λ (n : Net). Some n) same)
    | inr back ↦ q.each back.0 number net back.1
        (sym (slice_get-append_right first second back.0 i (omega (arith, back.2, p.count))) ∙ at_net)
  ];
}

-- the inputs have the numbers from 2 on
pub inputs_are : (circuit : Numbered) (numbers : List ℕ) → length numbers ≡ length circuit.netlist.inputs
    → Each (λ i number. number ≡ suc (suc i)) numbers
    → AreNumbersOf (nets circuit) numbers (map name_net circuit.netlist.inputs)
inputs_are circuit numbers long each = record {
  count = long ∙ sym (length-map circuit.netlist.inputs name_net);
  each = λ i number net at_number at_net.
      let name = slice_get-within circuit.netlist.inputs i (omega (arith, long, slice_get-some numbers i number at_number)) in
      let is : Named name.0 ≡ net = some-same (Named name.0) net (sym (slice_get-map_some name_net circuit.netlist.inputs i name.0 name.1) ∙ at_net) in
      ap (λ (n : ℕ). slice_get (nets circuit) n) (each i number at_number) ∙ input_number circuit i name.0 name.1 ∙ ap (λ (n : Net). Some n) is;
}

pub variables_are : (circuit : Numbered) (numbers : List ℕ) → IsNumbering circuit → length numbers ≡ length circuit.netlist.inputs
    → Each (λ i number. number ≡ suc (suc i)) numbers → AreVariables circuit (numbers ++ circuit.gate_outputs)
variables_are circuit numbers numbering long each =
    let outputs : map name_net (gate_outputs circuit.netlist) ≡ map (λ (gate : Gate). Named gate.output) circuit.netlist.gates =
    map-fuse (λ (gate : Gate). gate.output) name_net circuit.netlist.gates in
    let all : map name_net (driven circuit.netlist) ≡ map name_net circuit.netlist.inputs ++ map (λ (gate : Gate). Named gate.output) circuit.netlist.gates =
    map-append name_net circuit.netlist.inputs (gate_outputs circuit.netlist)
    ∙ ap (λ (ns : List Net). map name_net circuit.netlist.inputs ++ ns) outputs in
    rw all (both (nets circuit) numbers circuit.gate_outputs (map name_net circuit.netlist.inputs)
    (map (λ (gate : Gate). Named gate.output) circuit.netlist.gates) (inputs_are circuit numbers long each) numbering.gate_outputs)

not_constant : (circuit : Numbered) (n : ℕ) (name : Name) → slice_get (nets circuit) n ≡ Some (Named name) → 1 < n
not_constant circuit zero name is = absurd cc
not_constant circuit (suc zero) name is = absurd cc
not_constant circuit (suc (suc n)) name is = omega arith

-- each variable's net has a name
pub all_named : (circuit : Numbered) (numbers : List ℕ) → AreVariables circuit numbers → All (IsNamed circuit) numbers
all_named circuit numbers are = λ i d inside.
    let number = slice_get-within numbers i inside in
    let name = slice_get-within (driven circuit.netlist) i (omega (arith, inside, are.count, length-map (driven circuit.netlist) name_net)) in
    let net : slice_get (nets circuit) number.0 ≡ Some (Named name.0) =
    are.each i number.0 (Named name.0) number.1 (slice_get-map_some name_net (driven circuit.netlist) i name.0 name.1) in
    subst (IsNamed circuit) (sym (slice_get-get numbers i number.0 d number.1)) (record {
      above = not_constant circuit number.0 name.0 net;
      below = slice_get-some (nets circuit) number.0 (Named name.0) net;
    })

-- the name that a net has
net_name_is : (net : Net) (name : Name) → net ≡ Named name → net_name net ≡ name
net_name_is net name is = ap net_name is

-- the names of the variables are those of the driven nets
pub names_are : (circuit : Numbered) (numbers : List ℕ) → AreVariables circuit numbers → names_of circuit numbers ≡ driven circuit.netlist
names_are circuit numbers are =
    maps_match (λ (number : ℕ). net_name (get_or (nets circuit) number Low)) (λ (name : Name). name) numbers (driven circuit.netlist)
    (are.count ∙ length-map (driven circuit.netlist) name_net)
    (λ i number name at_number at_name. net_name_is (get_or (nets circuit) number Low) name
    (slice_get-get (nets circuit) number (Named name) Low
    (are.each i number (Named name) at_number (slice_get-map_some name_net (driven circuit.netlist) i name at_name))))
    ∙ map_same (driven circuit.netlist)
  where
    map_same : (names : List Name) → map (λ (name : Name). name) names ≡ names
    map_same [] = refl
    map_same (name ∷ names) = ap (λ ns. name ∷ ns) (map_same names)

pub count_names : (circuit : Numbered) (numbers : List ℕ) → length (names_of circuit numbers) ≡ length numbers
count_names circuit numbers = length-map numbers (λ (number : ℕ). net_name (get_or (nets circuit) number Low))

-- the name of a net by its number
pub name_at : (circuit : Numbered) (numbers : List ℕ) (i : ℕ) (name : Name) → i < length numbers
    → slice_get (nets circuit) (get_or numbers i 0) ≡ Some (Named name) → get_or (names_of circuit numbers) i name ≡ name
name_at circuit numbers i name inside is =
    get_or-map (λ (number : ℕ). net_name (get_or (nets circuit) number Low)) numbers i 0 name inside
    ∙ net_name_is (get_or (nets circuit) (get_or numbers i 0) Low) name (slice_get-get (nets circuit) (get_or numbers i 0) (Named name) Low is)

pub all_below : (circuit : Numbered) (numbers : List ℕ) (waves : List Wave) → AreVariables circuit numbers → length waves ≡ length (nets circuit)
    → All (λ number. number < length waves) numbers
all_below circuit numbers waves are long =
    rw long (numbers-below (nets circuit) numbers (map name_net (driven circuit.netlist)) are)

-- the waves of the variables by their nets' numbers
pub waves_are : (circuit : Numbered) (numbers : List ℕ) (waves : List Wave) → IsNumbering circuit → AreVariables circuit numbers
    → length waves ≡ length (nets circuit)
    → variable_waves circuit.netlist (net_wave (nets circuit) waves) ≡ waves_of waves numbers
waves_are circuit numbers waves numbering are long =
    sym (map-fuse name_net (net_wave (nets circuit) waves) (driven circuit.netlist))
    ∙ named-numbers (constant X) (net_wave (nets circuit) waves) (nets circuit) waves numbers (map name_net (driven circuit.netlist)) are
    (λ number net at. value_at (constant X) circuit numbering waves long number net at)
