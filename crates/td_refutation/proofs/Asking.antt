-- Asking: conditions on nets that numbers name are conditions on the nets of a circuit.
use Rattle.std.proofs.Common.{◌≡◌, ℕ, zero, suc, ◌+◌, ◌-◌, ◌*◌, ◌<◌, ◌≤◌, Bool, true, false, List, [], ◌∷◌, ◌++◌, length, map, get_or, Option, Some, None, inl, inr, refl, ap, sym, ◌∙◌, subst, arith, length-append, take}
use Rattle.std.specs.Prelude.{nat_lt, slice_get, if◌then◌else◌}
use Rattle.std.proofs.lemmas.Bool.{cases_lt, lt-ltb, le-ltb}
use Rattle.std.proofs.lemmas.List.{length-map}
use Rattle.std.proofs.lemmas.List.Concat.{flat_map-cons}
use Rattle.std.proofs.lemmas.List.Elements.{All-contains}
use Rattle.td_gates.specs.declared.primitives.Level.{Level}
use Rattle.td_gates.specs.declared.primitives.Level.TheVariants.{Zero, One, X}
use Rattle.td_gates.specs.Known.{Agrees}
use Rattle.td_gates.specs.Table.{table, level_from}
use Rattle.td_gates.proofs.Places.{none-some, some-same, slice_get-some, slice_get-within, slice_get-get, slice_get-map_some, slice_get-append_left, slice_get-append_right, slice_get-Contains, take_push, get_or-front, get_or-back}
use Rattle.td_nets.specs.Netlist.{Name, Net, Low, High, Named, Gate, Netlist}
use Rattle.td_circuit.specs.Numbering.{NumberedGate, Numbered, nets, first_output, IsNumbering}
use Rattle.td_circuit.specs.Run.{IsSettled}
use Rattle.td_circuit.specs.NetValues.{net_level}
use Rattle.td_circuit.proofs.Looping.{input_number}
use Rattle.td_circuit.proofs.Nets.{length-nets, lower-at}
use Rattle.td_circuit.proofs.Values.{value_at}
use Rattle.td_run.specs.Settled.{levels_of, IsSettledUpTo}
use Rattle.td_run.proofs.Settled.{is_settled}
use Rattle.td_domain.specs.declared.cubes.Trit.{Trit}
use Rattle.td_domain.specs.Cubes.{level_of_trit}
use Rattle.td_domain.specs.Pairs.{Pair}
use Rattle.td_spans.specs.declared.condition.Form.{Form}
use Rattle.td_spans.specs.declared.condition.Form.TheVariants.{Levels, Equal}
use Rattle.td_spans.specs.declared.condition.Condition.{Condition}
use Rattle.td_spans.specs.Conditions as spans
use Rattle.td_spans.specs.Lookups.{net_named, no_gate, IsDriven, driver}
use Rattle.td_refutation.specs.declared.conditions.NamedCondition.{NamedCondition}
use Rattle.td_refutation.specs.Asking.{net_at, Keeps, IsKept, first_levels, second_levels, side, levels_by, condition_on, condition_in, conditions_in}

-- ---- where a condition comes from

-- the condition is one of these, on the net that its number names
pub record ComesFrom (circuit : Numbered) (keep : List NamedCondition) (c : Condition) : Type 0 where
  pub place : ℕ
  pub from : NamedCondition
  pub stands : slice_get keep place ≡ Some from
  pub names : net_named circuit from.net ≡ Some c.net
  pub form : c.form ≡ from.form

later : (circuit : Numbered) (first : NamedCondition) (keep : List NamedCondition) (c : Condition) → ComesFrom circuit keep c
    → ComesFrom circuit (first ∷ keep) c
later circuit first keep c it = record { place = suc it.place; from = it.from; stands = it.stands; names = it.names; form = it.form }

pub comes_from : (circuit : Numbered) (keep : List NamedCondition) (i : ℕ) (c : Condition) → slice_get (conditions_in circuit keep) i ≡ Some c
    → ComesFrom circuit keep c
comes_from circuit [] i c at = absurd (none-some c at)
comes_from circuit (first ∷ keep) i c at =
    go (λ i at. comes_from circuit keep i c at) (net_named circuit first.net) refl i (ap (λ cs. slice_get cs i) (sym (flat_map-cons (condition_in circuit) first keep)) ∙ at)
  where
    go : ((i : ℕ) → slice_get (conditions_in circuit keep) i ≡ Some c → ComesFrom circuit keep c) → (o : Option ℕ) → net_named circuit first.net ≡ o → (i : ℕ)
        → slice_get (condition_on first.form o ++ conditions_in circuit keep) i ≡ Some c → ComesFrom circuit (first ∷ keep) c
    go rest None is i at = later circuit first keep c (rest i at)
    go rest (Some net) is zero at =
        let same : ◌≡◌ {A = Condition} (record { net = net; form = first.form }) c = some-same (record { net = net; form = first.form }) c at in
        record {
          place = 0;
          from = first;
          stands = refl;
          names = is ∙ ap (λ (it : Condition). Some it.net) same;
          form = sym (ap (λ (it : Condition). it.form) same);
        }
    go rest (Some net) is (suc i) at = later circuit first keep c (rest i at)

-- ---- nets that numbers name

output_at : (gates : List Gate) (i : ℕ) (gate : Gate) → slice_get gates i ≡ Some gate
    → slice_get (map (λ (g : Gate). g.output) gates) i ≡ Some gate.output
output_at gates i gate at = slice_get-map_some (λ (g : Gate). g.output) gates i gate at

-- the net that a number names has the circuit's number for it
pub record IsNetAt (circuit : Numbered) (number n : ℕ) : Type 0 where
  pub net : Net
  pub here : slice_get (nets circuit) n ≡ Some net
  pub there : net_at circuit.netlist number ≡ Some net

module _ (circuit : Numbered) (numbering : IsNumbering circuit) where
  outputs : List Name
  outputs = map (λ (gate : Gate). gate.output) circuit.netlist.gates

  named_front : (number : ℕ) → number < first_output circuit → IsNetAt circuit number number
  named_front zero low = record { net = Low; here = refl; there = refl }
  named_front (suc zero) low = record { net = High; here = refl; there = refl }
  named_front (suc (suc i)) low =
      let name = slice_get-within circuit.netlist.inputs i (omega arith) in
      record {
        net = Named name.0;
        here = input_number circuit i name.0 name.1;
        there = slice_get-map_some (λ (n : Name). Named n) (circuit.netlist.inputs ++ map (λ (gate : Gate). gate.output) circuit.netlist.gates) i name.0
            (slice_get-append_left circuit.netlist.inputs (map (λ (gate : Gate). gate.output) circuit.netlist.gates) i name.0 name.1);
      }

  named_back : (place n : ℕ) → slice_get circuit.gate_outputs place ≡ Some n → (number : ℕ) → number ≡ first_output circuit + place
      → IsNetAt circuit number n
  named_back place n at zero is = absurd (omega (arith, is))
  named_back place n at (suc zero) is = absurd (omega (arith, is))
  named_back place n at (suc (suc i)) is =
      let low : place < length (map (λ (gate : Gate). Named gate.output) circuit.netlist.gates) =
      omega (arith, slice_get-some circuit.gate_outputs place n at, numbering.gate_outputs.count) in
      let gate = slice_get-within circuit.netlist.gates place
      (omega (arith, low, length-map circuit.netlist.gates (λ (gate : Gate). Named gate.output))) in
      let net_is : slice_get (map (λ (gate : Gate). Named gate.output) circuit.netlist.gates) place ≡ Some (Named gate.0.output) =
      slice_get-map_some (λ (gate : Gate). Named gate.output) circuit.netlist.gates place gate.0 gate.1 in
      let behind : i ≡ length circuit.netlist.inputs + place = omega (arith, is) in
      record {
        net = Named gate.0.output;
        here = numbering.gate_outputs.each place n (Named gate.0.output) at net_is;
        there = slice_get-map_some (λ (n : Name). Named n) (circuit.netlist.inputs ++ map (λ (gate : Gate). gate.output) circuit.netlist.gates) i gate.0.output
            (slice_get-append_right circuit.netlist.inputs (map (λ (gate : Gate). gate.output) circuit.netlist.gates) place i behind
            ∙ output_at circuit.netlist.gates place gate.0 gate.1);
      }

  named_if : (low : Bool) (number n : ℕ) → nat_lt number (first_output circuit) ≡ low
      → (if low then Some number else slice_get circuit.gate_outputs (number - first_output circuit)) ≡ Some n → IsNetAt circuit number n
  named_if true number n test is =
      let same : number ≡ n = some-same number n is in
      subst (IsNetAt circuit number) same (named_front number (elim (cases_lt number (first_output circuit)) [
        | inl low ↦ low
        | inr high ↦ absurd (let wrong : true ≡ false = sym test ∙ le-ltb number (first_output circuit) high in cc)
      ]))
  named_if false number n test is = elim (cases_lt number (first_output circuit)) [
    | inl low ↦ absurd (let wrong : false ≡ true = sym test ∙ lt-ltb number (first_output circuit) low in cc)
    | inr high ↦ named_back (number - first_output circuit) n is number (omega arith)
  ]

  pub net_is_at : (number n : ℕ) → net_named circuit number ≡ Some n → IsNetAt circuit number n
  net_is_at number n is = named_if (nat_lt number (first_output circuit)) number n refl is

-- ---- levels by numbers are levels by names

-- the levels of nets from one number on
abbrev bits_from : (ℕ → Bool) → ℕ → ℕ → List Level
bits_from bits start zero = []
bits_from bits start (suc count) = level_from (bits start) ∷ bits_from bits (suc start) count

length-bits_from : (bits : ℕ → Bool) (start count : ℕ) → length (bits_from bits start count) ≡ count
length-bits_from bits start zero = refl
length-bits_from bits start (suc count) = ap suc (length-bits_from bits (suc start) count)

bits_from-at : (bits : ℕ → Bool) (start count i : ℕ) → i < count → get_or (bits_from bits start count) i X ≡ level_from (bits (start + i))
bits_from-at bits start zero i low = absurd (omega arith)
bits_from-at bits start (suc count) zero low = ap (λ n. level_from (bits n)) (let same : start ≡ start + 0 = omega arith in same)
bits_from-at bits start (suc count) (suc i) low =
    bits_from-at bits (suc start) count i (omega arith) ∙ ap (λ n. level_from (bits n)) (let same : suc start + i ≡ start + suc i = omega arith in same)

-- levels of nets that are these bits
levels_of-bits : (levels : List Level) (bits : ℕ → Bool) (numbers : List ℕ)
    → ((n : ℕ) → n < length levels → get_or levels n X ≡ level_from (bits n)) → ((i n : ℕ) → slice_get numbers i ≡ Some n → n < length levels)
    → levels_of levels numbers ≡ map (λ n. level_from (bits n)) numbers
levels_of-bits levels bits [] each low = refl
levels_of-bits levels bits (n ∷ numbers) each low =
    ap (λ (l : Level). l ∷ levels_of levels numbers) (each n (low 0 n refl))
    ∙ ap (λ (ls : List Level). level_from (bits n) ∷ ls) (levels_of-bits levels bits numbers each (λ i. low (suc i)))

module _ (circuit : Numbered) (numbering : IsNumbering circuit) (vector : List Bool) (bits : ℕ → Bool)
    (count : length vector ≡ length circuit.netlist.inputs) (settled : spans.AreSettled circuit vector bits) where
  abbrev outs : List Level
  outs = bits_from bits (first_output circuit) (length circuit.gates)

  abbrev all : List Level
  all = (Zero ∷ One ∷ map level_from vector) ++ outs

  long : length all ≡ length (nets circuit)
  long = omega (
    arith,
    length-append (Zero ∷ One ∷ map level_from vector) outs,
    length-map vector level_from,
    count,
    length-bits_from bits (first_output circuit) (length circuit.gates),
    length-nets circuit numbering,
  )

  input_at : (i : ℕ) → i < length vector → get_or (map level_from vector ++ outs) i X ≡ level_from (bits (suc (suc i)))
  input_at i low =
      let bit = slice_get-within vector i low in
      get_or-front (map level_from vector) outs i X (omega (arith, low, length-map vector level_from))
      ∙ slice_get-get (map level_from vector) i (level_from bit.0) X (slice_get-map_some level_from vector i bit.0 bit.1)
      ∙ ap level_from (sym (settled.inputs i bit.0 (omega (arith, low, count)) bit.1))
      ∙ ap (λ n. level_from (bits n)) (let same : 2 + i ≡ suc (suc i) = omega arith in same)

  output_level : (i j : ℕ) → i ≡ length vector + j → j < length circuit.gates
      → get_or (map level_from vector ++ outs) i X ≡ level_from (bits (suc (suc i)))
  output_level i j is low =
      ap (λ n. get_or (map level_from vector ++ outs) n X) (let same : i ≡ length (map level_from vector) + j = omega (arith, is, length-map vector level_from) in same)
      ∙ get_or-back (map level_from vector) outs j X
      ∙ bits_from-at bits (first_output circuit) (length circuit.gates) j low
      ∙ ap (λ n. level_from (bits n)) (let same : first_output circuit + j ≡ suc (suc i) = omega (arith, is, count) in same)

  level_at : (n : ℕ) → n < length all → get_or all n X ≡ level_from (bits n)
  level_at zero low = ap level_from (sym settled.low)
  level_at (suc zero) low = ap level_from (sym settled.high)
  level_at (suc (suc i)) low = elim (cases_lt i (length vector)) [
    | inl input ↦ input_at i input
    | inr late ↦ output_level i (i - length vector) (omega arith)
        (omega (
          arith,
          late,
          low,
          length-append (Zero ∷ One ∷ map level_from vector) outs,
          length-map vector level_from,
          length-bits_from bits (first_output circuit) (length circuit.gates),
        ))
  ]

  gate_level : (j : ℕ) (gate : NumberedGate) → j < length circuit.gates → slice_get circuit.gates j ≡ Some gate
      → get_or outs j X ≡ table gate.kind (levels_of all gate.inputs)
  gate_level j gate low at =
      let number : ℕ = first_output circuit + j in
      let back : number - first_output circuit ≡ j = omega arith in
      let is : driver circuit number ≡ gate =
      ap (λ p. get_or circuit.gates p no_gate) back ∙ slice_get-get circuit.gates j gate no_gate at in
      let driven : IsDriven circuit number = (omega arith, omega (arith, low, back)) in
      bits_from-at bits (first_output circuit) (length circuit.gates) j low
      ∙ sym (settled.gates number driven)
      ∙ ap (λ (g : NumberedGate). table g.kind (map (λ n. level_from (bits n)) g.inputs)) is
      ∙ ap (λ (ls : List Level). table gate.kind ls) (sym (levels_of-bits all bits gate.inputs level_at
      (λ i n there.
      let below = All-contains (λ k. k < first_output circuit + j) gate.inputs n (lower-at circuit numbering j gate at) (slice_get-Contains gate.inputs i n there) in
      omega (arith, below, low, long, length-nets circuit numbering))))

  by_number : IsSettledUpTo circuit (map level_from vector) (length circuit.gates) all outs
  by_number = record {
    begins = refl;
    count = length-bits_from bits (first_output circuit) (length circuit.gates);
    gates = λ j gate low at. gate_level j gate low at;
  }

  by_name : IsSettled circuit.netlist (map level_from vector) (net_level (nets circuit) all)
  by_name = is_settled circuit (map level_from vector) numbering (length-map vector level_from ∙ count) all outs by_number

  level_of : (n : ℕ) (net : Net) → slice_get (nets circuit) n ≡ Some net → net_level (nets circuit) all net ≡ level_from (bits n)
  level_of n net at =
      value_at X circuit numbering all long n net at ∙ level_at n (omega (arith, slice_get-some (nets circuit) n net at, long))

level_from-same : (a b : Bool) → level_from a ≡ level_from b → a ≡ b
level_from-same true true is = refl
level_from-same false false is = refl
level_from-same true false is = absurd (let wrong : One ≡ Zero = is in cc)
level_from-same false true is = absurd (let wrong : Zero ≡ One = is in cc)

keeps_bits : (form : Form) (before after : Level) (a b : Bool) → before ≡ level_from a → after ≡ level_from b → Keeps form before after
    → spans.Keeps form a b
keeps_bits (Levels first second) before after a b one two kept = (subst (Agrees first) one kept.0, subst (Agrees second) two kept.1)
keeps_bits Equal before after a b one two kept = level_from-same a b (sym one ∙ kept ∙ two)

-- a pair that keeps conditions on nets by name keeps them by the circuit's numbers
pub kept_in : (circuit : Numbered) → IsNumbering circuit → (keep : List NamedCondition) (pair : Pair)
    → length pair.first ≡ length circuit.netlist.inputs → length pair.second ≡ length circuit.netlist.inputs
    → IsKept circuit.netlist keep pair → spans.IsKept circuit (conditions_in circuit keep) pair
kept_in circuit numbering keep pair first second kept = λ before after one two i c at.
    let it = comes_from circuit keep i c at in
    let net = net_is_at circuit numbering it.from.net c.net it.names in
    subst (λ (form : Form). spans.Keeps form (before c.net) (after c.net)) (sym it.form)
    (keeps_bits it.from.form
    (net_level (nets circuit) (all circuit numbering pair.first before first one) net.net)
    (net_level (nets circuit) (all circuit numbering pair.second after second two) net.net) (before c.net) (after c.net)
    (level_of circuit numbering pair.first before first one c.net net.net net.here) (level_of circuit numbering pair.second after second two c.net net.net net.here)
    (kept (net_level (nets circuit) (all circuit numbering pair.first before first one)) (net_level (nets circuit) (all circuit numbering pair.second after second two))
    (by_name circuit numbering pair.first before first one) (by_name circuit numbering pair.second after second two) it.place it.from net.net it.stands net.there))

-- each pair keeps what is no condition
pub nothing_kept : (netlist : Netlist) (pair : Pair) → IsKept netlist [] pair
nothing_kept netlist pair = λ before after one two i condition net at named. absurd (none-some condition at)

-- ---- lists, one element more at a time

level_first : (cube : List Trit) (i : ℕ) (t : Trit) → 2 * i + 1 < length cube → slice_get cube (2 * i) ≡ Some t → slice_get (first_levels cube) i ≡ Some (level_of_trit t)
level_first [] i t low at = absurd (none-some t at)
level_first (p ∷ []) i t low at = absurd (omega arith)
level_first (p ∷ q ∷ cube) zero t low at = ap (λ (u : Trit). Some (level_of_trit u)) (some-same p t at)
level_first (p ∷ q ∷ cube) (suc i) t low at =
    let two : 2 * suc i ≡ suc (suc (2 * i)) = omega arith in
    level_first cube i t (omega (arith, low)) (ap (slice_get (p ∷ q ∷ cube)) (sym two) ∙ at)

level_second : (cube : List Trit) (i : ℕ) (t : Trit) → 2 * i + 1 < length cube → slice_get cube (2 * i + 1) ≡ Some t → slice_get (second_levels cube) i ≡ Some (level_of_trit t)
level_second [] i t low at = absurd (none-some t at)
level_second (p ∷ []) i t low at = absurd (omega arith)
level_second (p ∷ q ∷ cube) zero t low at = ap (λ (u : Trit). Some (level_of_trit u)) (some-same q t at)
level_second (p ∷ q ∷ cube) (suc i) t low at =
    let two : 2 * suc i + 1 ≡ suc (suc (2 * i + 1)) = omega arith in
    level_second cube i t (omega (arith, low)) (ap (slice_get (p ∷ q ∷ cube)) (sym two) ∙ at)

pub levels_more : (second : Bool) (cube : List Trit) (i : ℕ) (t : Trit) → 2 * i + 1 < length cube → slice_get cube (2 * i + side second) ≡ Some t
    → take (i + 1) (levels_by second cube) ≡ take i (levels_by second cube) ++ level_of_trit t ∷ []
levels_more true cube i t low at =
    ap (λ n. take n (second_levels cube)) (let next : i + 1 ≡ suc i = omega arith in next)
    ∙ take_push (second_levels cube) i (level_of_trit t) (level_second cube i t low at)
levels_more false cube i t low at =
    let same : 2 * i + 0 ≡ 2 * i = omega arith in
    ap (λ n. take n (first_levels cube)) (let next : i + 1 ≡ suc i = omega arith in next)
    ∙ take_push (first_levels cube) i (level_of_trit t) (level_first cube i t low (ap (slice_get cube) (sym same) ∙ at))

few_firsts : (cube : List Trit) → 2 * length (first_levels cube) ≤ length cube
few_firsts [] = omega arith
few_firsts (p ∷ []) = omega arith
few_firsts (p ∷ q ∷ cube) = omega (arith, few_firsts cube)

few_seconds : (cube : List Trit) → 2 * length (second_levels cube) ≤ length cube
few_seconds [] = omega arith
few_seconds (p ∷ []) = omega arith
few_seconds (p ∷ q ∷ cube) = omega (arith, few_seconds cube)

pub few_levels : (second : Bool) (cube : List Trit) → 2 * length (levels_by second cube) ≤ length cube
few_levels true cube = few_seconds cube
few_levels false cube = few_firsts cube
