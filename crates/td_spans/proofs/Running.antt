-- Running: what the levels of a run are, by number and place.
use Rattle.std.proofs.Common.{◌≡◌, ◌≢◌, ℕ, zero, suc, ◌+◌, ◌-◌, ◌*◌, ◌<◌, ◌≤◌, Bool, true, false, List, [], ◌∷◌, length, map, get_or, refl, arith, ap, sym, ◌∙◌, subst, inl, inr, Option, Some, None}
use Rattle.std.specs.Prelude.{slice_get, nat_lt, if◌then◌else◌}
use Rattle.std.proofs.Math.Path.{fun_ext}
use Rattle.std.proofs.lemmas.Bool.{lt-ltb, le-ltb, cases_lt}
use Rattle.std.proofs.lemmas.List.{length-map}
use Rattle.std.proofs.lemmas.List.Elements.{recursion_from_All, All-contains}
use Rattle.std.proofs.lemmas.Option.{get_or_from_slice_get}
use Rattle.td_gates.specs.declared.primitives.Level.{Level}
use Rattle.td_gates.specs.declared.primitives.Level.TheVariants.{Zero, One, X}
use Rattle.td_gates.specs.declared.timing.Delay.{Delay}
use Rattle.td_gates.specs.declared.primitives.Kind.{Kind}
use Rattle.td_gates.specs.Table.{table, level_eq, level_from}
use Rattle.td_gates.specs.Wave.{Wave, at, before}
use Rattle.td_gates.specs.Schedule.{Obeys, target_before}
use Rattle.td_gates.proofs.Places.{some-same, slice_get-some, slice_get-within, slice_get-map_some, maps_match, map-fuse}
use Rattle.td_gates.proofs.Delays.{IsDelayed, delayed}
use Rattle.td_gates.proofs.TableLaws.{Booleans, table-boolean}
use Rattle.td_nets.specs.Netlist.{Net, Named, Gate}
use Rattle.td_nets.specs.Netlist.{Low as LowNet, High as HighNet}
use Rattle.td_circuit.specs.Settings.{AreMoments}
use Rattle.td_circuit.specs.Numbering.{NumberedGate, Numbered, setting, nets, first_output, IsNumbering, IsGateAt}
use Rattle.td_circuit.specs.Run.{Runs}
use Rattle.td_circuit.proofs.Looping.{input_number, output_number}
use Rattle.td_circuit.proofs.Nets.{gate_at, takes-at, range-at, lower-at}
use Rattle.td_run.proofs.Named.{inputs_at-at}
use Rattle.td_domain.specs.declared.cubes.Trit.{Trit}
use Rattle.td_domain.specs.Pairs.{Pair}
use Rattle.td_domain.specs.Cubes.{Allows, IsIn, IsInputWave}
use Rattle.td_domain.specs.Admits.{Admitted, AreHeld, IsAdmitted}
use Rattle.td_domain.specs.Waves.{IsBoolean, IsConstant}
use Rattle.td_domain.specs.Functions.{Functions}
use Rattle.td_domain.proofs.Soundness.{AllowsBits-at, covered}
use Rattle.td_spans.specs.Targets.{target_bit}
use Rattle.td_spans.specs.Lookups.{the_gate, no_gate}
use Rattle.td_spans.specs.Timing.{level_bits, target_bits}
use Rattle.td_spans.specs.Changing.{is_so}
use Rattle.td_spans.specs.Timed.{IsInput, IsGate, IsTimed}

is_one : (b : Bool) → level_eq One (level_from b) ≡ b
is_one true = refl
is_one false = refl

whole : (l : Level) → l ≢ X → level_from (level_eq One l) ≡ l
whole Zero boolean = refl
whole One boolean = refl
whole X boolean = absurd (boolean refl)

pub held_at : (held before after : List Bool) (i : ℕ) (h a b : Bool) → AreHeld held before after → slice_get held i ≡ Some h
    → slice_get before i ≡ Some a → slice_get after i ≡ Some b → h ≡ true → a ≡ b
held_at [] before after i h a b are at at_a at_b is = cc
held_at (x ∷ held) [] after i h a b are at at_a at_b is = cc
held_at (x ∷ held) (y ∷ before) [] i h a b are at at_a at_b is = cc
held_at (x ∷ held) (y ∷ before) (z ∷ after) zero h a b are at at_a at_b is =
    sym (some-same y a at_a) ∙ are.0 (some-same x h at ∙ is) ∙ some-same z b at_b
held_at (x ∷ held) (y ∷ before) (z ∷ after) (suc i) h a b are at at_a at_b is = held_at held before after i h a b are.1 at at_a at_b is

pub so_some : (o : Option Bool) → is_so o ≡ true → o ≡ Some true
so_some None is = cc
so_some (Some b) is = ap (λ (b : Bool). Some b) is

nothing : Functions (Unit {0})
nothing = record { input_of = λ p q m. tt; constant_of = λ b. tt; gate_of = λ kind delay signals. tt; last_of = λ s. Some 0 }

if_early : {A : Type 0} (t moment : ℕ) (a b : A) → t < moment → (if nat_lt t moment then a else b) ≡ a
if_early t moment a b early = rw (lt-ltb t moment early)

if_late : {A : Type 0} (t moment : ℕ) (a b : A) → moment ≤ t → (if nat_lt t moment then a else b) ≡ b
if_late t moment a b late = rw (le-ltb t moment late)

module _ (circuit : Numbered) (numbering : IsNumbering circuit) (fit : AreMoments circuit.netlist circuit.moments) (cube : List Trit)
    (count : length cube ≡ 2 * length circuit.netlist.inputs) (admit : Admitted) (pair : Pair) (is_in : IsIn pair cube)
    (admitted : IsAdmitted admit pair) (waves : Net → Wave)
    (runs : Runs (setting circuit) (map level_from pair.first) (map level_from pair.second) waves) where
  boolean : (i : ℕ) (net : Net) → slice_get (nets circuit) i ≡ Some net → IsBoolean (waves net)
  boolean i net at_i = (covered (λ signal wave. Unit {0}) nothing (λ p q m wave is. tt) (λ b wave is. tt) (λ kind delay signals ins out f t b c o. tt)
      circuit numbering fit cube count (λ net. tt)
      (record { low = refl; high = refl; inputs = λ i name p q m a b c d. refl; gates = λ k d low. refl })
      pair is_in waves runs i net at_i).1

  named : (i : ℕ) (net : Net) → slice_get (nets circuit) i ≡ Some net → get_or (nets circuit) i LowNet ≡ net
  named i net at_i = get_or_from_slice_get (nets circuit) i net LowNet at_i

  -- a level as the run has it
  pub level_is : (i : ℕ) (net : Net) → slice_get (nets circuit) i ≡ Some net → (n : ℕ) → level_from (level_bits circuit waves i n) ≡ before (waves net) n
  level_is i net at_i n =
      ap (λ (m : Net). level_from (level_eq One (before (waves m) n))) (named i net at_i) ∙ whole (before (waves net) n) (boolean i net at_i n)

  constant_level : (wave : Wave) (l : Level) → wave.start ≡ l → wave.changes ≡ [] → (n : ℕ) → before wave n ≡ l
  constant_level wave l start none zero = start
  constant_level wave l start none (suc n) = rw none start

  at_low : (n : ℕ) → level_bits circuit waves 0 n ≡ false
  at_low n = ap (level_eq One) (constant_level (waves LowNet) Zero runs.settled.low runs.low n)

  at_high : (n : ℕ) → level_bits circuit waves 1 n ≡ true
  at_high n = ap (level_eq One) (constant_level (waves HighNet) One runs.settled.high runs.high n)

  at_input : (i : ℕ) → i < length circuit.netlist.inputs → (p q : Trit) (moment : ℕ) → slice_get cube (2 * i) ≡ Some p → slice_get cube (2 * i + 1) ≡ Some q
      → slice_get circuit.moments i ≡ Some moment
      → IsInput pair i p q moment (level_bits circuit waves (2 + i))
  at_input i low p q moment at_p at_q at_m =
      let few = slice_get-some circuit.moments i moment at_m in
      let name = slice_get-within circuit.netlist.inputs i (omega (arith, few, fit.count)) in
      let number : slice_get (nets circuit) (suc (suc i)) ≡ Some (Named name.0) = input_number circuit i name.0 name.1 in
      let bits = AllowsBits-at cube pair.first pair.second i is_in (omega (arith, few, fit.count, count)) in
      let start : (waves (Named name.0)).start ≡ level_from bits.0 =
      some-same _ _ (sym (slice_get-map_some (λ n. (waves (Named n)).start) circuit.netlist.inputs i name.0 name.1)
      ∙ ap (λ ls. slice_get ls i) runs.settled.inputs ∙ slice_get-map_some level_from pair.first i bits.0 bits.4) in
      let level = λ (t : ℕ). (
      let same : at (waves (Named name.0)) t ≡ (if nat_lt t moment then level_from bits.0 else level_from bits.1) =
      some-same _ _ (sym (slice_get-map_some (λ n. at (waves (Named n)) t) circuit.netlist.inputs i name.0 name.1)
      ∙ ap (λ ls. slice_get ls i) (runs.inputs t)
      ∙ inputs_at-at t (map level_from pair.first) (map level_from pair.second) circuit.moments i
      (level_from bits.0) (level_from bits.1) moment (slice_get-map_some level_from pair.first i bits.0 bits.4)
      (slice_get-map_some level_from pair.second i bits.1 bits.5) at_m) in same) in
      let place : 2 + i ≡ suc (suc i) = omega arith in
      let is : (n : ℕ) → level_bits circuit waves (2 + i) n ≡ level_eq One (before (waves (Named name.0)) n) =
      λ n. ap (λ (m : Net). level_eq One (before (waves m) n)) (ap (λ k. get_or (nets circuit) k LowNet) place ∙ named (suc (suc i)) (Named name.0) number) in
      let first : Allows p bits.0 = subst (λ (t : Trit). Allows t bits.0) (some-same bits.2 p (sym bits.6 ∙ at_p)) bits.8 in
      let second : Allows q bits.1 = subst (λ (t : Trit). Allows t bits.1) (some-same bits.3 q (sym bits.7 ∙ at_q)) bits.9 in
      record {
        a = bits.0;
        b = bits.1;
        at_a = bits.4;
        at_b = bits.5;
        first = first;
        second = second;
        early = λ n low. is n ∙ early_level (waves (Named name.0)) bits.0 bits.1 moment start level n low;
        late = λ n low. is n ∙ late_level (waves (Named name.0)) bits.0 bits.1 moment level n low;
      }
    where
      early_level : (wave : Wave) (a b : Bool) (moment : ℕ) → wave.start ≡ level_from a
          → ((t : ℕ) → at wave t ≡ (if nat_lt t moment then level_from a else level_from b)) → (n : ℕ) → n ≤ moment → level_eq One (before wave n) ≡ a
      early_level wave a b moment start level zero low = ap (level_eq One) start ∙ is_one a
      early_level wave a b moment start level (suc t) low =
          ap (level_eq One) (level t ∙ if_early t moment (level_from a) (level_from b) (omega arith)) ∙ is_one a

      late_level : (wave : Wave) (a b : Bool) (moment : ℕ) → ((t : ℕ) → at wave t ≡ (if nat_lt t moment then level_from a else level_from b))
          → (n : ℕ) → moment < n → level_eq One (before wave n) ≡ b
      late_level wave a b moment level zero low = absurd (omega arith)
      late_level wave a b moment level (suc t) low =
          ap (level_eq One) (level t ∙ if_late t moment (level_from a) (level_from b) (omega arith)) ∙ is_one b

  -- the wave of a net by its number
  abbrev pub wave_of : ℕ → Wave
  wave_of i = waves (get_or (nets circuit) i LowNet)

  past_low : {A : Type 0} (xs : List A) (i : ℕ) (d : A) → length xs ≤ i → get_or xs i d ≡ d
  past_low [] i d past = refl
  past_low (x ∷ xs) zero d past = absurd (omega arith)
  past_low (x ∷ xs) (suc i) d past = past_low xs i d (omega arith)

  pub wave_boolean : (i : ℕ) → IsBoolean (wave_of i)
  wave_boolean i = elim (cases_lt i (length (nets circuit))) [
    | inl low ↦
        let found = slice_get-within (nets circuit) i low in
        subst (λ (m : Net). IsBoolean (waves m)) (sym (named i found.0 found.1)) (boolean i found.0 found.1)
    | inr past ↦ subst (λ (m : Net). IsBoolean (waves m)) (sym (past_low (nets circuit) i LowNet past)) (boolean 0 LowNet refl)
  ]

  pub low_wave : IsConstant Zero (wave_of 0)
  low_wave t = constant_level (waves LowNet) Zero runs.settled.low runs.low t

  pub high_wave : IsConstant One (wave_of 1)
  high_wave t = constant_level (waves HighNet) One runs.settled.high runs.high t

  -- an input's wave, and its bits in the pair
  abbrev pub IsInputOf : ℕ → Trit → Trit → ℕ → Wave → Type 0
  IsInputOf i p q moment wave = (is : IsInputWave p q moment wave) × (slice_get pair.first i ≡ Some is.before) × (slice_get pair.second i ≡ Some is.after)

  pub input_wave : (i : ℕ) → i < length circuit.netlist.inputs → (p q : Trit) (moment : ℕ) → slice_get cube (2 * i) ≡ Some p → slice_get cube (2 * i + 1) ≡ Some q
      → slice_get circuit.moments i ≡ Some moment → IsInputOf i p q moment (wave_of (2 + i))
  input_wave i low p q moment at_p at_q at_m =
      let name = slice_get-within circuit.netlist.inputs i low in
      let number : slice_get (nets circuit) (suc (suc i)) ≡ Some (Named name.0) = input_number circuit i name.0 name.1 in
      let bits = AllowsBits-at cube pair.first pair.second i is_in (omega (arith, low, count)) in
      let start : (waves (Named name.0)).start ≡ level_from bits.0 =
      some-same _ _ (sym (slice_get-map_some (λ n. (waves (Named n)).start) circuit.netlist.inputs i name.0 name.1)
      ∙ ap (λ ls. slice_get ls i) runs.settled.inputs ∙ slice_get-map_some level_from pair.first i bits.0 bits.4) in
      let level = λ (t : ℕ). (
      let same : at (waves (Named name.0)) t ≡ (if nat_lt t moment then level_from bits.0 else level_from bits.1) =
      some-same _ _ (sym (slice_get-map_some (λ n. at (waves (Named n)) t) circuit.netlist.inputs i name.0 name.1)
      ∙ ap (λ ls. slice_get ls i) (runs.inputs t)
      ∙ inputs_at-at t (map level_from pair.first) (map level_from pair.second) circuit.moments i
      (level_from bits.0) (level_from bits.1) moment (slice_get-map_some level_from pair.first i bits.0 bits.4)
      (slice_get-map_some level_from pair.second i bits.1 bits.5) at_m) in same) in
      let place : 2 + i ≡ suc (suc i) = omega arith in
      let here : wave_of (2 + i) ≡ waves (Named name.0) =
      ap (λ k. waves (get_or (nets circuit) k LowNet)) place ∙ ap waves (named (suc (suc i)) (Named name.0) number) in
      let is : IsInputWave p q moment (waves (Named name.0)) = record {
        before = bits.0;
        after = bits.1;
        first_allows = subst (λ (t : Trit). Allows t bits.0) (some-same bits.2 p (sym bits.6 ∙ at_p)) bits.8;
        second_allows = subst (λ (t : Trit). Allows t bits.1) (some-same bits.3 q (sym bits.7 ∙ at_q)) bits.9;
        starts = start;
        keeps = λ t early. level t ∙ if_early t moment (level_from bits.0) (level_from bits.1) early;
        then = λ t late. level t ∙ if_late t moment (level_from bits.0) (level_from bits.1) late;
      } in
      subst (λ (wave : Wave). IsInputOf i p q moment wave) (sym here) (is, bits.4, bits.5)

  -- a gate's output obeys the scheduling rule
  pub gate_wave : (place : ℕ) (gate : NumberedGate) → slice_get circuit.gates place ≡ Some gate
      → Obeys gate.kind gate.delay (map wave_of gate.inputs) (wave_of (first_output circuit + place))
  gate_wave place gate at_place =
      let found = gate_at circuit numbering place gate at_place in
      let named_gate : Gate = found.0 in
      let is : IsGateAt circuit place gate named_gate = found.3 in
      let net : ℕ = first_output circuit + place in
      let number : slice_get (nets circuit) net ≡ Some (Named named_gate.output) = output_number circuit place named_gate found.1 in
      let ins : map waves named_gate.inputs ≡ map wave_of gate.inputs = maps_match waves wave_of named_gate.inputs gate.inputs (sym is.inputs.count)
      (λ i m input at_m at_input. sym (ap waves (named input m (is.inputs.each i input m at_input at_m)))) in
      let out : waves (Named named_gate.output) ≡ wave_of net = sym (ap waves (named net (Named named_gate.output) number)) in
      let obeys : Obeys named_gate.kind named_gate.delay (map waves named_gate.inputs) (waves (Named named_gate.output)) =
      All-contains (λ (g : Gate). Obeys g.kind g.delay (map waves g.inputs) (waves (Named g.output))) circuit.netlist.gates named_gate runs.gates found.2 in
      subst (λ (k : Kind). Obeys k gate.delay (map wave_of gate.inputs) (wave_of net)) (sym is.kind)
      (subst (λ (d : Delay). Obeys named_gate.kind d (map wave_of gate.inputs) (wave_of net)) (sym is.delay)
      (subst (λ (ws : List Wave). Obeys named_gate.kind named_gate.delay ws (wave_of net)) ins
      (subst (λ (wave : Wave). Obeys named_gate.kind named_gate.delay (map waves named_gate.inputs) wave) out obeys)))

  at_gate : (place : ℕ) (gate : NumberedGate) → slice_get circuit.gates place ≡ Some gate
      → IsGate gate (level_bits circuit waves) (first_output circuit + place) (target_bits circuit waves (first_output circuit + place))
  at_gate place gate at_place =
      let found = gate_at circuit numbering place gate at_place in
      let named_gate : Gate = found.0 in
      let is : IsGateAt circuit place gate named_gate = found.3 in
      let net : ℕ = first_output circuit + place in
      let number : slice_get (nets circuit) net ≡ Some (Named named_gate.output) = output_number circuit place named_gate found.1 in
      let fits = range-at circuit numbering place gate at_place in
      let takes = takes-at circuit numbering place gate at_place in
      let ins : (n : ℕ) → map (λ wave. before wave n) (map waves named_gate.inputs) ≡ map (λ input. level_from (level_bits circuit waves input n)) gate.inputs =
      λ n. map-fuse waves (λ wave. before wave n) named_gate.inputs
      ∙ maps_match (λ (m : Net). before (waves m) n) (λ input. level_from (level_bits circuit waves input n)) named_gate.inputs gate.inputs (sym is.inputs.count)
      (λ i m input at_m at_input. sym (level_is input m (is.inputs.each i input m at_input at_m) n)) in
      let table_is : (n : ℕ) → target_before named_gate.kind (map waves named_gate.inputs) n
      ≡ table gate.kind (map (λ input. level_from (level_bits circuit waves input n)) gate.inputs) =
      λ n. ap (table named_gate.kind) (ins n) ∙ ap (λ kind. table kind (map (λ input. level_from (level_bits circuit waves input n)) gate.inputs)) (sym is.kind) in
      let back : net - first_output circuit ≡ place = omega arith in
      let gate_is : the_gate circuit (net - first_output circuit) ≡ gate =
      ap (λ k. get_or circuit.gates k no_gate) back ∙ get_or_from_slice_get circuit.gates place gate no_gate at_place in
      let bits : (n : ℕ) → target_bits circuit waves net n ≡ target_bit gate.kind (map (λ input. level_bits circuit waves input n) gate.inputs) =
      λ n. rw (le-ltb net (first_output circuit) (omega arith)) (ap (λ g. target_bit g.kind (map (λ input. level_bits circuit waves input n) g.inputs)) gate_is) in
      let is_table : (n : ℕ) → table gate.kind (map (λ input. level_from (level_bits circuit waves input n)) gate.inputs) ≡ level_from (target_bits circuit waves net n) =
      λ n. sym (ap level_from (bits n)
      ∙ ap (λ ls. level_from (level_eq One (table gate.kind ls))) (map-fuse (λ input. level_bits circuit waves input n) level_from gate.inputs)
      ∙ whole _ (table-boolean gate.kind (map (λ input. level_from (level_bits circuit waves input n)) gate.inputs)
      (rw length-map takes) (all_whole (λ input. level_bits circuit waves input n) gate.inputs))) in
      let obeys : Obeys named_gate.kind named_gate.delay (map waves named_gate.inputs) (waves (Named named_gate.output)) =
      All-contains (λ (g : Gate). Obeys g.kind g.delay (map waves g.inputs) (waves (Named g.output))) circuit.netlist.gates named_gate runs.gates found.2 in
      let follows : IsDelayed (target_before named_gate.kind (map waves named_gate.inputs)) gate.delay (before (waves (Named named_gate.output))) =
      subst (λ (d : Delay). IsDelayed (target_before named_gate.kind (map waves named_gate.inputs)) d (before (waves (Named named_gate.output)))) (sym is.delay)
      (delayed named_gate.kind named_gate.delay (rw is.delay at fits) (map waves named_gate.inputs) (waves (Named named_gate.output)) obeys) in
      let target_is : target_before named_gate.kind (map waves named_gate.inputs) ≡ (λ n. level_from (target_bits circuit waves net n)) =
      fun_ext (λ n. table_is n ∙ is_table n) in
      let output_is : before (waves (Named named_gate.output)) ≡ (λ n. level_from (level_bits circuit waves net n)) =
      fun_ext (λ n. sym (level_is net (Named named_gate.output) number n)) in
      record {
        fits = fits;
        takes = takes;
        lower = recursion_from_All (λ n. n < net) gate.inputs (lower-at circuit numbering place gate at_place);
        is_table = is_table;
        is_target = fun_ext (λ n. bits n ∙ ap (target_bit gate.kind) (sym (map-fuse (level_bits circuit waves) (λ levels. levels n) gate.inputs)));
        follows = subst (λ (o : ℕ → Level). IsDelayed (λ n. level_from (target_bits circuit waves net n)) gate.delay o) output_is
            (subst (λ (e : ℕ → Level). IsDelayed e gate.delay (before (waves (Named named_gate.output)))) target_is follows);
      }
    where
      level_whole : (b : Bool) → level_from b ≢ X
      level_whole true = λ e. cc
      level_whole false = λ e. cc

      all_whole : (f : ℕ → Bool) (inputs : List ℕ) → Booleans (map (λ input. level_from (f input)) inputs)
      all_whole f [] = tt
      all_whole f (input ∷ inputs) = (level_whole (f input), all_whole f inputs)

  -- The levels of the run are timed.
  pub timed : IsTimed circuit cube pair (level_bits circuit waves) (target_bits circuit waves)
  timed = record { low = at_low; high = at_high; inputs = at_input; gates = at_gate }
