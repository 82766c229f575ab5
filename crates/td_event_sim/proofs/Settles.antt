-- Settled levels by bits are the starts of the run's waves, and what the run's inputs and constants
-- do.
use Rattle.std.proofs.Common.{◌≡◌, ◌≢◌, ℕ, zero, suc, ◌+◌, ◌<◌, Bool, false, List, [], ◌∷◌, length, map, get_or, set, refl, arith, inl, inr, sym, ap, ◌∙◌, Some, get_or-set_same, get_or-set_other}
use Rattle.std.specs.Prelude.{slice_get, nat_lt, if◌then◌else◌, ◌%◌, ◌==◌, count_by, not}
use Rattle.std.specs.List.{All, Contains, list_all, list_any}
use Rattle.std.proofs.lemmas.Bool.{cases_eq}
use Rattle.std.proofs.lemmas.List.{length-map}
use Rattle.std.proofs.lemmas.List.Elements.{All-head, All-tail, All-contains}
use Rattle.std.proofs.lemmas.List.Recursion.{is_count_by}
use Rattle.td_gates.specs.declared.primitives.Level.{Level}
use Rattle.td_gates.specs.declared.primitives.Level.TheVariants.{X}
use Rattle.td_gates.specs.declared.primitives.Kind.{Kind}
use Rattle.td_gates.specs.declared.primitives.Kind.TheVariants.{And, Nand, Or, Nor, Xor, Xnor, Buf, Not}
use Rattle.td_gates.specs.Table.{table, level_from}
use Rattle.td_gates.specs.Wave.{Wave, at, before}
use Rattle.td_gates.proofs.Places.{slice_get-some, slice_get-within, slice_get-get, slice_get-map_some}
use Rattle.td_nets.specs.Netlist.{Name, Net, Low, High, Named, Gate}
use Rattle.td_circuit.specs.Numbering.{NumberedGate, Numbered, setting, nets, first_output, IsGateAt, IsNumbering}
use Rattle.td_circuit.specs.Settings.{AreMoments}
use Rattle.td_circuit.specs.Run.{Runs, inputs_at}
use Rattle.td_circuit.specs.NetValues.{net_wave}
use Rattle.td_circuit.proofs.Looping.{input_number}
use Rattle.td_circuit.proofs.Nets.{length-nets, takes-at, lower-at}
use Rattle.td_circuit.proofs.Values.{value_at, same_at}
use Rattle.td_run.specs.Waves.{constant}
use Rattle.td_run.specs.Settled.{levels_of}
use Rattle.td_run.specs.Runs.{IsRunUpTo}
use Rattle.td_run.proofs.Named.{is_run, same_length}
use Rattle.td_event_sim.specs.Bits.{bit_at, target_of}
use Rattle.td_event_sim.specs.Settling.{AreSettled}
use Rattle.td_event_sim.specs.State.{wave_at}
use Rattle.td_event_sim.proofs.Tables.{level-at, target-is}
use Rattle.td_event_sim.proofs.Ones.{counted}

-- ---- a target depends on its inputs alone
abbrev AreAlike : (ℕ → Bool) → (ℕ → Bool) → List ℕ → Type 0
AreAlike f g inputs = All (λ input. f input ≡ g input) inputs

all-alike : (f g : ℕ → Bool) (inputs : List ℕ) → AreAlike f g inputs → list_all f inputs ≡ list_all g inputs
all-alike f g [] all = refl
all-alike f g (input ∷ inputs) all =
    rw (All-head (λ k. f k ≡ g k) input inputs all, all-alike f g inputs (All-tail (λ k. f k ≡ g k) input inputs all)) refl

any-alike : (f g : ℕ → Bool) (inputs : List ℕ) → AreAlike f g inputs → list_any f inputs ≡ list_any g inputs
any-alike f g [] all = refl
any-alike f g (input ∷ inputs) all =
    rw (All-head (λ k. f k ≡ g k) input inputs all, any-alike f g inputs (All-tail (λ k. f k ≡ g k) input inputs all)) refl

counted-alike : (f g : ℕ → Bool) (inputs : List ℕ) → AreAlike f g inputs → counted f inputs ≡ counted g inputs
counted-alike f g [] all = refl
counted-alike f g (input ∷ inputs) all =
    rw (All-head (λ k. f k ≡ g k) input inputs all, counted-alike f g inputs (All-tail (λ k. f k ≡ g k) input inputs all)) refl

count-alike : (f g : ℕ → Bool) (inputs : List ℕ) → AreAlike f g inputs → count_by f inputs ≡ count_by g inputs
count-alike f g inputs all =
    sym (is_count_by (counted f) f refl (λ x xs. refl) inputs) ∙ counted-alike f g inputs all ∙ is_count_by (counted g) g refl (λ x xs. refl) inputs

target-alike : (kind : Kind) (levels others : List Bool) (inputs : List ℕ) → AreAlike (bit_at levels) (bit_at others) inputs
    → target_of kind levels inputs ≡ target_of kind others inputs
target-alike And levels others inputs all = all-alike (bit_at levels) (bit_at others) inputs all
target-alike Nand levels others inputs all = ap not (all-alike (bit_at levels) (bit_at others) inputs all)
target-alike Or levels others inputs all = any-alike (bit_at levels) (bit_at others) inputs all
target-alike Nor levels others inputs all = ap not (any-alike (bit_at levels) (bit_at others) inputs all)
target-alike Xor levels others inputs all = ap (λ (n : ℕ). n % 2 == 1) (count-alike (bit_at levels) (bit_at others) inputs all)
target-alike Xnor levels others inputs all = ap (λ (n : ℕ). not (n % 2 == 1)) (count-alike (bit_at levels) (bit_at others) inputs all)
target-alike Buf levels others inputs all = all-alike (bit_at levels) (bit_at others) inputs all
target-alike Not levels others inputs all = ap not (all-alike (bit_at levels) (bit_at others) inputs all)

-- a write above all inputs leaves the target
target-above : (kind : Kind) (levels : List Bool) (inputs : List ℕ) (net : ℕ) (bit : Bool) → All (λ input. input < net) inputs
    → target_of kind (set levels net bit) inputs ≡ target_of kind levels inputs
target-above kind levels inputs net bit below = target-alike kind (set levels net bit) levels inputs
    (λ k d h. (let low : get_or inputs k d < net = below k d h in get_or-set_other levels net (get_or inputs k d) bit false (λ e. omega arith)))

-- one more gate is settled
pub settled-more : (circuit : Numbered) (vector : List Bool) (place : ℕ) (levels : List Bool) (gate : NumberedGate) (bit : Bool) → IsNumbering circuit
    → length vector ≡ length circuit.netlist.inputs → length levels ≡ first_output circuit + length circuit.gates
    → slice_get circuit.gates place ≡ Some gate → bit ≡ target_of gate.kind levels gate.inputs → AreSettled circuit vector place levels
    → AreSettled circuit vector (place + 1) (set levels (first_output circuit + place) bit)
settled-more circuit vector place levels gate bit numbering fits long at_place is settled =
    let net : ℕ = first_output circuit + place in
    let inside = slice_get-some circuit.gates place gate at_place in
    let other : (n : ℕ) → n ≢ net → bit_at (set levels net bit) n ≡ bit_at levels n = λ n apart. get_or-set_other levels net n bit false apart in
    record {
      first = record {
        low = other 0 (λ e. omega arith) ∙ settled.first.low;
        high = other 1 (λ e. omega arith) ∙ settled.first.high;
        inputs = λ input h. other (input + 2) (λ e. omega arith) ∙ settled.first.inputs input h;
      };
      gates = λ j at_gate below at_j.
          let lower = lower-at circuit numbering j at_gate at_j in
          let kept : target_of at_gate.kind (set levels net bit) at_gate.inputs ≡ target_of at_gate.kind levels at_gate.inputs =
          target-above at_gate.kind levels at_gate.inputs net bit (λ k d h. (let low : get_or at_gate.inputs k d < first_output circuit + j = lower k d h in omega arith)) in
          elim (cases_eq j place) [
            | inl now ↦
                let same : at_gate ≡ gate = sym (slice_get-get circuit.gates j at_gate gate at_j) ∙ slice_get-get circuit.gates j gate gate (rw now at_place) in
                ap (λ (n : ℕ). bit_at (set levels net bit) (first_output circuit + n)) now ∙ get_or-set_same levels net bit false (omega arith) ∙ is
                ∙ ap (λ (g : NumberedGate). target_of g.kind levels g.inputs) (sym same) ∙ sym kept
            | inr apart ↦ other (first_output circuit + j) (λ e. apart (omega arith)) ∙ settled.gates j at_gate (omega arith) at_j ∙ sym kept
          ];
    }

-- ---- the starts of the run
inputs_at-each : (t : ℕ) (moments : List ℕ) (firsts seconds : List Bool) (i : ℕ) → i < length moments → i < length firsts → i < length seconds
    → get_or (inputs_at t moments (map level_from firsts) (map level_from seconds)) i X
    ≡ (if nat_lt t (get_or moments i 0) then level_from (bit_at firsts i) else level_from (bit_at seconds i))
inputs_at-each t [] firsts seconds i m f s = absurd (omega arith)
inputs_at-each t (moment ∷ moments) [] seconds i m f s = absurd (omega arith)
inputs_at-each t (moment ∷ moments) (first ∷ firsts) [] i m f s = absurd (omega arith)
inputs_at-each t (moment ∷ moments) (first ∷ firsts) (second ∷ seconds) zero m f s = refl
inputs_at-each t (moment ∷ moments) (first ∷ firsts) (second ∷ seconds) (suc i) m f s =
    inputs_at-each t moments firsts seconds i (omega arith) (omega arith) (omega arith)

module _ (circuit : Numbered) (first second : List Bool) (numbering : IsNumbering circuit) (fit : AreMoments circuit.netlist circuit.moments)
    (f : length (map level_from first) ≡ length circuit.netlist.inputs) (s : length (map level_from second) ≡ length circuit.netlist.inputs)
    (waves outs : List Wave) (run : IsRunUpTo circuit (map level_from first) (map level_from second) (length circuit.gates) waves outs) where
  long_waves : length waves ≡ length (nets circuit)
  long_waves = same_length circuit (map level_from first) (map level_from second) numbering fit f s waves outs run

  runs : Runs (setting circuit) (map level_from first) (map level_from second) (net_wave (nets circuit) waves)
  runs = is_run circuit (map level_from first) (map level_from second) numbering fit f s waves outs run

  wave-is : (i : ℕ) (net : Net) → slice_get (nets circuit) i ≡ Some net → net_wave (nets circuit) waves net ≡ wave_at waves i
  wave-is i net at_i = value_at (constant X) circuit numbering waves long_waves i net at_i

  start_of : Net → Level
  start_of net = (net_wave (nets circuit) waves net).start

  module _ (levels : List Bool) (long : length levels ≡ length (nets circuit)) (settled : AreSettled circuit first (length circuit.gates) levels) where
    long_map : length (map level_from levels) ≡ length (nets circuit)
    long_map = length-map levels level_from ∙ long

    at-input : (i : ℕ) (name : Name) → slice_get circuit.netlist.inputs i ≡ Some name
        → (net_wave (nets circuit) waves (Named name)).start ≡ get_or (map level_from levels) (suc (suc i)) X
    at-input i name at_i =
        let inside = slice_get-some circuit.netlist.inputs i name at_i in
        let count : length first ≡ length circuit.netlist.inputs = sym (length-map first level_from) ∙ f in
        let level : get_or (map level_from first) i X ≡ (net_wave (nets circuit) waves (Named name)).start =
        slice_get-get (map level_from first) i _ X
        (rw (← runs.settled.inputs) (slice_get-map_some (λ n. (net_wave (nets circuit) waves (Named n)).start) circuit.netlist.inputs i name at_i)) in
        let number : suc (suc i) ≡ i + 2 = omega arith in
        sym level ∙ level-at first i (omega arith) ∙ ap level_from (sym (settled.first.inputs i (omega arith)))
        ∙ sym (ap (λ (n : ℕ). get_or (map level_from levels) n X) number
        ∙ level-at levels (i + 2) (omega (arith, length-nets circuit numbering, long)))

    at-gate : (place : ℕ) (numbered : NumberedGate) (gate : Gate) → slice_get circuit.gates place ≡ Some numbered
        → Contains circuit.netlist.gates gate → IsGateAt circuit place numbered gate
        → map start_of gate.inputs ≡ map (λ number. get_or (map level_from levels) number X) numbered.inputs
        → start_of (Named gate.output) ≡ get_or (map level_from levels) (first_output circuit + place) X
    unfolding start_of
    at-gate place numbered gate at_place has is inputs =
        let inside = slice_get-some circuit.gates place numbered at_place in
        let count = length-nets circuit numbering in
        let lower = lower-at circuit numbering place numbered at_place in
        All-contains (λ (g : Gate). start_of (Named g.output) ≡ table g.kind (map start_of g.inputs)) circuit.netlist.gates gate runs.settled.gates has
        ∙ ap (λ (ls : List Level). table gate.kind ls) inputs
        ∙ ap (λ (k : Kind). table k (levels_of (map level_from levels) numbered.inputs)) (sym is.kind)
        ∙ target-is numbered.kind levels numbered.inputs (takes-at circuit numbering place numbered at_place)
        (λ k d h. (let low : get_or numbered.inputs k d < first_output circuit + place = lower k d h in omega (arith, long, count)))
        ∙ ap level_from (sym (settled.gates place numbered inside at_place))
        ∙ sym (level-at levels (first_output circuit + place) (omega (arith, long, count)))

    pub starts-are : (net : ℕ) → net < length (nets circuit) → level_from (bit_at levels net) ≡ before (wave_at waves net) 0
    unfolding start_of
    starts-are net inside =
        let found = slice_get-within (nets circuit) net inside in
        let low : start_of Low ≡ get_or (map level_from levels) 0 X =
        runs.settled.low ∙ ap level_from (sym settled.first.low) ∙ sym (level-at levels 0 (omega (arith, length-nets circuit numbering, long))) in
        let high : start_of High ≡ get_or (map level_from levels) 1 X =
        runs.settled.high ∙ ap level_from (sym settled.first.high) ∙ sym (level-at levels 1 (omega (arith, length-nets circuit numbering, long))) in
        sym (level-at levels net (omega (arith, long)))
        ∙ sym (same_at X circuit numbering (map level_from levels) long_map start_of low high at-input at-gate net found.0 found.1)
        ∙ ap (λ (w : Wave). w.start) (wave-is net found.0 found.1)

  -- ---- the inputs and the constants
  input_net : (i : ℕ) (name : Name) → slice_get circuit.netlist.inputs i ≡ Some name → slice_get (nets circuit) (i + 2) ≡ Some (Named name)
  input_net i name at_i = (let number : suc (suc i) ≡ i + 2 = omega arith in rw (← number) (input_number circuit i name at_i))

  pub input-start : (i : ℕ) → i < length circuit.netlist.inputs → before (wave_at waves (i + 2)) 0 ≡ level_from (bit_at first i)
  input-start i h =
      let name = slice_get-within circuit.netlist.inputs i h in
      let level : get_or (map level_from first) i X ≡ (net_wave (nets circuit) waves (Named name.0)).start =
      slice_get-get (map level_from first) i _ X
      (rw (← runs.settled.inputs) (slice_get-map_some (λ n. (net_wave (nets circuit) waves (Named n)).start) circuit.netlist.inputs i name.0 name.1)) in
      ap (λ (w : Wave). w.start) (sym (wave-is (i + 2) (Named name.0) (input_net i name.0 name.1))) ∙ sym level
      ∙ level-at first i (omega (arith, length-map first level_from, f))

  pub input-at : (i t : ℕ) → i < length circuit.netlist.inputs
      → at (wave_at waves (i + 2)) t ≡ (if nat_lt t (get_or circuit.moments i 0) then level_from (bit_at first i) else level_from (bit_at second i))
  input-at i t h =
      let name = slice_get-within circuit.netlist.inputs i h in
      let level : get_or (inputs_at t circuit.moments (map level_from first) (map level_from second)) i X ≡ at (net_wave (nets circuit) waves (Named name.0)) t =
      slice_get-get (inputs_at t circuit.moments (map level_from first) (map level_from second)) i _ X
      (rw (← runs.inputs t) (slice_get-map_some (λ n. at (net_wave (nets circuit) waves (Named n)) t) circuit.netlist.inputs i name.0 name.1)) in
      ap (λ (w : Wave). at w t) (sym (wave-is (i + 2) (Named name.0) (input_net i name.0 name.1))) ∙ sym level
      ∙ inputs_at-each t circuit.moments first second i (omega (arith, fit.count)) (omega (arith, length-map first level_from, f)) (omega (arith, length-map second level_from, s))

  still : (wave : Wave) (t : ℕ) → wave.changes ≡ [] → at wave t ≡ before wave t
  still wave zero none = rw none refl
  still wave (suc t) none = rw none refl

  pub constant-still : (net t : ℕ) → net < 2 → at (wave_at waves net) t ≡ before (wave_at waves net) t
  constant-still net t low = elim (cases_eq net 0) [
    | inl zeroth ↦ rw zeroth (still (wave_at waves 0) t (ap (λ (w : Wave). w.changes) (sym (wave-is 0 Low refl)) ∙ runs.low))
    | inr more ↦
        let one : net ≡ 1 = omega arith in
        rw one (still (wave_at waves 1) t (ap (λ (w : Wave). w.changes) (sym (wave-is 1 High refl)) ∙ runs.high))
  ]
