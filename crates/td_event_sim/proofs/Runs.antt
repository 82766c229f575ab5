-- A run of a circuit is one as the simulator needs it.
use Rattle.std.proofs.Common.{◌≡◌, ◌≢◌, ℕ, zero, suc, true, false, inl, inr, map, subst, ◌+◌, ◌-◌, ◌*◌, ◌^◌, ◌<◌, ◌≤◌, Bool, List, [], ◌∷◌, length, get_or, refl, arith, sym, ap, ◌∙◌, Option, Some, None, max, unwrap_or}
use Rattle.std.specs.List.{All}
use Rattle.std.specs.Prelude.{slice_get, nat_le, nat_lt, if◌then◌else◌}
use Rattle.std.proofs.lemmas.Bool.{cases_lt, cases_order, le-leb, lt-leb, lt-ltb, le-ltb, eq-eqb, ne_eqb}
use Rattle.std.proofs.lemmas.List.Elements.{All-head, All-tail}
use Rattle.td_gates.specs.declared.primitives.Level.{Level}
use Rattle.td_gates.specs.declared.primitives.Level.TheVariants.{X}
use Rattle.td_gates.specs.declared.timing.Change.{Change}
use Rattle.td_gates.specs.Table.{level_eq, level_from}
use Rattle.td_gates.specs.Schedule.{GateState, updated}
use Rattle.td_gates.specs.Wave.{Wave, level_after, at, before, IsRising, IsWave, last_of, last}
use Rattle.td_gates.proofs.Levels.{level_under, before-level_under, level_eq-other}
use Rattle.td_gates.proofs.Places.{none-some, some-same, slice_get-some, slice_get-within, get_or-back}
use Rattle.td_circuit.specs.Numbering.{NumberedGate, Numbered, nets, first_output, IsNumbering}
use Rattle.td_circuit.specs.Settings.{AreMoments}
use Rattle.td_circuit.specs.Run.{latest_change}
use Rattle.td_circuit.proofs.Nets.{length-nets, lower-at, takes-at, range-at, few_gates}
use Rattle.td_run.specs.Runs.{first_waves, IsRunUpTo}
use Rattle.td_run.proofs.Numbered.{length-first_waves, length-waves}
use Rattle.td_run.specs.Waves.{AreWithin, constant, waves_of}
use Rattle.td_event_sim.specs.State.{wave_at, gate_before, IsRunBy, latest_before, IsStateBefore}
use Rattle.td_event_sim.specs.Latest.{greatest_at}
use Rattle.td_event_sim.specs.Bits.{bit_at}
use Rattle.td_event_sim.proofs.Steps.{state_of}
use Rattle.td_event_sim.proofs.Settles.{input-start, input-at, constant-still}
use Rattle.td_event_sim.proofs.Moments.{latest-stays, quiet-moments}

-- after all changes a wave stays
past-all : (bound : ℕ) (level : Level) (changes : List Change) (t : ℕ) → AreWithin bound changes → bound < t
    → level_after level changes t ≡ level_under level changes t
past-all bound level [] t within h = refl
past-all bound level (change ∷ later) t within h =
    let early : change.moment ≤ bound = All-head (λ (c : Change). c.moment ≤ bound) change later within in
    rw (le-leb change.moment t (omega arith), lt-ltb change.moment t (omega arith))
    (past-all bound change.level later t (All-tail (λ (c : Change). c.moment ≤ bound) change later within) h)

stays-past : (bound : ℕ) (wave : Wave) (t : ℕ) → AreWithin bound wave.changes → bound < t → at wave t ≡ before wave t
stays-past bound wave t within h = past-all bound wave.start wave.changes t within h ∙ sym (before-level_under wave t)

-- ---- the states of the inputs
abbrev pub event_to : Bool → Bool → ℕ → Option Change
event_to first second moment =
    if level_eq (level_from first) (level_from second) then None else Some (record { moment = moment; level = level_from second })

-- until its moment an input has its first level, and where the second is another, an event to it
abbrev pub input_state : Bool → Bool → ℕ → ℕ → GateState
input_state first second moment t =
    if nat_le t moment then state_of (level_from first) (event_to first second moment) else state_of (level_from second) None

pub early-input : (first second : Bool) (moment t : ℕ) → t ≤ moment → input_state first second moment t ≡ state_of (level_from first) (event_to first second moment)
early-input first second moment t h =
    ap (λ (b : Bool). if b then state_of (level_from first) (event_to first second moment) else state_of (level_from second) None) (le-leb t moment h)

past-input : (first second : Bool) (moment t : ℕ) → moment < t → input_state first second moment t ≡ state_of (level_from second) None
past-input first second moment t h =
    ap (λ (b : Bool). if b then state_of (level_from first) (event_to first second moment) else state_of (level_from second) None) (lt-leb t moment h)

due-input : (first second : Bool) (moment t : ℕ) → moment ≡ t → updated t (level_from first) (event_to first second moment) ≡ state_of (level_from second) None
due-input true true moment t same = refl
due-input true false moment t same = rw (eq-eqb moment t same) refl
due-input false true moment t same = rw (eq-eqb moment t same) refl
due-input false false moment t same = refl

waiting-input : (first second : Bool) (moment t : ℕ) → moment ≢ t
    → updated t (level_from first) (event_to first second moment) ≡ state_of (level_from first) (event_to first second moment)
waiting-input true true moment t apart = refl
waiting-input true false moment t apart = rw (ne_eqb moment t apart) refl
waiting-input false true moment t apart = rw (ne_eqb moment t apart) refl
waiting-input false false moment t apart = refl

-- an input does what its event says
input-next : (first second : Bool) (moment t : ℕ)
    → input_state first second moment (suc t) ≡ updated t (input_state first second moment t).level (input_state first second moment t).scheduled
input-next first second moment t = elim (cases_order t moment) [
  | inl now ↦
      past-input first second moment (suc t) (omega arith) ∙ sym (due-input first second moment t (sym now))
      ∙ sym (ap (λ (s : GateState). updated t s.level s.scheduled) (early-input first second moment t (omega arith)))
  | inr apart ↦ elim apart [
    | inl sooner ↦
        early-input first second moment (suc t) (omega arith) ∙ sym (waiting-input first second moment t (λ e. omega arith))
        ∙ sym (ap (λ (s : GateState). updated t s.level s.scheduled) (early-input first second moment t (omega arith)))
    | inr later ↦
        past-input first second moment (suc t) (omega arith)
        ∙ sym (ap (λ (s : GateState). updated t s.level s.scheduled) (past-input first second moment t later))
  ]
]

-- an input's wave has the levels of its states
input-level : (wave : Wave) (first second : Bool) (moment : ℕ) → wave.start ≡ level_from first
    → ((t : ℕ) → at wave t ≡ (if nat_lt t moment then level_from first else level_from second))
    → (t : ℕ) → before wave t ≡ (input_state first second moment t).level
input-level wave first second moment start levels zero =
    start ∙ sym (ap (λ (s : GateState). s.level) (early-input first second moment 0 (omega arith)))
input-level wave first second moment start levels (suc t) = elim (cases_lt t moment) [
  | inl early ↦
      levels t ∙ ap (λ (b : Bool). if b then level_from first else level_from second) (lt-ltb t moment early)
      ∙ sym (ap (λ (s : GateState). s.level) (early-input first second moment (suc t) (omega arith)))
  | inr past ↦
      levels t ∙ ap (λ (b : Bool). if b then level_from first else level_from second) (le-ltb t moment past)
      ∙ sym (ap (λ (s : GateState). s.level) (past-input first second moment (suc t) (omega arith)))
]

-- ---- the states of all nets
abbrev gate_state : List Wave → Option NumberedGate → ℕ → GateState
gate_state waves None t = state_of X None
gate_state waves (Some gate) t = gate_before waves gate t

-- whether it is a constant, else whether it is an input
abbrev choose : Bool → Bool → GateState → GateState → GateState → GateState
choose true input constant_is input_is gate_is = constant_is
choose false true constant_is input_is gate_is = input_is
choose false false constant_is input_is gate_is = gate_is

abbrev constant_of : List Wave → ℕ → ℕ → GateState
constant_of waves net t = state_of (before (wave_at waves net) t) None

abbrev input_of : List ℕ → List Bool → List Bool → ℕ → ℕ → GateState
input_of moments first second net t = input_state (bit_at first (net - 2)) (bit_at second (net - 2)) (get_or moments (net - 2) 0) t

abbrev output_of : Numbered → List Wave → ℕ → ℕ → GateState
output_of circuit waves net t = gate_state waves (slice_get circuit.gates (net - first_output circuit)) t

-- the state of a net before a moment: a constant keeps its level, an input has its event, and a
-- gate obeys the scheduling rule
abbrev pub net_state : Numbered → List ℕ → List Bool → List Bool → List Wave → ℕ → ℕ → GateState
net_state circuit moments first second waves net t =
    choose (nat_lt net 2) (nat_lt net (first_output circuit)) (constant_of waves net t) (input_of moments first second net t) (output_of circuit waves net t)

module _ (circuit : Numbered) (moments : List ℕ) (first second : List Bool) (waves : List Wave) where
  pub constant-state : (net t : ℕ) → net < 2 → net_state circuit moments first second waves net t ≡ state_of (before (wave_at waves net) t) None
  constant-state net t h =
      ap (λ (b : Bool). choose b (nat_lt net (first_output circuit)) (constant_of waves net t) (input_of moments first second net t) (output_of circuit waves net t)) (lt-ltb net 2 h)

  above-state : (net t : ℕ) → 2 ≤ net → net_state circuit moments first second waves net t
      ≡ choose false (nat_lt net (first_output circuit)) (constant_of waves net t) (input_of moments first second net t) (output_of circuit waves net t)
  above-state net t h =
      ap (λ (b : Bool). choose b (nat_lt net (first_output circuit)) (constant_of waves net t) (input_of moments first second net t) (output_of circuit waves net t)) (le-ltb net 2 h)

  pub input-state : (net t : ℕ) → 2 ≤ net → net < first_output circuit
      → net_state circuit moments first second waves net t ≡ input_state (bit_at first (net - 2)) (bit_at second (net - 2)) (get_or moments (net - 2) 0) t
  input-state net t low high =
      above-state net t low
      ∙ ap (λ (b : Bool). choose false b (constant_of waves net t) (input_of moments first second net t) (output_of circuit waves net t)) (lt-ltb net (first_output circuit) high)

  pub output-state : (place t : ℕ) (gate : NumberedGate) → slice_get circuit.gates place ≡ Some gate
      → net_state circuit moments first second waves (first_output circuit + place) t ≡ gate_before waves gate t
  output-state place t gate at_place =
      let net : ℕ = first_output circuit + place in
      let here : first_output circuit + place - first_output circuit ≡ place = omega arith in
      above-state net t (omega arith)
      ∙ ap (λ (b : Bool). choose false b (constant_of waves net t) (input_of moments first second net t) (output_of circuit waves net t)) (le-ltb net (first_output circuit) (omega arith))
      ∙ ap (λ (k : ℕ). gate_state waves (slice_get circuit.gates k) t) here
      ∙ ap (λ (g : Option NumberedGate). gate_state waves g t) at_place

-- a run by numbers, as the simulator needs it
pub is_run_by : (circuit : Numbered) (first second : List Bool) (numbering : IsNumbering circuit) (fit : AreMoments circuit.netlist circuit.moments)
    (f : length (map level_from first) ≡ length circuit.netlist.inputs) (s : length (map level_from second) ≡ length circuit.netlist.inputs)
    (waves outs : List Wave) (run : IsRunUpTo circuit (map level_from first) (map level_from second) (length circuit.gates) waves outs)
    → IsRunBy circuit waves (net_state circuit circuit.moments first second waves)
is_run_by circuit first second numbering fit f s waves outs run =
    let moments : List ℕ = circuit.moments in
    let count : length (nets circuit) ≡ first_output circuit + length circuit.gates = length-nets circuit numbering in
    let firsts : List Level = map level_from first in
    let seconds : List Level = map level_from second in
    let firsts_long : length (first_waves firsts seconds circuit.moments) ≡ first_output circuit = length-first_waves circuit firsts seconds numbering fit f s in
    let long : length waves ≡ first_output circuit + length circuit.gates = length-waves circuit firsts seconds numbering fit f s (length circuit.gates) waves outs run in
    let small = few_gates circuit numbering in
    let gate_level : (place : ℕ) (gate : NumberedGate) → slice_get circuit.gates place ≡ Some gate
    → (t : ℕ) → before (wave_at waves (first_output circuit + place)) t ≡ (gate_before waves gate t).level =
    λ place gate at_place t.
    (let inside = slice_get-some circuit.gates place gate at_place in
    let here : wave_at waves (first_output circuit + place) ≡ get_or outs place (constant X) =
    rw (run.begins, ← firsts_long) (get_or-back (first_waves firsts seconds circuit.moments) outs place (constant X)) in
    ap (λ (w : Wave). before w t) here ∙ (run.gates place gate inside at_place).levels t) in
    record {
      count = count;
      levels = λ net t inside. elim (cases_lt net 2) [
        | inl low ↦ sym (ap (λ (state : GateState). state.level) (constant-state circuit moments first second waves net t low))
        | inr high ↦ elim (cases_lt net (first_output circuit)) [
          | inl input ↦
              let i : ℕ = net - 2 in
              let is : net ≡ i + 2 = omega arith in
              input-level (wave_at waves net) (bit_at first i) (bit_at second i) (get_or moments i 0)
              (subst (λ (n : ℕ). before (wave_at waves n) 0 ≡ level_from (bit_at first i)) (sym is) (input-start circuit first second numbering fit f s waves outs run i (omega arith)))
              (λ u. subst (λ (n : ℕ). at (wave_at waves n) u ≡ (if nat_lt u (get_or moments i 0) then level_from (bit_at first i) else level_from (bit_at second i))) (sym is)
              (input-at circuit first second numbering fit f s waves outs run i u (omega arith))) t
              ∙ sym (ap (λ (state : GateState). state.level) (input-state circuit moments first second waves net t high input))
          | inr output ↦
              let place : ℕ = net - first_output circuit in
              let found = slice_get-within circuit.gates place (omega arith) in
              let is : net ≡ first_output circuit + place = omega arith in
              subst (λ (n : ℕ). before (wave_at waves n) t ≡ (net_state circuit moments first second waves n t).level) (sym is)
              (gate_level place found.0 found.1 t ∙ sym (ap (λ (state : GateState). state.level) (output-state circuit moments first second waves place t found.0 found.1)))
        ]
      ];
      low = λ net t h. elim (cases_lt net 2) [
        | inl low ↦
            constant-state circuit moments first second waves net (suc t) low
            ∙ ap (λ (l : Level). state_of l None) (constant-still circuit first second numbering fit f s waves outs run net t low)
            ∙ sym (ap (λ (state : GateState). updated t state.level state.scheduled) (constant-state circuit moments first second waves net t low))
        | inr high ↦
            input-state circuit moments first second waves net (suc t) high h
            ∙ input-next (bit_at first (net - 2)) (bit_at second (net - 2)) (get_or moments (net - 2) 0) t
            ∙ sym (ap (λ (state : GateState). updated t state.level state.scheduled) (input-state circuit moments first second waves net t high h))
      ];
      gates = λ place gate at_place t. output-state circuit moments first second waves place t gate at_place;
      lower = λ place gate at_place k d h.
          let inside = slice_get-some circuit.gates place gate at_place in
          let low = lower-at circuit numbering place gate at_place k d h in
          omega (arith, count);
      takes = λ place gate at_place. takes-at circuit numbering place gate at_place;
      range = λ place gate at_place. range-at circuit numbering place gate at_place;
      late = λ net t inside past. stays-past ((length circuit.gates + 1) * 1000000000) (wave_at waves net) t (run.within net (constant X) (omega arith)) (omega arith);
    }

-- ---- the last change
last-from : (n : ℕ) (level : Level) (changes : List Change) (moment : ℕ) → IsRising n level changes → last_of changes ≡ Some moment → n ≤ moment
last-from n level [] moment rising is = absurd (none-some moment is)
last-from n level (change ∷ []) moment rising is = (let same = some-same change.moment moment is in omega (arith, rising.0))
last-from n level (change ∷ next ∷ later) moment rising is =
    let after = last-from (suc change.moment) change.level (next ∷ later) moment rising.2 is in omega (arith, rising.0)

-- at the moment of its last change a wave changes
turns-last : (n : ℕ) (level : Level) (changes : List Change) (moment : ℕ) → IsRising n level changes → last_of changes ≡ Some moment
    → level_after level changes moment ≢ level_under level changes moment
turns-last n level [] moment rising is = absurd (none-some moment is)
turns-last n level (change ∷ []) moment rising is =
    let same : change.moment ≡ moment = some-same change.moment moment is in
    rw (← same) (rw (le-leb change.moment change.moment (omega arith), le-ltb change.moment change.moment (omega arith)) (λ e. rising.1 (sym e)))
turns-last n level (change ∷ next ∷ later) moment rising is =
    let after = last-from (suc change.moment) change.level (next ∷ later) moment rising.2 is in
    rw (le-leb change.moment moment (omega arith), lt-ltb change.moment moment (omega arith))
    (turns-last (suc change.moment) change.level (next ∷ later) moment rising.2 is)

-- and then it stays
past-last : (n : ℕ) (level : Level) (changes : List Change) (moment t : ℕ) → IsRising n level changes → last_of changes ≡ Some moment → moment < t
    → level_after level changes t ≡ level_under level changes t
past-last n level [] moment t rising is h = refl
past-last n level (change ∷ []) moment t rising is h =
    let same : change.moment ≡ moment = some-same change.moment moment is in
    rw (le-leb change.moment t (omega arith), lt-ltb change.moment t (omega arith)) refl
past-last n level (change ∷ next ∷ later) moment t rising is h =
    let after = last-from (suc change.moment) change.level (next ∷ later) moment rising.2 is in
    rw (le-leb change.moment t (omega arith), lt-ltb change.moment t (omega arith))
    (past-last (suc change.moment) change.level (next ∷ later) moment t rising.2 is h)

latest-some : (wave : Wave) (moment count : ℕ) → IsWave wave → last wave ≡ Some moment → latest_before wave (suc moment + count) ≡ moment
latest-some wave moment zero rising is =
    let none : suc moment + 0 ≡ suc moment = omega arith in
    rw none (rw (level_eq-other (at wave moment) (before wave moment)
    (λ same. turns-last 0 wave.start wave.changes moment rising is (same ∙ before-level_under wave moment))) refl)
latest-some wave moment (suc count) rising is =
    let next : suc moment + suc count ≡ suc (suc moment + count) = omega arith in
    rw next (latest-stays wave (suc moment + count)
    (past-last 0 wave.start wave.changes moment (suc moment + count) rising is (omega arith) ∙ sym (before-level_under wave (suc moment + count)))
    ∙ latest-some wave moment count rising is)

latest-none : (wave : Wave) (t : ℕ) → wave.changes ≡ [] → latest_before wave t ≡ 0
latest-none wave zero none = refl
latest-none wave (suc t) none =
    let now : at wave t ≡ wave.start = rw none refl in
    let under : level_under wave.start wave.changes t ≡ wave.start = rw none refl in
    latest-stays wave t (now ∙ sym (before-level_under wave t ∙ under)) ∙ latest-none wave t none

no-last : (changes : List Change) → last_of changes ≡ None → changes ≡ []
no-last [] is = refl
no-last (change ∷ []) is = absurd (none-some change.moment (sym is))
no-last (change ∷ next ∷ later) is = (let rest : next ∷ later ≡ [] = no-last (next ∷ later) is in absurd cc)

last-within : (bound : ℕ) (changes : List Change) (moment : ℕ) → AreWithin bound changes → last_of changes ≡ Some moment → moment ≤ bound
last-within bound [] moment within is = absurd (none-some moment is)
last-within bound (change ∷ []) moment within is =
    let same : change.moment ≡ moment = some-same change.moment moment is in
    let small : change.moment ≤ bound = All-head (λ (c : Change). c.moment ≤ bound) change [] within in
    omega arith
last-within bound (change ∷ next ∷ later) moment within is =
    last-within bound (next ∷ later) moment (All-tail (λ (c : Change). c.moment ≤ bound) change (next ∷ later) within) is

-- long after all changes the latest change is the last one
pub latest-last : (bound : ℕ) (wave : Wave) (t : ℕ) → IsWave wave → AreWithin bound wave.changes → bound < t
    → latest_before wave t ≡ unwrap_or (last wave) 0
latest-last bound wave t rising within h = by (last wave) refl
  where
    by : (found : Option ℕ) → last wave ≡ found → latest_before wave t ≡ unwrap_or found 0
    by None is = latest-none wave t (no-last wave.changes is)
    by (Some moment) is =
        let small = last-within bound wave.changes moment within is in
        let count : ℕ = t - suc moment in
        let split : t ≡ suc moment + count = omega arith in
        rw split (latest-some wave moment count rising is)

pub greatest-is : (latest : List ℕ) (waves : List Wave) (numbers : List ℕ) (count : ℕ) → All (λ n. n < count) numbers
    → ((net : ℕ) → net < count → get_or latest net 0 ≡ unwrap_or (last (wave_at waves net)) 0)
    → greatest_at latest numbers ≡ latest_change (waves_of waves numbers)
greatest-is latest waves [] count all each = refl
greatest-is latest waves (net ∷ others) count all each =
    ap (λ (m : ℕ). max m (greatest_at latest others)) (each net (All-head (λ n. n < count) net others all))
    ∙ ap (λ (m : ℕ). max (unwrap_or (last (wave_at waves net)) 0) m) (greatest-is latest waves others count (All-tail (λ n. n < count) net others all) each)

-- where no net has an event any more, the latest changes are the last ones
pub at-end : (circuit : Numbered) (first second : List Bool) (numbering : IsNumbering circuit) (fit : AreMoments circuit.netlist circuit.moments)
    (f : length (map level_from first) ≡ length circuit.netlist.inputs) (s : length (map level_from second) ≡ length circuit.netlist.inputs)
    (waves outs : List Wave) (run : IsRunUpTo circuit (map level_from first) (map level_from second) (length circuit.gates) waves outs)
    → (states : ℕ → ℕ → GateState) → IsRunBy circuit waves states
    → (t : ℕ) (levels : List Bool) (whens latest : List ℕ) → ((net : ℕ) → net < length whens → 2 ^ 64 - 1 ≤ get_or whens net 0)
    → IsStateBefore circuit waves states t levels whens latest
    → (net : ℕ) → net < length (nets circuit) → get_or latest net 0 ≡ unwrap_or (last (wave_at waves net)) 0
at-end circuit first second numbering fit f s waves outs run states by t levels whens latest none state net inside =
    let long : length waves ≡ first_output circuit + length circuit.gates =
    length-waves circuit (map level_from first) (map level_from second) numbering fit f s (length circuit.gates) waves outs run in
    let small = few_gates circuit numbering in
    let end : IsStateBefore circuit waves states (t + 2 ^ 63) levels whens latest =
    quiet-moments circuit waves states by t (2 ^ 63) levels whens latest (λ n within waits. absurd (let past = none n within in omega arith)) state in
    end.latest_are net inside
    ∙ latest-last ((length circuit.gates + 1) * 1000000000) (wave_at waves net) (t + 2 ^ 63) (run.rising net (constant X) (omega (arith, by.count)))
    (run.within net (constant X) (omega (arith, by.count))) (omega arith)
