-- One moment of the simulator is one moment of each net of the run.
use Rattle.std.proofs.Common.{◌≡◌, ◌≢◌, ℕ, zero, suc, ◌+◌, ◌-◌, ◌<◌, ◌≤◌, Bool, true, false, List, [], ◌∷◌, length, map, get_or, refl, arith, ◌⊎◌, inl, inr, sym, ap, subst, ◌∙◌, Option, Some, None}
use Rattle.std.specs.Prelude.{slice_get, not, ◌^◌}
use Rattle.std.specs.List.{All, Contains}
use Rattle.std.proofs.lemmas.Bool.{cases_lt, cases_Bool}
use Rattle.std.proofs.lemmas.List.Elements.{All-contains}
use Rattle.td_gates.specs.declared.primitives.Level.{Level}
use Rattle.td_gates.specs.declared.primitives.Level.TheVariants.{X}
use Rattle.td_gates.specs.declared.timing.Delay.{Delay}
use Rattle.td_gates.specs.declared.timing.Change.{Change}
use Rattle.td_gates.specs.Table.{table, level_eq, level_from, TakesInputs}
use Rattle.td_gates.specs.Wave.{Wave, at, before}
use Rattle.td_gates.specs.Schedule.{GateState, updated, evaluated, step, target_at, target_before}
use Rattle.td_gates.proofs.Levels.{level_eq-same, level_eq-other}
use Rattle.td_gates.proofs.Places.{slice_get-some, slice_get-within, none-some, some-same}
use Rattle.td_circuit.specs.Numbering.{NumberedGate, Numbered, nets, first_output}
use Rattle.td_run.specs.Waves.{waves_of}
use Rattle.td_run.specs.Settled.{levels_of}
use Rattle.td_event_sim.specs.Bits.{bit_at, target_of}
use Rattle.td_event_sim.specs.Moment.{event_of, when_after, gate_of_net, evaluation, AreEvaluated, AreUpdated, WasDue, IsSame}
use Rattle.td_event_sim.specs.State.{wave_at, gate_before, IsRunBy, latest_before, IsStateBefore}
use Rattle.td_event_sim.proofs.Tables.{level-at, target-is}
use Rattle.td_event_sim.proofs.Evaluations.{gate-above, gate-below}
use Rattle.td_event_sim.proofs.Steps.{state_of, event_after, IsSteady, IsSteadyAs, history-steady, step-same, updated-later, updated-steady, due-bits, kept-bits, after-bits, steady-bits, some-event, no-event, other-level}

-- the state of a gate at a moment before it is evaluated
abbrev pub gate_updated : List Wave → NumberedGate → ℕ → GateState
gate_updated waves gate t = updated t (gate_before waves gate t).level (gate_before waves gate t).scheduled

abbrev pub target_now : List Wave → NumberedGate → ℕ → Level
target_now waves gate t = target_at gate.kind (waves_of waves gate.inputs) t

pub gate-step : (waves : List Wave) (gate : NumberedGate) (t : ℕ)
    → gate_before waves gate (suc t) ≡ step gate.delay t (target_now waves gate t) (gate_before waves gate t)
gate-step waves gate t = refl

-- an evaluation leaves the output level
evaluated-level : (d : Delay) (t : ℕ) (target : Level) (state : GateState) → (evaluated d t target state).level ≡ state.level
evaluated-level d t target state = elim (cases_Bool (level_eq target state.level)) [
  | inl same ↦ rw (same, evaluated) refl
  | inr apart ↦ rw (apart, evaluated) refl
]

-- the output level at a moment is the one after the due event
pub gate-level : (waves : List Wave) (gate : NumberedGate) (t : ℕ) → (gate_before waves gate (suc t)).level ≡ (gate_updated waves gate t).level
gate-level waves gate t =
    ap (λ (s : GateState). s.level) (gate-step waves gate t)
    ∙ evaluated-level gate.delay t (target_now waves gate t) (gate_updated waves gate t)

-- the levels of nets by their numbers, where each is what its wave shows
levels-shown : (show : Wave → Level) (waves : List Wave) (levels : List Level) (numbers : List ℕ)
    → ((net : ℕ) → Contains numbers net → get_or levels net X ≡ show (wave_at waves net))
    → levels_of levels numbers ≡ map show (waves_of waves numbers)
levels-shown show waves levels [] each = refl
levels-shown show waves levels (net ∷ numbers) each =
    ap (λ (l : Level). l ∷ levels_of levels numbers) (each net (0, omega arith, refl))
    ∙ ap (λ (ls : List Level). show (wave_at waves net) ∷ ls)
    (levels-shown show waves levels numbers (λ other found. each other (suc found.0, omega (arith, found.1), found.2)))

-- the target by bits that are the levels which the waves show
target-shown : (show : Wave → Level) (waves : List Wave) (gate : NumberedGate) (levels : List Bool) → TakesInputs gate.kind (length gate.inputs)
    → All (λ net. net < length levels) gate.inputs → ((net : ℕ) → net < length levels → level_from (bit_at levels net) ≡ show (wave_at waves net))
    → level_from (target_of gate.kind levels gate.inputs) ≡ table gate.kind (map show (waves_of waves gate.inputs))
target-shown show waves gate levels takes lower each =
    sym (target-is gate.kind levels gate.inputs takes lower)
    ∙ ap (table gate.kind) (levels-shown show waves (map level_from levels) gate.inputs
    (λ net found. let inside : net < length levels = All-contains (λ k. k < length levels) gate.inputs net lower found in
    level-at levels net inside ∙ each net inside))

-- where no input changes, the target stays
same-levels : (waves : List Wave) (t : ℕ) (numbers : List ℕ) → ((net : ℕ) → Contains numbers net → at (wave_at waves net) t ≡ before (wave_at waves net) t)
    → map (λ (wave : Wave). at wave t) (waves_of waves numbers) ≡ map (λ (wave : Wave). before wave t) (waves_of waves numbers)
same-levels waves t [] each = refl
same-levels waves t (net ∷ numbers) each =
    ap (λ (l : Level). l ∷ map (λ (wave : Wave). at wave t) (waves_of waves numbers)) (each net (0, omega arith, refl))
    ∙ ap (λ (ls : List Level). before (wave_at waves net) t ∷ ls)
    (same-levels waves t numbers (λ other found. each other (suc found.0, omega (arith, found.1), found.2)))

-- the target of a gate stays at a moment
abbrev TargetStays : List Wave → NumberedGate → ℕ → Type 0
TargetStays waves gate t = target_now waves gate t ≡ target_before gate.kind (waves_of waves gate.inputs) t

no-input-changes : (waves : List Wave) (gate : NumberedGate) (t : ℕ) → ((net : ℕ) → Contains gate.inputs net → at (wave_at waves net) t ≡ before (wave_at waves net) t)
    → TargetStays waves gate t
no-input-changes waves gate t each = ap (table gate.kind) (same-levels waves t gate.inputs each)

quiet-steady : (waves : List Wave) (gate : NumberedGate) (t : ℕ) → TargetStays waves gate t → IsSteady (target_now waves gate t) (gate_before waves gate t)
quiet-steady waves gate t stays = rw stays (history-steady gate.kind gate.delay (waves_of waves gate.inputs) t)

-- where the target of a gate stays, its state is that after the due event
quiet-gate : (waves : List Wave) (gate : NumberedGate) (t : ℕ) → TargetStays waves gate t → gate_before waves gate (suc t) ≡ gate_updated waves gate t
quiet-gate waves gate t stays =
    gate-step waves gate t
    ∙ step-same gate.delay t (target_now waves gate t) (gate_before waves gate t).level (gate_before waves gate t).scheduled (quiet-steady waves gate t stays)

-- the state of a net at a moment before its gate is evaluated
abbrev pub net_updated : (ℕ → ℕ → GateState) → ℕ → ℕ → GateState
net_updated states net t = updated t (states net t).level (states net t).scheduled

pub latest-stays : (wave : Wave) (t : ℕ) → at wave t ≡ before wave t → latest_before wave (suc t) ≡ latest_before wave t
latest-stays wave t same = (let e : level_eq (at wave t) (before wave t) ≡ true = rw same (level_eq-same (before wave t)) in rw e refl)

latest-moves : (wave : Wave) (t : ℕ) → at wave t ≢ before wave t → latest_before wave (suc t) ≡ t
latest-moves wave t apart = rw (level_eq-other (at wave t) (before wave t) apart) refl

-- two bits that aren't different are the same
not-apart : (this that : Bool) → (this ≢ that → ⊥) → this ≡ that
not-apart true true same = refl
not-apart true false same = absurd (same (λ e. cc))
not-apart false true same = absurd (same (λ e. cc))
not-apart false false same = refl

-- the levels before a moment and at it, and the events after those that are due took place
pub record IsMiddle (circuit : Numbered) (waves : List Wave) (states : ℕ → ℕ → GateState) (t : ℕ) (former levels : List Bool) (whens : List ℕ) : Type 0 where
  pub same_former : length former ≡ length (nets circuit)
  pub same_levels : length levels ≡ length (nets circuit)
  pub same_whens : length whens ≡ length (nets circuit)
  pub levels_are : (net : ℕ) → net < length (nets circuit) → level_from (bit_at levels net) ≡ at (wave_at waves net) t
  pub events_are : (net : ℕ) → net < length (nets circuit) → event_of (bit_at levels net) (get_or whens net 0) ≡ (net_updated states net t).scheduled
  pub former_are : (net : ℕ) → net < length (nets circuit) → level_from (bit_at former net) ≡ before (wave_at waves net) t

-- what became of one net at a moment
record IsNetDone (waves : List Wave) (states : ℕ → ℕ → GateState) (t net : ℕ) (new_level : Bool) (new_when latest new_latest : ℕ) : Type 0 where
  level_is : level_from new_level ≡ (net_updated states net t).level
  event_is : event_of new_level new_when ≡ (net_updated states net t).scheduled
  latest_is : latest ≡ latest_before (wave_at waves net) t → new_latest ≡ latest_before (wave_at waves net) (suc t)

module _ (circuit : Numbered) (waves : List Wave) (states : ℕ → ℕ → GateState) (run : IsRunBy circuit waves states) where
  -- each net is a constant, an input or the output of a gate
  pub net-cases : (net : ℕ) → net < length (nets circuit)
      → (net < first_output circuit) ⊎ ((place : ℕ) × (gate : NumberedGate) × (slice_get circuit.gates place ≡ Some gate) × (net ≡ first_output circuit + place))
  net-cases net h = elim (cases_lt net (first_output circuit)) [
    | inl low ↦ inl low
    | inr high ↦
        let place : ℕ = net - first_output circuit in
        let found = slice_get-within circuit.gates place (omega (arith, run.count)) in
        inr (place, found.0, found.1, omega arith)
  ]

  gate-turns : (place : ℕ) (gate : NumberedGate) (t : ℕ) → slice_get circuit.gates place ≡ Some gate
      → (states (first_output circuit + place) (suc t)).level ≡ (net_updated states (first_output circuit + place) t).level
  gate-turns place gate t at_place =
      ap (λ (s : GateState). s.level) (run.gates place gate at_place (suc t)) ∙ gate-level waves gate t
      ∙ ap (λ (s : GateState). (updated t s.level s.scheduled).level) (sym (run.gates place gate at_place t))

  -- the level of a net at a moment is the one after its due event
  pub net-level : (net t : ℕ) → net < length (nets circuit) → at (wave_at waves net) t ≡ (net_updated states net t).level
  net-level net t h = run.levels net (suc t) h ∙ elim (net-cases net h) [
    | inl low ↦ ap (λ (s : GateState). s.level) (run.low net t low)
    | inr found ↦ subst (λ (n : ℕ). (states n (suc t)).level ≡ (net_updated states n t).level) (sym found.3) (gate-turns found.0 found.1 t found.2)
  ]

  -- after the evaluations the event of a gate is the one before the next moment
  next-gate : (t : ℕ) (former levels : List Bool) (whens new_whens : List ℕ) → IsMiddle circuit waves states t former levels whens
      → AreEvaluated circuit.gates (first_output circuit) t former levels whens new_whens
      → (place : ℕ) (gate : NumberedGate) → slice_get circuit.gates place ≡ Some gate
      → event_of (bit_at levels (first_output circuit + place)) (get_or new_whens (first_output circuit + place) 0) ≡ (gate_before waves gate (suc t)).scheduled
  next-gate t former levels whens new_whens middle evaluated_all place gate at_place =
      let net : ℕ = first_output circuit + place in
      let level : Bool = bit_at levels net in
      let when : ℕ = get_or whens net 0 in
      let below_nets : net < length (nets circuit) = omega (arith, slice_get-some circuit.gates place gate at_place, run.count) in
      let inside : net < length whens = omega (arith, middle.same_whens) in
      let lower : All (λ n. n < length (nets circuit)) gate.inputs = run.lower place gate at_place in
      let bit : Bool = target_of gate.kind levels gate.inputs in
      let target : level_from bit ≡ target_now waves gate t =
      target-shown (λ (wave : Wave). at wave t) waves gate levels (run.takes place gate at_place) (rw middle.same_levels lower)
      (λ n h. middle.levels_are n (omega (arith, middle.same_levels))) in
      let target_was : level_from (target_of gate.kind former gate.inputs) ≡ target_before gate.kind (waves_of waves gate.inputs) t =
      target-shown (λ (wave : Wave). before wave t) waves gate former (run.takes place gate at_place) (rw middle.same_former lower)
      (λ n h. middle.former_are n (omega (arith, middle.same_former))) in
      let gate_is : states net t ≡ gate_before waves gate t = run.gates place gate at_place t in
      let level_is : level_from level ≡ (gate_updated waves gate t).level =
      middle.levels_are net below_nets ∙ net-level net t below_nets ∙ ap (λ (s : GateState). (updated t s.level s.scheduled).level) gate_is in
      let event_is : event_of level when ≡ (gate_updated waves gate t).scheduled =
      middle.events_are net below_nets ∙ ap (λ (s : GateState). (updated t s.level s.scheduled).scheduled) gate_is in
      let after : (gate_before waves gate (suc t)).scheduled
      ≡ event_after gate.delay t (target_now waves gate t) (gate_updated waves gate t).level (gate_updated waves gate t).scheduled =
      ap (λ (s : GateState). s.scheduled) (gate-step waves gate t) in
      let late : 2 ^ 63 ≤ t → TargetStays waves gate t =
      λ past. no-input-changes waves gate t (λ n found. run.late n t (All-contains (λ k. k < length (nets circuit)) gate.inputs n lower found) past) in
      let here : first_output circuit + place - first_output circuit ≡ place = omega arith in
      let gate_found : gate_of_net circuit.gates (first_output circuit) net ≡ Some gate =
      gate-above circuit.gates (first_output circuit) net (omega arith) ∙ ap (λ (k : ℕ). slice_get circuit.gates k) here ∙ at_place in
      elim (evaluated_all.each_net net inside) [
        | inl done ↦
            let opened : get_or new_whens net 0 ≡ when_after gate.delay t bit level when =
            done ∙ ap (λ (g : Option NumberedGate). evaluation t levels g level when) gate_found in
            ap (event_of level) opened ∙ elim (cases_lt t (2 ^ 63)) [
              | inl early ↦
                  sym (after-bits gate.delay t bit level when (run.range place gate at_place) (omega arith))
                  ∙ ap (λ (v : Level). event_after gate.delay t v (level_from level) (event_of level when)) target
                  ∙ ap (λ (v : Level). event_after gate.delay t (target_now waves gate t) v (event_of level when)) level_is
                  ∙ ap (λ (v : Option Change). event_after gate.delay t (target_now waves gate t) (gate_updated waves gate t).level v) event_is
                  ∙ sym after
              | inr past ↦
                  let steady : IsSteadyAs (target_now waves gate t) (gate_updated waves gate t).level (gate_updated waves gate t).scheduled =
                  updated-steady t (target_now waves gate t) (gate_before waves gate t).level (gate_before waves gate t).scheduled (quiet-steady waves gate t (late past)) in
                  let by_bits : IsSteadyAs (level_from bit) (level_from level) (event_of level when) = rw (target, level_is, event_is) steady in
                  steady-bits gate.delay t bit level when by_bits ∙ event_is ∙ sym (ap (λ (s : GateState). s.scheduled) (quiet-gate waves gate t (late past)))
            ]
        | inr old ↦
            let same : target_of gate.kind former gate.inputs ≡ bit = not-apart (target_of gate.kind former gate.inputs) bit (λ apart. old.1 (gate, gate_found, apart)) in
            let stays : gate_before waves gate (suc t) ≡ gate_updated waves gate t =
            quiet-gate waves gate t (sym target ∙ ap level_from (sym same) ∙ target_was) in
            ap (event_of level) old.0 ∙ event_is ∙ sym (ap (λ (s : GateState). s.scheduled) stays)
      ]

  -- a constant and an input aren't evaluated
  low-when : (t : ℕ) (former levels : List Bool) (whens new_whens : List ℕ)
      → AreEvaluated circuit.gates (first_output circuit) t former levels whens new_whens
      → (net : ℕ) → net < first_output circuit → net < length whens → get_or new_whens net 0 ≡ get_or whens net 0
  low-when t former levels whens new_whens evaluated_all net low inside = elim (evaluated_all.each_net net inside) [
    | inl done ↦ done ∙ ap (λ (g : Option NumberedGate). evaluation t levels g (bit_at levels net) (get_or whens net 0)) (gate-below circuit.gates (first_output circuit) net low)
    | inr old ↦ old.0
  ]

  -- after the evaluations the events are those before the next moment
  next-events : (t : ℕ) (former levels : List Bool) (whens new_whens : List ℕ) → IsMiddle circuit waves states t former levels whens
      → AreEvaluated circuit.gates (first_output circuit) t former levels whens new_whens
      → (net : ℕ) → net < length (nets circuit) → event_of (bit_at levels net) (get_or new_whens net 0) ≡ (states net (suc t)).scheduled
  next-events t former levels whens new_whens middle evaluated_all net h = elim (net-cases net h) [
    | inl low ↦
        ap (event_of (bit_at levels net)) (low-when t former levels whens new_whens evaluated_all net low (omega (arith, middle.same_whens)))
        ∙ middle.events_are net h ∙ ap (λ (s : GateState). s.scheduled) (sym (run.low net t low))
    | inr found ↦ subst (λ (n : ℕ). event_of (bit_at levels n) (get_or new_whens n 0) ≡ (states n (suc t)).scheduled) (sym found.3)
        (next-gate t former levels whens new_whens middle evaluated_all found.0 found.1 found.2
        ∙ ap (λ (s : GateState). s.scheduled) (sym (run.gates found.0 found.1 found.2 (suc t))))
  ]

  -- where no event is due, a moment changes nothing
  module _ (t : ℕ) (levels : List Bool) (whens latest : List ℕ)
      (later : (net : ℕ) → net < length whens → get_or whens net 0 < 2 ^ 64 - 1 → t < get_or whens net 0)
      (state : IsStateBefore circuit waves states t levels whens latest) where
    not-due : (net : ℕ) → net < length (nets circuit) → (change : Change) → (states net t).scheduled ≡ Some change → change.moment ≢ t
    not-due net inside change is due =
        let level : Bool = bit_at levels net in
        let when : ℕ = get_or whens net 0 in
        let event : event_of level when ≡ Some change = state.events_are net inside ∙ is in
        elim (cases_lt when (2 ^ 64 - 1)) [
          | inl waits ↦
              let same : when ≡ change.moment = ap (λ (c : Change). c.moment) (some-same _ change (sym (some-event level when waits) ∙ event)) in
              let after : t < when = later net (omega (arith, state.same_whens)) waits in
              absurd (omega arith)
          | inr none ↦ absurd (none-some change (sym (no-event level when none) ∙ event))
        ]

    stays : (net : ℕ) → net < length (nets circuit) → net_updated states net t ≡ state_of (states net t).level (states net t).scheduled
    stays net inside = updated-later t (states net t).level (states net t).scheduled (not-due net inside)

    same-level : (net : ℕ) → net < length (nets circuit) → at (wave_at waves net) t ≡ before (wave_at waves net) t
    same-level net inside = net-level net t inside ∙ ap (λ (s : GateState). s.level) (stays net inside) ∙ sym (run.levels net t inside)

    quiet-output : (place : ℕ) (gate : NumberedGate) → slice_get circuit.gates place ≡ Some gate
        → (states (first_output circuit + place) (suc t)).scheduled ≡ (states (first_output circuit + place) t).scheduled
    quiet-output place gate at_place =
        let inside : first_output circuit + place < length (nets circuit) = omega (arith, slice_get-some circuit.gates place gate at_place, run.count) in
        ap (λ (s : GateState). s.scheduled) (run.gates place gate at_place (suc t)
        ∙ quiet-gate waves gate t (no-input-changes waves gate t
        (λ n found. same-level n (All-contains (λ k. k < length (nets circuit)) gate.inputs n (run.lower place gate at_place) found))))
        ∙ ap (λ (s : GateState). (updated t s.level s.scheduled).scheduled) (sym (run.gates place gate at_place t))
        ∙ ap (λ (s : GateState). s.scheduled) (stays (first_output circuit + place) inside)

    same-event : (net : ℕ) → net < length (nets circuit) → (states net (suc t)).scheduled ≡ (states net t).scheduled
    same-event net inside = elim (net-cases net inside) [
      | inl low ↦ ap (λ (s : GateState). s.scheduled) (run.low net t low ∙ stays net inside)
      | inr found ↦ subst (λ (n : ℕ). (states n (suc t)).scheduled ≡ (states n t).scheduled) (sym found.3) (quiet-output found.0 found.1 found.2)
    ]

    pub quiet-moment : IsStateBefore circuit waves states (suc t) levels whens latest
    quiet-moment = record {
      same_levels = state.same_levels;
      same_whens = state.same_whens;
      same_latest = state.same_latest;
      levels_are = λ net inside. state.levels_are net inside ∙ sym (same-level net inside);
      events_are = λ net inside. state.events_are net inside ∙ sym (same-event net inside);
      latest_are = λ net inside. state.latest_are net inside ∙ sym (latest-stays (wave_at waves net) t (same-level net inside));
    }

  -- and so none of many
  pub quiet-moments : (t count : ℕ) (levels : List Bool) (whens latest : List ℕ)
      → ((net : ℕ) → net < length whens → get_or whens net 0 < 2 ^ 64 - 1 → t + count ≤ get_or whens net 0)
      → IsStateBefore circuit waves states t levels whens latest → IsStateBefore circuit waves states (t + count) levels whens latest
  quiet-moments t zero levels whens latest later state = (let none : t + 0 ≡ t = omega arith in rw none state)
  quiet-moments t (suc count) levels whens latest later state =
      let next : t + suc count ≡ suc (t + count) = omega arith in
      rw next (quiet-moment (t + count) levels whens latest
      (λ net inside waits. (let after = later net inside waits in omega arith))
      (quiet-moments t count levels whens latest (λ net inside waits. (let after = later net inside waits in omega arith)) state))

  net-done : (t net : ℕ) (level new_level : Bool) (when new_when latest new_latest : ℕ) → net < length (nets circuit) → t < 2 ^ 64 - 1
      → level_from level ≡ (states net t).level → event_of level when ≡ (states net t).scheduled
      → WasDue t level new_level when new_when latest new_latest ⊎ ((when ≢ t) × IsSame level new_level when new_when latest new_latest)
      → IsNetDone waves states t net new_level new_when latest new_latest
  net-done t net level new_level when new_when latest new_latest inside early level_was event_was (inl now) =
      let wave : Wave = wave_at waves net in
      let state : net_updated states net t ≡ state_of (level_from (not level)) None =
      ap (λ (l : Level). updated t l (states net t).scheduled) (sym level_was)
      ∙ ap (λ (e : Option Change). updated t (level_from level) e) (sym event_was ∙ ap (event_of level) now.due)
      ∙ due-bits t level early in
      let at_is : at wave t ≡ level_from (not level) = net-level net t inside ∙ ap (λ (s : GateState). s.level) state in
      let before_is : before wave t ≡ level_from level = run.levels net t inside ∙ sym level_was in
      record {
        level_is = ap level_from now.level_is ∙ sym (ap (λ (s : GateState). s.level) state);
        event_is = ap (event_of new_level) now.when_is ∙ no-event new_level (2 ^ 64 - 1) (omega arith) ∙ sym (ap (λ (s : GateState). s.scheduled) state);
        latest_is = λ was. now.latest_is ∙ sym (latest-moves wave t (λ same. other-level level (sym at_is ∙ same ∙ before_is)));
      }
  net-done t net level new_level when new_when latest new_latest inside early level_was event_was (inr other) =
      let wave : Wave = wave_at waves net in
      let state : net_updated states net t ≡ state_of (level_from level) (event_of level when) =
      ap (λ (l : Level). updated t l (states net t).scheduled) (sym level_was)
      ∙ ap (λ (e : Option Change). updated t (level_from level) e) (sym event_was)
      ∙ kept-bits t when level other.0 in
      let same : at wave t ≡ before wave t =
      net-level net t inside ∙ ap (λ (s : GateState). s.level) state ∙ level_was ∙ sym (run.levels net t inside) in
      record {
        level_is = ap level_from other.1.level_is ∙ sym (ap (λ (s : GateState). s.level) state);
        event_is = ap (λ (l : Bool). event_of l new_when) other.1.level_is ∙ ap (event_of level) other.1.when_is ∙ sym (ap (λ (s : GateState). s.scheduled) state);
        latest_is = λ was. other.1.latest_is ∙ was ∙ sym (latest-stays wave t same);
      }

  -- a moment of the simulator is a moment of the run
  pub moment-done : (t : ℕ) (levels new_levels : List Bool) (whens middle new_whens latest new_latest : List ℕ) → t < 2 ^ 64 - 1
      → AreUpdated t levels new_levels whens middle latest new_latest
      → AreEvaluated circuit.gates (first_output circuit) t levels new_levels middle new_whens
      → IsStateBefore circuit waves states t levels whens latest → IsStateBefore circuit waves states (suc t) new_levels new_whens new_latest
  moment-done t levels new_levels whens middle new_whens latest new_latest early update evaluation_is state =
      let done : (net : ℕ) → net < length (nets circuit) → IsNetDone waves states t net (bit_at new_levels net) (get_or middle net 0) (get_or latest net 0) (get_or new_latest net 0) =
      λ net inside. net-done t net (bit_at levels net) (bit_at new_levels net) (get_or whens net 0) (get_or middle net 0) (get_or latest net 0) (get_or new_latest net 0)
      inside early (state.levels_are net inside ∙ run.levels net t inside) (state.events_are net inside) (update.each_net net (omega (arith, state.same_whens))) in
      let levels_are : (net : ℕ) → net < length (nets circuit) → level_from (bit_at new_levels net) ≡ at (wave_at waves net) t =
      λ net inside. (done net inside).level_is ∙ sym (net-level net t inside) in
      let is_middle : IsMiddle circuit waves states t levels new_levels middle = record {
        same_former = state.same_levels;
        same_levels = update.same_levels ∙ state.same_levels;
        same_whens = update.same_whens ∙ state.same_whens;
        levels_are = levels_are;
        events_are = λ net inside. (done net inside).event_is;
        former_are = state.levels_are;
      } in
      record {
        same_levels = update.same_levels ∙ state.same_levels;
        same_whens = evaluation_is.same_whens ∙ update.same_whens ∙ state.same_whens;
        same_latest = update.same_latest ∙ state.same_latest;
        levels_are = levels_are;
        events_are = next-events t levels new_levels middle new_whens is_middle evaluation_is;
        latest_are = λ net inside. (done net inside).latest_is (state.latest_are net inside);
      }
