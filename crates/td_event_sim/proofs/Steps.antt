-- Lemmas on one moment of one gate.
use Rattle.std.proofs.Common.{◌≡◌, ◌≢◌, ℕ, zero, suc, ◌+◌, ◌-◌, ◌^◌, ◌<◌, ◌≤◌, min, Bool, true, false, refl, arith, ◌⊎◌, inl, inr, sym, ap, subst, ◌∙◌, Option, Some, None, List, length, get_or, set, get_or-set_same, get_or-set_other}
use Rattle.std.specs.Prelude.{not, nat_lt, if◌then◌else◌}
use Rattle.std.proofs.lemmas.Bool.{cases_eq, cases_lt, eq-eqb, ne_eqb, lt-ltb, le-ltb}
use Rattle.td_gates.specs.declared.primitives.Level.{Level}
use Rattle.td_gates.specs.declared.primitives.Kind.{Kind}
use Rattle.td_gates.specs.declared.timing.Delay.{Delay}
use Rattle.td_gates.specs.declared.timing.Change.{Change}
use Rattle.td_gates.specs.Delays.{IsInRange}
use Rattle.td_gates.specs.Table.{level_from, delay_to}
use Rattle.td_gates.specs.Wave.{Wave}
use Rattle.td_gates.specs.Schedule.{GateState, updated, evaluated, step, target_at, target_before, state_before}
use Rattle.td_gates.proofs.Levels.{level_eq-same, level_eq-other, cases_level}
use Rattle.td_gates.proofs.Places.{none-some, some-same}
use Rattle.td_event_sim.specs.Moment.{event_of, when_after, AreEvaluatedBy}

abbrev pub state_of : Level → Option Change → GateState
state_of level event = record { level = level; scheduled = event }

-- the scheduled event after an evaluation
abbrev pub event_after : Delay → ℕ → Level → Level → Option Change → Option Change
event_after delay t target level event = (evaluated delay t target (record { level = level; scheduled = event })).scheduled

-- an evaluation of this target changes nothing: the output has it, or an event to it is scheduled
abbrev pub IsSteadyAs : Level → Level → Option Change → Type 0
IsSteadyAs target level None = level ≡ target
IsSteadyAs target level (Some event) = (event.level ≡ target) × (level ≢ target)

abbrev pub IsSteady : Level → GateState → Type 0
IsSteady target state = IsSteadyAs target state.level state.scheduled

-- an evaluation of a steady state leaves it
pub steady-stays : (d : Delay) (t : ℕ) (target level : Level) (event : Option Change) → IsSteadyAs target level event
    → evaluated d t target (state_of level event) ≡ state_of level event
steady-stays d t target level None steady = rw (steady, level_eq-same target)
steady-stays d t target level (Some event) steady =
    let apart : target ≢ level = λ e. steady.1 (sym e) in
    rw (level_eq-other target level apart, steady.0, level_eq-same target)

-- an evaluation makes a state steady, where an event that is scheduled isn't to the output's own
-- level
pub evaluated-steady : (d : Delay) (t : ℕ) (target level : Level) (event : Option Change)
    → ((change : Change) → event ≡ Some change → change.level ≢ level) → IsSteady target (evaluated d t target (state_of level event))
evaluated-steady d t target level None apart = elim (cases_level target level) [
  | inl same ↦ rw (same, level_eq-same level) refl
  | inr other ↦ rw (level_eq-other target level other) (refl, λ e. other (sym e))
]
evaluated-steady d t target level (Some event) apart = elim (cases_level event.level target) [
  | inl to ↦
      let other : target ≢ level = λ e. apart event refl (to ∙ e) in
      rw (level_eq-other target level other, to, level_eq-same target) (refl, λ e. other (sym e))
  | inr away ↦ rw (level_eq-other event.level target away) (elim (cases_level target level) [
    | inl same ↦ rw (same, level_eq-same level) refl
    | inr other ↦ rw (level_eq-other target level other) (refl, λ e. other (sym e))
  ])
]

-- an event that isn't due stays
pub updated-later : (t : ℕ) (level : Level) (event : Option Change) → ((change : Change) → event ≡ Some change → change.moment ≢ t)
    → updated t level event ≡ state_of level event
updated-later t level None apart = refl
updated-later t level (Some event) apart = rw (ne_eqb event.moment t (apart event refl))

-- after the due event a steady state is steady
pub updated-steady : (t : ℕ) (target level : Level) (event : Option Change) → IsSteadyAs target level event
    → IsSteady target (updated t level event)
updated-steady t target level None steady = steady
updated-steady t target level (Some event) steady = elim (cases_eq event.moment t) [
  | inl now ↦ rw (eq-eqb event.moment t now) steady.0
  | inr later ↦ rw (ne_eqb event.moment t later) steady
]

steady-apart : (target level : Level) (event : Option Change) → IsSteadyAs target level event → (change : Change) → event ≡ Some change → change.level ≢ level
steady-apart target level None steady change is = absurd (none-some change is)
steady-apart target level (Some event) steady change is = λ e. steady.1 (sym e ∙ sym (ap (λ (o : Change). o.level) (some-same event change is)) ∙ steady.0)

-- where the target stays, a moment is the due event alone
pub step-same : (d : Delay) (t : ℕ) (target level : Level) (event : Option Change) → IsSteadyAs target level event
    → step d t target (state_of level event) ≡ updated t level event
step-same d t target level event steady =
    steady-stays d t target (updated t level event).level (updated t level event).scheduled (updated-steady t target level event steady)

-- each moment leaves a steady state
pub step-steady : (d : Delay) (t : ℕ) (target old level : Level) (event : Option Change) → IsSteadyAs old level event
    → IsSteady target (step d t target (state_of level event))
step-steady d t target old level event steady =
    let after : IsSteady old (updated t level event) = updated-steady t old level event steady in
    evaluated-steady d t target (updated t level event).level (updated t level event).scheduled
    (steady-apart old (updated t level event).level (updated t level event).scheduled after)

-- the states of a gate are steady
pub history-steady : (kind : Kind) (d : Delay) (ins : List Wave) (t : ℕ) → IsSteady (target_before kind ins t) (state_before kind d ins t)
history-steady kind d ins zero = refl
history-steady kind d ins (suc t) =
    step-steady d t (target_at kind ins t) (target_before kind ins t) (state_before kind d ins t).level (state_before kind d ins t).scheduled
    (history-steady kind d ins t)

-- ---- by bits
pub some-event : (level : Bool) (when : ℕ) → when < 2 ^ 64 - 1 → event_of level when ≡ Some (record { moment = when; level = level_from (not level) })
some-event level when early = rw (lt-ltb when (2 ^ 64 - 1) early) refl

pub no-event : (level : Bool) (when : ℕ) → 2 ^ 64 - 1 ≤ when → event_of level when ≡ None
no-event level when late = rw (le-ltb when (2 ^ 64 - 1) late) refl

pub due-bits : (t : ℕ) (level : Bool) → t < 2 ^ 64 - 1 → updated t (level_from level) (event_of level t) ≡ state_of (level_from (not level)) None
due-bits t level early = rw (lt-ltb t (2 ^ 64 - 1) early, eq-eqb t t refl) refl

pub kept-bits : (t when : ℕ) (level : Bool) → when ≢ t → updated t (level_from level) (event_of level when) ≡ state_of (level_from level) (event_of level when)
kept-bits t when level apart = updated-later t (level_from level) (event_of level when) (λ change is. elim (cases_lt when (2 ^ 64 - 1)) [
  | inl early ↦ (let same : when ≡ change.moment = ap (λ (c : Change). c.moment) (some-same _ change (sym (some-event level when early) ∙ is)) in
      λ e. apart (same ∙ e))
  | inr late ↦ absurd (none-some change (sym (no-event level when late) ∙ is))
])

pub other-level : (bit : Bool) → level_from (not bit) ≢ level_from bit
other-level true = λ e. cc
other-level false = λ e. cc

delay-small : (d : Delay) (level : Bool) → IsInRange d → delay_to d (level_from level) ≤ 1000000000
delay-small d true range = range.greatest_rise
delay-small d false range = range.greatest_fall

same-some : (d : Delay) (t : ℕ) (bit : Bool) (when : ℕ)
    → event_after d t (level_from bit) (level_from bit) (Some (record { moment = when; level = level_from (not bit) })) ≡ None
same-some d t true when = refl
same-some d t false when = refl

same-none : (d : Delay) (t : ℕ) (bit : Bool) → event_after d t (level_from bit) (level_from bit) None ≡ None
same-none d t true = refl
same-none d t false = refl

turned-some : (d : Delay) (t : ℕ) (bit : Bool) (when : ℕ)
    → event_after d t (level_from (not bit)) (level_from bit) (Some (record { moment = when; level = level_from (not bit) })) ≡ Some (record { moment = when; level = level_from (not bit) })
turned-some d t true when = refl
turned-some d t false when = refl

turned-none : (d : Delay) (t : ℕ) (bit : Bool)
    → event_after d t (level_from (not bit)) (level_from bit) None ≡ Some (record { moment = t + delay_to d (level_from (not bit)); level = level_from (not bit) })
turned-none d t true = refl
turned-none d t false = refl

same-when : (d : Delay) (t : ℕ) (bit : Bool) (when : ℕ) → when_after d t bit bit when ≡ 2 ^ 64 - 1
same-when d t true when = refl
same-when d t false when = refl

turned-when : (d : Delay) (t : ℕ) (bit : Bool) (when : ℕ)
    → when_after d t (not bit) bit when ≡ (if nat_lt when (2 ^ 64 - 1) then when else min (t + delay_to d (level_from (not bit))) (2 ^ 64 - 1))
turned-when d t true when = refl
turned-when d t false when = refl

turned-early : (d : Delay) (t : ℕ) (bit : Bool) (when : ℕ) → when < 2 ^ 64 - 1 → when_after d t (not bit) bit when ≡ when
turned-early d t bit when early = turned-when d t bit when ∙ rw (lt-ltb when (2 ^ 64 - 1) early) refl

turned-late : (d : Delay) (t : ℕ) (bit : Bool) (when : ℕ) → 2 ^ 64 - 1 ≤ when → when_after d t (not bit) bit when ≡ min (t + delay_to d (level_from (not bit))) (2 ^ 64 - 1)
turned-late d t bit when late = turned-when d t bit when ∙ rw (le-ltb when (2 ^ 64 - 1) late) refl

same-bit : (d : Delay) (t : ℕ) (bit : Bool) (when : ℕ)
    → event_after d t (level_from bit) (level_from bit) (event_of bit when) ≡ event_of bit (when_after d t bit bit when)
same-bit d t bit when =
    let after : event_of bit (when_after d t bit bit when) ≡ None = ap (event_of bit) (same-when d t bit when) in
    elim (cases_lt when (2 ^ 64 - 1)) [
      | inl early ↦ ap (event_after d t (level_from bit) (level_from bit)) (some-event bit when early) ∙ same-some d t bit when ∙ sym after
      | inr late ↦ ap (event_after d t (level_from bit) (level_from bit)) (no-event bit when late) ∙ same-none d t bit ∙ sym after
    ]

turned-bit : (d : Delay) (t : ℕ) (bit : Bool) (when : ℕ) → IsInRange d → t ≤ 2 ^ 63
    → event_after d t (level_from (not bit)) (level_from bit) (event_of bit when) ≡ event_of bit (when_after d t (not bit) bit when)
turned-bit d t bit when range early = elim (cases_lt when (2 ^ 64 - 1)) [
  | inl waits ↦
      ap (event_after d t (level_from (not bit)) (level_from bit)) (some-event bit when waits) ∙ turned-some d t bit when
      ∙ sym (ap (event_of bit) (turned-early d t bit when waits) ∙ some-event bit when waits)
  | inr late ↦
      let small = delay-small d (not bit) range in
      let least : min (t + delay_to d (level_from (not bit))) (2 ^ 64 - 1) ≡ t + delay_to d (level_from (not bit)) = omega arith in
      ap (event_after d t (level_from (not bit)) (level_from bit)) (no-event bit when late) ∙ turned-none d t bit
      ∙ sym (ap (event_of bit) (turned-late d t bit when late ∙ least) ∙ some-event bit (t + delay_to d (level_from (not bit))) (omega arith))
]

-- the event after an evaluation, by bits
pub after-bits : (d : Delay) (t : ℕ) (target level : Bool) (when : ℕ) → IsInRange d → t ≤ 2 ^ 63
    → event_after d t (level_from target) (level_from level) (event_of level when) ≡ event_of level (when_after d t target level when)
after-bits d t true true when range early = same-bit d t true when
after-bits d t true false when range early = turned-bit d t false when range early
after-bits d t false true when range early = turned-bit d t true when range early
after-bits d t false false when range early = same-bit d t false when

steady-turned : (d : Delay) (t : ℕ) (bit : Bool) (when : ℕ) → IsSteadyAs (level_from (not bit)) (level_from bit) (event_of bit when)
    → event_of bit (when_after d t (not bit) bit when) ≡ event_of bit when
steady-turned d t bit when steady = elim (cases_lt when (2 ^ 64 - 1)) [
  | inl waits ↦ ap (event_of bit) (turned-early d t bit when waits)
  | inr late ↦
      let P : Option Change → Type 0 = λ event. IsSteadyAs (level_from (not bit)) (level_from bit) event in
      absurd (other-level bit (sym (subst P (no-event bit when late) steady)))
]

steady-same : (d : Delay) (t : ℕ) (bit : Bool) (when : ℕ) → IsSteadyAs (level_from bit) (level_from bit) (event_of bit when)
    → event_of bit (when_after d t bit bit when) ≡ event_of bit when
steady-same d t bit when steady = elim (cases_lt when (2 ^ 64 - 1)) [
  | inl waits ↦
      let P : Option Change → Type 0 = λ event. IsSteadyAs (level_from bit) (level_from bit) event in
      absurd (other-level bit (subst P (some-event bit when waits) steady).0)
  | inr late ↦ ap (event_of bit) (same-when d t bit when) ∙ sym (no-event bit when late)
]

-- an evaluation of a steady gate leaves its event
pub steady-bits : (d : Delay) (t : ℕ) (target level : Bool) (when : ℕ) → IsSteadyAs (level_from target) (level_from level) (event_of level when)
    → event_of level (when_after d t target level when) ≡ event_of level when
steady-bits d t true true when steady = steady-same d t true when steady
steady-bits d t true false when steady = steady-turned d t false when steady
steady-bits d t false true when steady = steady-turned d t true when steady
steady-bits d t false false when steady = steady-same d t false when steady

-- a second evaluation changes nothing
pub after-again : (d : Delay) (t : ℕ) (target level : Bool) (when : ℕ)
    → when_after d t target level (when_after d t target level when) ≡ when_after d t target level when
after-again d t target level when = elim (cases_level (level_from target) (level_from level)) [
  | inl same ↦ rw (same, level_eq-same (level_from level)) refl
  | inr apart ↦ rw (level_eq-other (level_from target) (level_from level) apart) (twice when (t + delay_to d (level_from target)))
]
  where
    twice : (when next : ℕ) → (if nat_lt (if nat_lt when (2 ^ 64 - 1) then when else min next (2 ^ 64 - 1)) (2 ^ 64 - 1) then (if nat_lt when (2 ^ 64 - 1) then when else min next (2 ^ 64 - 1)) else min next (2 ^ 64 - 1))
        ≡ (if nat_lt when (2 ^ 64 - 1) then when else min next (2 ^ 64 - 1))
    twice when next = elim (cases_lt when (2 ^ 64 - 1)) [
      | inl waits ↦ rw (lt-ltb when (2 ^ 64 - 1) waits) (rw (lt-ltb when (2 ^ 64 - 1) waits) refl)
      | inr late ↦ rw (le-ltb when (2 ^ 64 - 1) late) (elim (cases_lt (min next (2 ^ 64 - 1)) (2 ^ 64 - 1)) [
        | inl soon ↦ rw (lt-ltb (min next (2 ^ 64 - 1)) (2 ^ 64 - 1) soon) refl
        | inr far ↦ rw (le-ltb (min next (2 ^ 64 - 1)) (2 ^ 64 - 1) far) refl
      ])
    ]

-- one more place is evaluated
pub evaluated-more : (f : ℕ → ℕ → ℕ) (Chosen More : ℕ → Type 0) (whens new : List ℕ) (at : ℕ)
    → ((place when : ℕ) → f place (f place when) ≡ f place when)
    → length new ≡ length whens → at < length whens
    → ((place : ℕ) → More place → Chosen place ⊎ (place ≡ at))
    → AreEvaluatedBy f Chosen whens new → AreEvaluatedBy f More whens (set new at (f at (get_or new at 0)))
evaluated-more f Chosen More whens new at again same within more all = λ place h. elim (cases_eq place at) [
  | inl here ↦
      let written : get_or (set new at (f at (get_or new at 0))) at 0 ≡ f at (get_or new at 0) = get_or-set_same new at (f at (get_or new at 0)) 0 (omega arith) in
      inl (rw here (written ∙ elim (all at within) [
        | inl done ↦ ap (f at) done ∙ again at (get_or whens at 0)
        | inr old ↦ ap (f at) old.0
      ]))
  | inr apart ↦
      let kept : get_or (set new at (f at (get_or new at 0))) place 0 ≡ get_or new place 0 = get_or-set_other new at place (f at (get_or new at 0)) 0 apart in
      elim (all place h) [
        | inl done ↦ inl (kept ∙ done)
        | inr old ↦ inr (kept ∙ old.0, λ chosen. elim (more place chosen) [ inl before ↦ old.1 before | inr here ↦ apart here ])
      ]
]
