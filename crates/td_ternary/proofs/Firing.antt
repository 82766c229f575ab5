-- One level over time: what is scheduled takes place, and the target changes.
use Rattle.std.proofs.Common.{◌≡◌, ◌≢◌, ℕ, suc, ◌<◌, ◌≤◌, List, [], ◌∷◌, refl, arith, ap, ◌∙◌, sym, inl, inr, Option, Some, None}
use Rattle.std.proofs.lemmas.Bool.{cases_lt, le-leb, lt-leb}
use Rattle.td_gates.specs.declared.primitives.Level.{Level}
use Rattle.td_gates.specs.declared.timing.Delay.{Delay}
use Rattle.td_gates.specs.declared.timing.Change.{Change}
use Rattle.td_gates.specs.Delays.{IsInRange}
use Rattle.td_gates.specs.Wave.{Wave, level_after, at, IsRising}
use Rattle.td_gates.proofs.Levels.{level_eq-same, level_eq-other, cases_level, level_after-early, IsRising-sooner}
use Rattle.td_gates.proofs.Scheduling.{delivered, delivered-rising, event_of, aim_of, IsReady, IsReady-event_of}
use Rattle.td_run.specs.Waves.{event_for}
use Rattle.td_run.proofs.Delayed.{aim-event_for, delivered-none, delivered-early}
use Rattle.td_ternary.specs.Prospects.{Prospect}
use Rattle.td_ternary.specs.Turning.{may_be}
use Rattle.td_ternary.specs.Prospects.{fired, driven}
use Rattle.td_ternary.proofs.Turning.{turns, turns-rising}

-- where nothing is due at a moment, the output changes later
pub delivered-later : (d : Delay) → IsInRange d → (m : ℕ) (o : Level) (scheduled : Option Change) (changes : List Change)
    → IsReady (suc m) o scheduled → IsRising m (aim_of o scheduled) changes → IsRising (suc m) o (delivered d o scheduled changes)
delivered-later d fits m o None [] ready rising = tt
delivered-later d fits m o (Some event) [] ready rising = (ready.1, (λ same. ready.0 (sym same)), tt)
delivered-later d fits m o None (change ∷ later) ready rising =
    IsRising-sooner (suc m) (suc change.moment) o _ (omega (arith, rising.0))
    (delivered-rising d fits (suc change.moment) o (Some (event_of d change)) later
    (IsReady-event_of d fits change o (λ same. rising.1 (sym same))) rising.2)
delivered-later d fits m o (Some event) (change ∷ later) ready rising = elim (cases_lt change.moment event.moment) [
  | inl early ↦ rw (lt-leb event.moment change.moment early) (elim (cases_level change.level o) [
    | inl same ↦
        let rest : IsRising (suc change.moment) o later = rw same at rising.2 in
        rw (same, level_eq-same o)
        (IsRising-sooner (suc m) (suc change.moment) o _ (omega (arith, rising.0))
        (delivered-rising d fits (suc change.moment) o None later tt rest))
    | inr differ ↦ rw (level_eq-other change.level o differ)
        (IsRising-sooner (suc m) (suc change.moment) o _ (omega (arith, rising.0))
        (delivered-rising d fits (suc change.moment) o (Some (event_of d change)) later
        (IsReady-event_of d fits change o differ) rising.2))
  ])
  | inr due ↦ rw (le-leb event.moment change.moment due) (
    ready.1,
    (λ same. ready.0 (sym same)),
    IsRising-sooner (suc event.moment) (suc change.moment) event.level _ (omega arith)
        (delivered-rising d fits (suc change.moment) event.level (Some (event_of d change)) later
        (IsReady-event_of d fits change event.level (λ same. rising.1 (sym same))) rising.2),
  )
]

-- an event that no change of the target comes before takes place
delivered-fired : (d : Delay) (o : Level) (event : Change) (changes : List Change) → IsRising event.moment event.level changes
    → delivered d o (Some event) changes ≡ event ∷ delivered d event.level None changes
delivered-fired d o event [] rising = refl
delivered-fired d o event (change ∷ later) rising = rw (le-leb event.moment change.moment rising.0) refl

-- from a moment on, the wave is what the prospect makes of the changes of the target that are left,
-- whose level is this so far
pub record IsFollowed (wanted : Level) (d : Delay) (wave : Wave) (n : ℕ) (level : Level) (rest : List Change) (target output : Level) (scheduled : Option Change) : Type 0 where
  pub shows : (t : ℕ) → n ≤ t → at wave t ≡ level_after output (delivered d output scheduled (turns wanted target rest)) t
  pub ready : IsReady n output scheduled
  pub aim : aim_of output scheduled ≡ target
  pub may : target ≡ may_be wanted level

abbrev pub Follows : Level → Delay → Wave → ℕ → Level → List Change → Prospect → Type 0
Follows wanted d wave n level rest prospect = IsFollowed wanted d wave n level rest prospect.target prospect.output prospect.scheduled

module _ (wanted : Level) (d : Delay) (fits : IsInRange d) (wave : Wave) (n : ℕ) (level : Level) (rest : List Change) where
  rises : (m : ℕ) (target output : Level) (scheduled : Option Change) → IsFollowed wanted d wave n level rest target output scheduled
      → IsRising m level rest → IsRising m (aim_of output scheduled) (turns wanted target rest)
  rises m target output scheduled follows rising = rw follows.aim (turns-rising wanted level target m rest follows.may rising)

  -- the wave stays while nothing is due
  pub stays : (m : ℕ) (target output : Level) (scheduled : Option Change) → IsFollowed wanted d wave n level rest target output scheduled
      → IsReady (suc m) output scheduled → IsRising m level rest → (t : ℕ) → n ≤ t → t ≤ m → at wave t ≡ output
  stays m target output scheduled follows ready rising t from until =
      follows.shows t from
      ∙ level_after-early (suc m) t output _
      (delivered-later d fits m output scheduled (turns wanted target rest) ready (rises m target output scheduled follows rising)) (omega arith)

  pub stays-under : (m : ℕ) (target output : Level) (scheduled : Option Change) → IsFollowed wanted d wave n level rest target output scheduled
      → IsReady m output scheduled → IsRising m level rest → (t : ℕ) → n ≤ t → t < m → at wave t ≡ output
  stays-under m target output scheduled follows ready rising t from until =
      follows.shows t from
      ∙ level_after-early m t output _
      (delivered-rising d fits m output scheduled (turns wanted target rest) ready (rises m target output scheduled follows rising)) until

  -- nothing is due at a moment
  waits : (u : ℕ) → n ≤ u → (target output : Level) (scheduled : Option Change) → IsFollowed wanted d wave n level rest target output scheduled
      → IsReady (suc u) output scheduled → IsFollowed wanted d wave (suc u) level rest target output scheduled
  waits u from target output scheduled follows ready = record {
    shows = λ t late. follows.shows t (omega arith);
    ready = ready;
    aim = follows.aim;
    may = follows.may;
  }

  -- what is due at a moment takes place
  pub fire : (u : ℕ) → n ≤ u → IsRising u level rest → (target output : Level) (scheduled : Option Change)
      → IsFollowed wanted d wave n level rest target output scheduled → IsReady u output scheduled
      → Follows wanted d wave (suc u) level rest (fired u (record { target = target; output = output; scheduled = scheduled }))
      × (at wave u ≡ (fired u (record { target = target; output = output; scheduled = scheduled })).output)
  fire u from rising target output None follows ready =
      (waits u from target output None follows tt, stays u target output None follows tt rising u from (omega arith))
  fire u from rising target output (Some event) follows ready = elim (cases_lt u event.moment) [
    | inl early ↦ rw (lt-leb event.moment u early)
        (waits u from target output (Some event) follows (ready.0, early), stays u target output (Some event) follows (ready.0, early) rising u from (omega arith))
    | inr due ↦
        let now : u ≡ event.moment = omega (arith, ready.1) in
        let left : IsRising u event.level (turns wanted target rest) = rises u target output (Some event) follows rising in
        let left_event : IsRising event.moment event.level (turns wanted target rest) = rw now at left in
        let whole = delivered-fired d output event (turns wanted target rest) left_event in
        let shown : (t : ℕ) → u ≤ t → at wave t ≡ level_after event.level (delivered d event.level None (turns wanted target rest)) t =
        (λ t late. follows.shows t (omega arith) ∙ ap (λ changes. level_after output changes t) whole ∙ rw (le-leb event.moment t (omega arith)) refl) in
        let later = delivered-later d fits u event.level None (turns wanted target rest) tt left in
        rw (le-leb event.moment u due) (
          record {
            shows = λ t late. shown t (omega arith);
            ready = tt;
            aim = follows.aim;
            may = follows.may;
          },
          shown u (omega arith) ∙ level_after-early (suc u) u event.level _ later (omega arith),
        )
  ]

event-ready : (d : Delay) → IsInRange d → (o : Level) (change : Change) → IsReady (suc change.moment) o (event_for d o change)
event-ready d fits o change = elim (cases_level change.level o) [
  | inl same ↦ rw (same, level_eq-same o) tt
  | inr differ ↦ rw (level_eq-other change.level o differ) (IsReady-event_of d fits change o differ)
]

-- a change of what the target may be, where nothing else is due
taken : (d : Delay) (o target : Level) (scheduled : Option Change) (change : Change) (later : List Change)
    → aim_of o scheduled ≡ target → change.level ≢ target → IsReady (suc change.moment) o scheduled
    → delivered d o scheduled (change ∷ later) ≡ delivered d o (event_for d o change) later
taken d o target None change later aim differ ready = delivered-none d o change later (λ same. differ (sym same ∙ aim))
taken d o target (Some event) change later aim differ ready = delivered-early d o event change later ready.1

-- the target changes
pub drive : (wanted : Level) (d : Delay) → IsInRange d → (wave : Wave) (n : ℕ) (level : Level) (change : Change) (rest : List Change) (target output : Level) (scheduled : Option Change)
    → IsFollowed wanted d wave n level (change ∷ rest) target output scheduled → n ≤ suc change.moment → IsReady (suc change.moment) output scheduled
    → Follows wanted d wave (suc change.moment) change.level rest
    (driven wanted d change (record { target = target; output = output; scheduled = scheduled }))
drive wanted d fits wave n level change rest target output scheduled follows from ready =
    elim (cases_level (may_be wanted change.level) target) [
      | inl same ↦
          let step : turns wanted target (change ∷ rest) ≡ turns wanted target rest = rw (same, level_eq-same target) refl in
          let shown : (t : ℕ) → suc change.moment ≤ t → at wave t ≡ level_after output (delivered d output scheduled (turns wanted target rest)) t =
          (λ t late. follows.shows t (omega arith) ∙ ap (λ changes. level_after output (delivered d output scheduled changes) t) step) in
          let is : IsFollowed wanted d wave (suc change.moment) change.level rest target output scheduled =
          record { shows = shown; ready = ready; aim = follows.aim; may = sym same } in
          rw (same, level_eq-same target) is
      | inr differ ↦
          let turn : Change = record { moment = change.moment; level = may_be wanted change.level } in
          let step : turns wanted target (change ∷ rest) ≡ turn ∷ turns wanted (may_be wanted change.level) rest =
          rw (level_eq-other (may_be wanted change.level) target differ) refl in
          let schedule = taken d output target scheduled turn (turns wanted (may_be wanted change.level) rest) follows.aim differ ready in
          let is : IsFollowed wanted d wave (suc change.moment) change.level rest (may_be wanted change.level) output (event_for d output turn) =
          record {
            shows = λ t late. follows.shows t (omega arith) ∙ ap (λ changes. level_after output (delivered d output scheduled changes) t) step
                ∙ ap (λ changes. level_after output changes t) schedule;
            ready = event-ready d fits output turn;
            aim = aim-event_for d output turn;
            may = refl;
          } in
          rw (level_eq-other (may_be wanted change.level) target differ) is
    ]
