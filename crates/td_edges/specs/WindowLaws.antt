-- Internal: what the delay of a gate makes of the changes of its target. These proofs stand here
-- for EdgeLaws.
use Rattle.std.proofs.Common.{◌≡◌, ◌≢◌, ℕ, zero, suc, ◌+◌, ◌-◌, ◌<◌, ◌≤◌, true, refl, arith, subst, ◌∙◌, sym, Option, Some, None, inl, inr}
use Rattle.std.specs.Prelude.{◌==◌}
use Rattle.std.proofs.lemmas.Bool.{cases_lt, cases_eq, lt-ltb, ne_eqb, cases_Bool, or_cases}
use Rattle.td_gates.specs.declared.primitives.Level.{Level}
use Rattle.td_gates.specs.declared.primitives.Level.TheVariants.{Zero as Low, One as High, X}
use Rattle.td_gates.specs.declared.timing.Delay.{Delay}
use Rattle.td_gates.specs.Delays.{IsInRange}
use Rattle.td_gates.specs.Table.{delay_to, inverse_of}
use Rattle.td_gates.proofs.Levels.{cases_level}
use Rattle.td_gates.proofs.Scheduling.{delay_to-positive}
use Rattle.td_gates.proofs.Delays.{IsDelayed, delayed-early, delayed-late, delayed-boolean}
use Rattle.td_gates.proofs.Sources.{Reaches, source}
use Rattle.td_gates.proofs.KnownLaws.{other_level, first_slow}
use Rattle.td_gates.specs.Known.{Agrees}
use Rattle.td_edges.specs.declared.signals.Span.{Span}
use Rattle.td_edges.specs.Spans.{until}
use Rattle.td_edges.specs.EdgeSignals.{limited, filtered, after_earliest, timely, never_changes, put_off, delayed, delayed_changes}

-- place n is just before moment n, so that a change at moment t leads from place t to place t + 1
abbrev pub StaysIn : Span → (ℕ → Level) → Type 0
StaysIn span e = (t : ℕ) → e (suc t) ≢ e t → (span.earliest ≤ t) × (t < until (e (suc t)) span)

abbrev pub IsStill : (ℕ → Level) → Type 0
IsStill e = (t : ℕ) → e (suc t) ≡ e t

abbrev pub MovesIn : Option Span → (ℕ → Level) → Type 0
MovesIn None e = IsStill e
MovesIn (Some span) e = StaysIn span e

-- from some place on the levels agree with what is known
pub record Ends (known : Level) (e : ℕ → Level) : Type 0 where
  pub from : ℕ
  pub ends : (n : ℕ) → from ≤ n → Agrees known (e n)

-- levels that aren't at v at one place and are at a later one change to v in between
pub record Turns (e : ℕ → Level) (v : Level) (n : ℕ) : Type 0 where
  pub turn : ℕ
  pub later : n ≤ turn
  pub before : e turn ≢ v
  pub after : e (suc turn) ≡ v

pub turns : (e : ℕ → Level) (v : Level) (n k : ℕ) → e n ≢ v → e (n + k) ≡ v → Turns e v n
turns e v n zero away there = let same : n + 0 ≡ n = omega arith in absurd (away (rw same at there))
turns e v n (suc k) away there = elim (cases_level (e (suc n)) v) [
  | inl now ↦ record { turn = n; later = omega arith; before = away; after = now }
  | inr not_yet ↦
      let same : n + suc k ≡ suc n + k = omega arith in
      let rest = turns e v (suc n) k not_yet (rw same at there) in
      record { turn = rest.turn; later = omega (arith, rest.later); before = rest.before; after = rest.after }
]

-- levels that end at v change to v after any place at which they aren't
pub turns_to_end : (e : ℕ → Level) (v : Level) → v ≢ X → Ends v e → (n : ℕ) → e n ≢ v → Turns e v n
turns_to_end e v known final n away =
    turns e v n final.from away (final.ends (n + final.from) (omega arith) known)

abbrev pub ReachesIn : Span → (ℕ → Level) → Delay → Type 0
ReachesIn span e delay = (u : ℕ) → Reaches e delay u → (span.earliest ≤ u) × (u < until (e (suc u)) span)

-- what a limit on the changes to one level says of changes to a level
pub limited_at : (level v : Level) (m t : ℕ) (span : Span) → v ≢ X → t < until v span → (v ≡ level → t < m) → t < until v (limited level m span)
limited_at Low Low m t span known low limit = let less = limit refl in omega arith
limited_at Low High m t span known low limit = low
limited_at High Low m t span known low limit = low
limited_at High High m t span known low limit = let less = limit refl in omega arith
limited_at X Low m t span known low limit = low
limited_at X High m t span known low limit = low
limited_at level X m t span known low limit = absurd (known refl)

pub limited-earliest : (level : Level) (m : ℕ) (span : Span) → (limited level m span).earliest ≡ span.earliest
limited-earliest Low m span = refl
limited-earliest High m span = refl
limited-earliest X m span = refl

inverse_known : (level : Level) → inverse_of level ≢ X → level ≢ X
inverse_known Low known = λ e. cc
inverse_known High known = λ e. cc
inverse_known X known = known

inverse_differs : (level : Level) → level ≢ X → inverse_of level ≢ level
inverse_differs Low known = λ e. cc
inverse_differs High known = λ e. cc
inverse_differs X known = absurd (known refl)

pub until_zero : (v : Level) (t : ℕ) (span : Span) → t < until v span → until X span ≢ 0
until_zero Low t span low = omega arith
until_zero High t span low = omega arith
until_zero X t span low = omega arith

-- the target's levels over time: Boolean, the first and the last as known, all changes within the
-- span
pub record IsTarget (e : ℕ → Level) (start finish : Level) (span : Span) : Type 0 where
  pub boolean : (n : ℕ) → e n ≢ X
  pub starts : Agrees start (e 0)
  pub final : Ends finish e
  pub all : StaysIn span e

pub early_all : (e : ℕ → Level) (span : Span) → StaysIn span e → (n : ℕ) → n ≤ span.earliest → e n ≡ e 0
early_all e span all zero low = refl
early_all e span all (suc n) low = elim (cases_level (e (suc n)) (e n)) [
  | inl same ↦ same ∙ early_all e span all n (omega arith)
  | inr differ ↦ let late = (all n differ).0 in absurd (omega arith)
]

-- a moment after the earliest stays as it is
after_stays : (earliest m t : ℕ) → earliest ≤ t → t < m → t < after_earliest earliest m
after_stays earliest m t late low = rw (lt-ltb earliest m (omega arith)) low

timely_at : (v : Level) (t : ℕ) (span : Span) → v ≢ X → span.earliest ≤ t → t < until v span → t < until v (timely span)
timely_at Low t span known late low = after_stays span.earliest span.falls_until t late low
timely_at High t span known late low = after_stays span.earliest span.rises_until t late low
timely_at X t span known late low = absurd (known refl)

put_off_at : (steps m u : ℕ) → u < m → u + steps < put_off steps m
put_off_at steps m u low = rw (lt-ltb 0 m (omega arith)) (omega arith)

delayed_at : (v : Level) (delay : Delay) (start : Level) (u : ℕ) (span : Span) → v ≢ X → u < until v span
    → u + delay_to delay v < until v (delayed delay start span)
delayed_at Low delay start u span known low = put_off_at delay.fall span.falls_until u low
delayed_at High delay start u span known low = put_off_at delay.rise span.rises_until u low
delayed_at X delay start u span known low = absurd (known refl)

is_zero : (n : ℕ) → n == 0 ≡ true → n ≡ 0
is_zero n h = elim (cases_eq n 0) [
  | inl same ↦ same
  | inr other ↦ (let no = ne_eqb n 0 other in cc)
]

-- the output ends where the target does
pub output_ends : (delay : Delay) → IsInRange delay → (e o : ℕ → Level) → IsDelayed e delay o → (finish : Level) → Ends finish e → Ends finish o
output_ends delay fits e o is finish final = record {
  from = suc (final.from + delay_to delay finish);
  ends = λ n late known. delayed-late e delay fits o is final.from (delay_to delay finish) finish
      (λ m after. final.ends m (omega arith) known) (omega arith) n (omega arith);
}

module _ (delay : Delay) (fits : IsInRange delay) (e o : ℕ → Level) (is : IsDelayed e delay o) (start finish : Level) (span : Span)
    (target : IsTarget e start finish span) where
  output_boolean : (n : ℕ) → o n ≢ X
  output_boolean = delayed-boolean e delay fits o is target.boolean

  -- a change away from the finish, kept for its delay, is followed by one back
  away_reaches : (u : ℕ) → Reaches e delay u → e (suc u) ≡ inverse_of finish → u < until finish span - delay_to delay (inverse_of finish)
  away_reaches u reaches away =
      let known : finish ≢ X = inverse_known finish (rw away at (target.boolean (suc u))) in
      let positive = delay_to-positive delay fits (inverse_of finish) in
      let last : ℕ = delay_to delay (inverse_of finish) - 1 in
      let stays : e (suc u + last) ≡ e (suc u) = reaches.stays last (rw away (omega arith)) in
      let back = turns_to_end e finish known target.final (suc u + last) (λ same. inverse_differs finish known (sym away ∙ sym stays ∙ same)) in
      let low = (target.all back.turn (λ same. back.before (sym same ∙ back.after))).1 in
      let less : back.turn < until finish span = rw back.after at low in
      let later = back.later in
      omega arith

  abbrev limit : ℕ
  limit = until finish span - delay_to delay (inverse_of finish)

  filtered_holds : ReachesIn (filtered delay finish span) e delay
  filtered_holds u reaches =
      let low = target.all u reaches.change in (
        rw (limited-earliest (inverse_of finish) limit span) low.0,
        limited_at (inverse_of finish) (e (suc u)) limit u span (target.boolean (suc u)) low.1 (λ away. away_reaches u reaches away),
      )

  abbrev seen : Span
  seen = timely (filtered delay finish span)

  seen_holds : ReachesIn seen e delay
  seen_holds u reaches =
      let low = filtered_holds u reaches in
      (low.0, timely_at (e (suc u)) u (filtered delay finish span) (target.boolean (suc u)) low.0 low.1)

  -- a change of the output, by where it comes from
  seen_change : (t : ℕ) → o (suc t) ≢ o t → (u : ℕ) × (t ≡ u + delay_to delay (o (suc t))) × (u < until (o (suc t)) seen)
  seen_change t differ =
      let from = source e delay fits o is t differ in
      let low : from.moment < until (e (suc from.moment)) seen = (seen_holds from.moment from.reaches).1 in
      (from.moment, from.put_off, rw from.same at low)

  none_at_all : until X seen ≡ 0 → IsStill o
  none_at_all none t = elim (cases_level (o (suc t)) (o t)) [
    | inl same ↦ same
    | inr differ ↦
        let change = seen_change t differ in absurd (until_zero (o (suc t)) change.0 seen change.2 none)
  ]

  none_to : (v : Level) → until v seen ≡ 0 → (t : ℕ) → o (suc t) ≡ v → o t ≢ v → ⊥
  none_to v none t after before =
      let change = seen_change t (λ same. before (sym same ∙ after)) in
      let low : change.0 < until v seen = subst (λ (w : Level). change.0 < until w seen) after change.2 in
      omega arith

  -- without changes to its finish the output is there throughout
  none_to_finish : until finish seen ≡ 0 → IsStill o
  none_to_finish none = elim (cases_level finish X) [
    | inl unknown ↦ none_at_all (subst (λ (v : Level). until v seen ≡ 0) unknown none)
    | inr known ↦ (λ t. at_finish known (suc t) ∙ sym (at_finish known t))
  ]
    where
      at_finish : finish ≢ X → (n : ℕ) → o n ≡ finish
      at_finish known n = elim (cases_level (o n) finish) [
        | inl same ↦ same
        | inr away ↦ let back = turns_to_end o finish known (output_ends delay fits e o is finish target.final) n away in
            absurd (none_to finish none back.turn back.after back.before)
      ]

  -- without changes away from its start the output is there throughout
  none_from_start : until (inverse_of start) seen ≡ 0 → IsStill o
  none_from_start none = elim (cases_level start X) [
    | inl unknown ↦ none_at_all (rw unknown at none)
    | inr known ↦ (λ t. at_start known (suc t) ∙ sym (at_start known t))
  ]
    where
      at_start : start ≢ X → (n : ℕ) → o n ≡ start
      at_start known zero = is.opening ∙ target.starts known
      at_start known (suc n) = elim (cases_level (o (suc n)) start) [
        | inl same ↦ same
        | inr away ↦
            let there : o (suc n) ≡ inverse_of start = other_level start (o (suc n)) known (output_boolean (suc n)) away in
            let before = at_start known n in
            absurd (none_to (inverse_of start) none n there (λ same. inverse_differs start known (sym same ∙ before)))
      ]

  seen_earliest : seen.earliest ≡ span.earliest
  seen_earliest = limited-earliest (inverse_of finish) limit span

  first_step : (t : ℕ) → o (suc t) ≢ o t → seen.earliest + delay_to delay (inverse_of start) ≤ t
  first_step t differ = elim (cases_lt t (seen.earliest + delay_to delay (inverse_of start))) [
    | inr late ↦ late
    | inl sooner ↦
        let there = λ (n : ℕ) (low : n ≤ span.earliest + delay_to delay (inverse_of start)).
        delayed-early e delay fits o is span.earliest (delay_to delay (inverse_of start)) (early_all e span target.all)
        (λ n away. first_slow delay start (e 0) (e n) target.starts (target.boolean n) away) n low in
        let same = seen_earliest in
        absurd (differ (there (suc t) (omega arith) ∙ sym (there t (omega arith))))
  ]

  moves : StaysIn (delayed delay start seen) o
  moves t differ =
      let change = seen_change t differ in
      let low = delayed_at (o (suc t)) delay start change.0 seen (output_boolean (suc t)) change.2 in
      (first_step t differ, omega (arith, low, change.1))

  pub delayed_holds : MovesIn (delayed_changes delay start finish span) o
  delayed_holds = elim (cases_Bool (never_changes start finish seen)) [
    | inr some ↦ rw some moves
    | inl never ↦ rw never (elim (or_cases _ _ never) [
      | inl back ↦ none_to_finish (is_zero _ back)
      | inr away ↦ none_from_start (is_zero _ away)
    ])
  ]
