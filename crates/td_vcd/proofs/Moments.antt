-- The lines of changes that come in the order of their moments are those of the moments, one after
-- another.
use Rattle.std.proofs.Common.{◌≡◌, ◌≢◌, ℕ, zero, suc, ◌<◌, ◌≤◌, List, [], ◌∷◌, ◌++◌, length, map, get_or, refl, arith, ◌⊎◌, inl, inr, sym, ap, ◌∙◌}
use Rattle.std.specs.Prelude.{IsPermutation, ◌==◌, ◌&&◌, not, if◌then◌else◌}
use Rattle.std.specs.List.{flat_map, filter, Contains}
use Rattle.std.specs.List.Sorted.{IsNonDecreasingBy, IsStableByKey}
use Rattle.std.specs.Ordering.{nat_cmp, is_lt}
use Rattle.std.proofs.lemmas.Bool.{cases_lt, cases_eq, lt-ltb, le-ltb, eq-eqb, ne_eqb}
use Rattle.std.proofs.lemmas.List.Elements.{filter_agree}
use Rattle.std.proofs.lemmas.List.Sorted.{Contains-permutation, IsPermutation-map, IsPermutation-sym}
use Rattle.td_gates.specs.declared.primitives.Level.TheVariants.{Zero}
use Rattle.td_run.proofs.Sampling.{IsIncreasingFrom}
use Rattle.td_vcd.specs.declared.events.Event.{Event}
use Rattle.td_vcd.specs.Text.{Line, Number, time_number, moment_of, events_at, event_line, moment_lines, with_number, rising, change_lines}
use Rattle.td_vcd.specs.Walks.{lines_from}

-- ---- numbers in a list

abbrev pub Has : ℕ → List ℕ → Type 0
Has t [] = ⊥
Has t (x ∷ xs) = (x ≡ t) ⊎ Has t xs

to_has : (t : ℕ) (xs : List ℕ) → Contains xs t → Has t xs
to_has t [] found = absurd (omega (arith, found.1))
to_has t (x ∷ xs) found = elim found.0 as (λ k. k < length (x ∷ xs) → get_or (x ∷ xs) k t ≡ t → (x ≡ t) ⊎ Has t xs) [
  | zero ↦ λ within is. inl is
  | suc k ↦ λ within is. inr (to_has t xs (k, omega arith, is))
] found.1 found.2

from_has : (t : ℕ) (xs : List ℕ) → Has t xs → Contains xs t
from_has t [] found = absurd found
from_has t (x ∷ xs) found = elim found [
  | inl is ↦ (0, omega arith, is)
  | inr further ↦ (let rest = from_has t xs further in (suc rest.0, omega (arith, rest.1), rest.2))
]

pub above : (n t : ℕ) (xs : List ℕ) → IsIncreasingFrom n xs → Has t xs → n ≤ t
above n t [] increasing found = absurd found
above n t (x ∷ xs) increasing found = elim found [
  | inl is ↦ omega (arith, is, increasing.0)
  | inr further ↦ (let later = above (suc x) t xs increasing.1 further in omega (arith, later, increasing.0))
]

-- numbers that rise are known by which they are
same_numbers : (n m : ℕ) (xs ys : List ℕ) → IsIncreasingFrom n xs → IsIncreasingFrom m ys → ((t : ℕ) → Has t xs → Has t ys)
    → ((t : ℕ) → Has t ys → Has t xs) → xs ≡ ys
same_numbers n m [] [] p q to back = refl
same_numbers n m [] (y ∷ ys) p q to back = absurd (back y (inl refl))
same_numbers n m (x ∷ xs) [] p q to back = absurd (to x (inl refl))
same_numbers n m (x ∷ xs) (y ∷ ys) p q to back =
    let y_first : y ≤ x = least x y ys q.1 (to x (inl refl)) in
    let x_first : x ≤ y = least y x xs p.1 (back y (inl refl)) in
    let same : x ≡ y = omega (arith, y_first, x_first) in
    let rest : xs ≡ ys = same_numbers (suc x) (suc y) xs ys p.1 q.1
    (λ t has. behind y t ys (to t (inr has)) (let late = above (suc x) t xs p.1 has in omega (arith, late, same)))
    (λ t has. behind x t xs (back t (inr has)) (let late = above (suc y) t ys q.1 has in omega (arith, late, same))) in
    ap (λ (z : ℕ). z ∷ xs) same ∙ ap (λ (zs : List ℕ). y ∷ zs) rest
  where
    least : (t y : ℕ) (ys : List ℕ) → IsIncreasingFrom (suc y) ys → (y ≡ t) ⊎ Has t ys → y ≤ t
    least t y ys q found = elim found [
      | inl is ↦ omega (arith, is)
      | inr further ↦ (let late = above (suc y) t ys q further in omega (arith, late))
    ]

    behind : (y t : ℕ) (ys : List ℕ) → (y ≡ t) ⊎ Has t ys → y < t → Has t ys
    behind y t ys found late = elim found [
      | inl is ↦ absurd (omega (arith, is, late))
      | inr further ↦ further
    ]

-- ---- rising numbers

with_number-increasing : (m new : ℕ) (xs : List ℕ) → m ≤ new → IsIncreasingFrom m xs → IsIncreasingFrom m (with_number new xs)
with_number-increasing m new [] low increasing = (low, tt)
with_number-increasing m new (x ∷ xs) low increasing = elim (cases_lt new x) [
  | inl less ↦ rw (lt-ltb new x less) (low, (omega (arith, less), increasing.1))
  | inr reached ↦ rw (le-ltb new x reached) (elim (cases_eq x new) [
    | inl same ↦ rw (eq-eqb x new same) increasing
    | inr other ↦ rw (ne_eqb x new other) (increasing.0, with_number-increasing (suc x) new xs (omega arith) increasing.1)
  ])
]

in_with_number : (t new : ℕ) (xs : List ℕ) → Has t (with_number new xs) → (new ≡ t) ⊎ Has t xs
in_with_number t new [] found = found
in_with_number t new (x ∷ xs) found = elim (cases_lt new x) [
  | inl less ↦ rw (lt-ltb new x less) at found
  | inr reached ↦ elim (cases_eq x new) [
    | inl same ↦ inr (rw (le-ltb new x reached, eq-eqb x new same) at found)
    | inr other ↦
        let split : (x ≡ t) ⊎ Has t (with_number new xs) = rw (le-ltb new x reached, ne_eqb x new other) at found in
        elim split [
          | inl is ↦ inr (inl is)
          | inr further ↦ elim (in_with_number t new xs further) [
            | inl is ↦ inl is
            | inr old ↦ inr (inr old)
          ]
        ]
  ]
]

with_number-has : (t new : ℕ) (xs : List ℕ) → (new ≡ t) ⊎ Has t xs → Has t (with_number new xs)
with_number-has t new [] found = found
with_number-has t new (x ∷ xs) found = elim (cases_lt new x) [
  | inl less ↦ rw (lt-ltb new x less) found
  | inr reached ↦ rw (le-ltb new x reached) (elim (cases_eq x new) [
    | inl same ↦ rw (eq-eqb x new same) (elim found [
      | inl is ↦ inl (same ∙ is)
      | inr old ↦ old
    ])
    | inr other ↦ rw (ne_eqb x new other) (elim found [
      | inl is ↦ inr (with_number-has t new xs (inl is))
      | inr old ↦ elim old [
        | inl first ↦ inl first
        | inr further ↦ inr (with_number-has t new xs (inr further))
      ]
    ])
  ])
]

pub rising-increasing : (xs : List ℕ) → IsIncreasingFrom 0 (rising xs)
rising-increasing [] = tt
rising-increasing (x ∷ xs) = with_number-increasing 0 x (rising xs) (omega arith) (rising-increasing xs)

in_rising : (t : ℕ) (xs : List ℕ) → Has t (rising xs) → Has t xs
in_rising t [] found = found
in_rising t (x ∷ xs) found = elim (in_with_number t x (rising xs) found) [
  | inl is ↦ inl is
  | inr further ↦ inr (in_rising t xs further)
]

pub rising-has : (t : ℕ) (xs : List ℕ) → Has t xs → Has t (rising xs)
rising-has t [] found = found
rising-has t (x ∷ xs) found = with_number-has t x (rising xs) (elim found [
  | inl is ↦ inl is
  | inr further ↦ inr (rising-has t xs further)
])

-- ---- events in the order of their moments

-- each event's number is at least this one, and no less than that of the one before it
abbrev pub IsSortedFrom : ℕ → List Event → Type 0
IsSortedFrom n [] = Unit {0}
IsSortedFrom n (event ∷ later) = (n ≤ time_number event.moment) × IsSortedFrom (time_number event.moment) later

pub IsSortedFrom-sorted : (events : List Event) → IsNonDecreasingBy moment_of events → IsSortedFrom 0 events
IsSortedFrom-sorted [] sorted = tt
IsSortedFrom-sorted (event ∷ later) sorted = (omega arith, from event later sorted)
  where
    from : (first : Event) (others : List Event) → IsNonDecreasingBy moment_of (first ∷ others) → IsSortedFrom (time_number first.moment) others
    from first [] order = tt
    from first (next ∷ others) order =
        let up : first.moment ≤ next.moment = order 0 1 first (omega arith) (omega arith) in
        (omega (arith, up), from next others (λ i j d less within. order (suc i) (suc j) d (omega arith) (omega arith)))

-- the moments after the line of a number, each of them once
abbrev moments_from : ℕ → List Event → List ℕ
moments_from n [] = []
moments_from n (event ∷ later) =
    if time_number event.moment == n then moments_from n later else event.moment ∷ moments_from (time_number event.moment) later

-- the events whose number is this one
abbrev numbered_so : ℕ → List Event → List Event
numbered_so n events = filter (λ event. time_number event.moment == n) events

moments_from-increasing : (n : ℕ) (events : List Event) → IsSortedFrom n events → IsIncreasingFrom n (moments_from n events)
moments_from-increasing n [] sorted = tt
moments_from-increasing n (event ∷ later) sorted = elim (cases_eq (time_number event.moment) n) [
  | inl same ↦
      let rest : IsSortedFrom n later = rw same at sorted.1 in
      rw (eq-eqb (time_number event.moment) n same) (moments_from-increasing n later rest)
  | inr other ↦ rw (ne_eqb (time_number event.moment) n other)
      (omega (arith, sorted.0, other), moments_from-increasing (time_number event.moment) later sorted.1)
]

in_moments : (n t : ℕ) (events : List Event) → Has t (moments_from n events) → Has t (map moment_of events)
in_moments n t [] found = found
in_moments n t (event ∷ later) found = elim (cases_eq (time_number event.moment) n) [
  | inl same ↦ inr (in_moments n t later (rw (eq-eqb (time_number event.moment) n same) at found))
  | inr other ↦
      let split : (event.moment ≡ t) ⊎ Has t (moments_from (time_number event.moment) later) = rw (ne_eqb (time_number event.moment) n other) at found in
      elim split [
        | inl is ↦ inl is
        | inr further ↦ inr (in_moments (time_number event.moment) t later further)
      ]
]

moments-have : (n t : ℕ) (events : List Event) → time_number t ≢ n → Has t (map moment_of events) → Has t (moments_from n events)
moments-have n t [] apart found = found
moments-have n t (event ∷ later) apart found = elim (cases_eq (time_number event.moment) n) [
  | inl same ↦ rw (eq-eqb (time_number event.moment) n same) (elim found [
    | inl is ↦ absurd (apart (sym (ap time_number is) ∙ same))
    | inr further ↦ moments-have n t later apart further
  ])
  | inr other ↦ rw (ne_eqb (time_number event.moment) n other) (elim (cases_eq event.moment t) [
    | inl now ↦ inl now
    | inr past ↦ inr (moments-have (time_number event.moment) t later (λ same. past (omega (arith, same))) (elim found [
      | inl is ↦ absurd (past is)
      | inr further ↦ further
    ]))
  ])
]

-- ---- the lines

none_before : (n m : ℕ) (events : List Event) → IsSortedFrom m events → n < m → numbered_so n events ≡ []
none_before n m [] sorted less = refl
none_before n m (event ∷ later) sorted less =
    rw (ne_eqb (time_number event.moment) n (λ same. omega (arith, same, sorted.0, less)))
    (none_before n (time_number event.moment) later sorted.1 (omega (arith, sorted.0, less)))

none_at_zero : (events : List Event) → numbered_so 0 events ≡ []
none_at_zero [] = refl
none_at_zero (event ∷ later) = rw (ne_eqb (time_number event.moment) 0 (λ same. omega (arith, same))) (none_at_zero later)

same_number : (a t : ℕ) → (time_number a == time_number t) ≡ (a == t)
same_number a t = elim (cases_eq a t) [
  | inl same ↦ rw (eq-eqb (time_number a) (time_number t) (ap suc same), eq-eqb a t same) refl
  | inr other ↦ rw (ne_eqb (time_number a) (time_number t) (λ same. other (omega (arith, same))), ne_eqb a t other) refl
]

at_moment : (t : ℕ) (events : List Event) → numbered_so (time_number t) events ≡ events_at t events
at_moment t events = filter_agree (λ (event : Event). time_number event.moment == time_number t) (λ (event : Event). event.moment == t)
    (λ event. same_number event.moment t) events

-- what comes before the first of the moments has no part in their lines
early : (event : Event) (later : List Event) (n : ℕ) (moments : List ℕ) → event.moment < n → IsIncreasingFrom n moments
    → flat_map (moment_lines (event ∷ later)) moments ≡ flat_map (moment_lines later) moments
early event later n [] less increasing = refl
early event later n (t ∷ moments) less increasing =
    let apart : event.moment ≢ t = λ same. omega (arith, same, less, increasing.0) in
    let none : events_at t (event ∷ later) ≡ events_at t later = rw (ne_eqb event.moment t apart) refl in
    ap (λ (es : List Event). (Number (time_number t) ∷ map event_line es) ++ flat_map (moment_lines (event ∷ later)) moments) none
    ∙ ap (λ (ls : List Line). moment_lines later t ++ ls) (early event later (suc t) moments (omega (arith, less, increasing.0)) increasing.1)

-- the lines after a number: what is left of it, and then the later moments
grouped : (n : ℕ) (events : List Event) → IsSortedFrom n events
    → lines_from n events ≡ map event_line (numbered_so n events) ++ flat_map (moment_lines events) (moments_from n events)
grouped n [] sorted = refl
grouped n (event ∷ later) sorted = elim (cases_eq (time_number event.moment) n) [
  | inl same ↦
      let rest : IsSortedFrom n later = rw same at sorted.1 in
      let first : lines_from n (event ∷ later) ≡ event_line event ∷ lines_from n later =
      rw (eq-eqb (time_number event.moment) n same) (ap (λ (m : ℕ). event_line event ∷ lines_from m later) same) in
      let moments : List ℕ = moments_from n later in
      let tail = early event later n moments (omega (arith, same)) (moments_from-increasing n later rest) in
      first
      ∙ ap (λ (ls : List Line). event_line event ∷ ls) (grouped n later rest)
      ∙ ap (λ (ls : List Line). event_line event ∷ (map event_line (numbered_so n later) ++ ls)) (sym tail)
      ∙ sym (now_same same)
  | inr other ↦
      let own : ℕ = time_number event.moment in
      let moments : List ℕ = moments_from own later in
      let first : lines_from n (event ∷ later) ≡ Number own ∷ event_line event ∷ lines_from own later =
      rw (ne_eqb own n other) refl in
      let tail = early event later own moments (omega arith) (moments_from-increasing own later sorted.1) in
      first
      ∙ ap (λ (ls : List Line). Number own ∷ event_line event ∷ ls) (grouped own later sorted.1)
      ∙ ap (λ (es : List Event). Number own ∷ event_line event ∷ (map event_line es ++ flat_map (moment_lines later) moments)) (at_moment event.moment later)
      ∙ ap (λ (ls : List Line). Number own ∷ event_line event ∷ (map event_line (events_at event.moment later) ++ ls)) (sym tail)
      ∙ sym (now_other other)
]
  where
    now_same : time_number event.moment ≡ n
        → map event_line (numbered_so n (event ∷ later)) ++ flat_map (moment_lines (event ∷ later)) (moments_from n (event ∷ later))
        ≡ event_line event ∷ (map event_line (numbered_so n later) ++ flat_map (moment_lines (event ∷ later)) (moments_from n later))
    now_same same = rw (eq-eqb (time_number event.moment) n same) refl

    now_other : time_number event.moment ≢ n
        → map event_line (numbered_so n (event ∷ later)) ++ flat_map (moment_lines (event ∷ later)) (moments_from n (event ∷ later))
        ≡ Number (time_number event.moment) ∷ event_line event ∷ (map event_line (events_at event.moment later)
        ++ flat_map (moment_lines (event ∷ later)) (moments_from (time_number event.moment) later))
    now_other other =
        let none : numbered_so n later ≡ [] = none_before n (time_number event.moment) later sorted.1 (omega (arith, sorted.0, other)) in
        rw (ne_eqb (time_number event.moment) n other, none, eq-eqb event.moment event.moment refl) refl

-- the same lines where each moment has the same events
agree : (these those : List Event) → ((t : ℕ) → events_at t these ≡ events_at t those) → (moments : List ℕ)
    → flat_map (moment_lines these) moments ≡ flat_map (moment_lines those) moments
agree these those same [] = refl
agree these those same (t ∷ moments) =
    ap (λ (es : List Event). (Number (time_number t) ∷ map event_line es) ++ flat_map (moment_lines these) moments) (same t)
    ∙ ap (λ (ls : List Line). moment_lines those t ++ ls) (agree these those same moments)

-- ---- a stable sort

ties-same : (a b : ℕ) → (not (is_lt (nat_cmp a b)) && not (is_lt (nat_cmp b a))) ≡ (b == a)
ties-same a b = elim (cases_lt a b) [
  | inl less ↦ rw (lt-ltb a b less, ne_eqb b a (λ same. omega (arith, same, less))) refl
  | inr reached ↦ elim (cases_lt b a) [
    | inl less ↦ rw (le-ltb a b reached, lt-ltb b a less, ne_eqb a b (λ same. omega (arith, same, less)), ne_eqb b a (λ same. omega (arith, same, less))) refl
    | inr back ↦
        let same : a ≡ b = omega (arith, reached, back) in
        rw (le-ltb a b reached, le-ltb b a back, eq-eqb a b same, eq-eqb b a (sym same)) refl
  ]
]

stable_at : (these those : List Event) → IsStableByKey moment_of nat_cmp these those → (t : ℕ) → events_at t those ≡ events_at t these
stable_at these those stable t =
    let here : Event = record { moment = t; variable = 0; level = Zero } in
    sym (tied those) ∙ stable here ∙ tied these
  where
    tied : (events : List Event)
        → filter (λ (event : Event). not (is_lt (nat_cmp t event.moment)) && not (is_lt (nat_cmp event.moment t))) events ≡ events_at t events
    tied events = filter_agree (λ (event : Event). not (is_lt (nat_cmp t event.moment)) && not (is_lt (nat_cmp event.moment t)))
        (λ (event : Event). event.moment == t) (λ event. ties-same t event.moment) events

-- the lines of sorted changes are those of all moments
pub sorted_lines : (events sorted : List Event) → IsPermutation events sorted → IsNonDecreasingBy moment_of sorted
    → IsStableByKey moment_of nat_cmp events sorted → lines_from 0 sorted ≡ change_lines events
sorted_lines events sorted moved order stable =
    let from : IsSortedFrom 0 sorted = IsSortedFrom-sorted sorted order in
    let moments : moments_from 0 sorted ≡ rising (map moment_of events) =
    same_numbers 0 0 (moments_from 0 sorted) (rising (map moment_of events)) (moments_from-increasing 0 sorted from)
    (rising-increasing (map moment_of events))
    (λ t has. rising-has t (map moment_of events) (exchanged t sorted events (IsPermutation-sym events sorted moved) (in_moments 0 t sorted has)))
    (λ t has. moments-have 0 t sorted (λ same. omega (arith, same)) (exchanged t events sorted moved (in_rising t (map moment_of events) has))) in
    grouped 0 sorted from
    ∙ ap (λ (es : List Event). map event_line es ++ flat_map (moment_lines sorted) (moments_from 0 sorted)) (none_at_zero sorted)
    ∙ ap (λ (ts : List ℕ). flat_map (moment_lines sorted) ts) moments
    ∙ agree sorted events (stable_at events sorted stable) (rising (map moment_of events))
  where
    exchanged : (t : ℕ) (these those : List Event) → IsPermutation these those → Has t (map moment_of these) → Has t (map moment_of those)
    exchanged t these those moved has =
        to_has t (map moment_of those)
        (Contains-permutation (map moment_of these) (map moment_of those) t (IsPermutation-map moment_of these those moved) (from_has t (map moment_of these) has))
