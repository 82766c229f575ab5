-- The moments of two lists of changes in one.
use Rattle.std.proofs.Common.{◌≡◌, ℕ, zero, suc, ◌<◌, ◌≤◌, ◌⊎◌, List, [], ◌∷◌, length, map, get_or, refl, arith, ap, ◌∙◌, sym, inl, inr, Some, None, min, subst}
use Rattle.std.specs.Prelude.{nat_lt, ◌==◌, if◌then◌else◌}
use Rattle.std.specs.List.{Contains}
use Rattle.std.proofs.lemmas.Bool.{cases_lt, cases_eq, lt-ltb, le-ltb, eq-eqb, ne_eqb}
use Rattle.std.proofs.lemmas.List.Elements.{Contains-append_cases}
use Rattle.td_gates.specs.declared.primitives.Level.{Level}
use Rattle.td_gates.specs.declared.timing.Change.{Change}
use Rattle.td_gates.specs.Wave.{Wave, IsRising}
use Rattle.td_run.specs.Waves.{change_moments}
use Rattle.td_run.proofs.Sampling.{IsIncreasingFrom}
use Rattle.td_ternary.specs.Prospects.{earlier}
use Rattle.td_ternary.specs.Merging.{first_moment, rest_behind}

-- a moment more, where it isn't there
abbrev pub insert : ℕ → List ℕ → List ℕ
insert t [] = t ∷ []
insert t (u ∷ us) = if nat_lt t u then t ∷ u ∷ us else (if t == u then u ∷ us else u ∷ insert t us)

-- the moments of both
abbrev pub merge : List ℕ → List ℕ → List ℕ
merge [] us = us
merge (t ∷ ts) us = insert t (merge ts us)

abbrev pub moments : List Change → List ℕ
moments changes = map (λ change. change.moment) changes

sooner : (n m : ℕ) (ts : List ℕ) → n ≤ m → IsIncreasingFrom m ts → IsIncreasingFrom n ts
sooner n m [] less increasing = tt
sooner n m (t ∷ ts) less increasing = (omega (arith, increasing.0), increasing.1)

pub rising-moments : (n : ℕ) (level : Level) (changes : List Change) → IsRising n level changes → IsIncreasingFrom n (moments changes)
rising-moments n level [] rising = tt
rising-moments n level (change ∷ later) rising = (rising.0, rising-moments (suc change.moment) change.level later rising.2)

insert-increasing : (n t : ℕ) (us : List ℕ) → n ≤ t → IsIncreasingFrom n us → IsIncreasingFrom n (insert t us)
insert-increasing n t [] from increasing = (from, tt)
insert-increasing n t (u ∷ us) from increasing = elim (cases_lt t u) [
  | inl first ↦ rw (lt-ltb t u first) (from, (first, increasing.1))
  | inr on ↦ rw (le-ltb t u on) (elim (cases_eq t u) [
    | inl same ↦ rw (eq-eqb t u same) increasing
    | inr other ↦ rw (ne_eqb t u other) (increasing.0, insert-increasing (suc u) t us (omega arith) increasing.1)
  ])
]

pub merge-increasing : (n : ℕ) (ts us : List ℕ) → IsIncreasingFrom n ts → IsIncreasingFrom n us → IsIncreasingFrom n (merge ts us)
merge-increasing n [] us these those = those
merge-increasing n (t ∷ ts) us these those =
    insert-increasing n t (merge ts us) these.0 (merge-increasing n ts us (sooner n (suc t) ts (omega (arith, these.0)) these.1) those)

-- a moment before all others
insert-first : (t : ℕ) (us : List ℕ) → IsIncreasingFrom (suc t) us → insert t us ≡ t ∷ us
insert-first t [] later = refl
insert-first t (u ∷ us) later = rw (lt-ltb t u later.0) refl

-- a moment after the first one
insert-behind : (t u : ℕ) (us : List ℕ) → u < t → insert t (u ∷ us) ≡ u ∷ insert t us
insert-behind t u us after = rw (le-ltb t u (omega arith), ne_eqb t u (λ same. omega (arith, same))) refl

insert-same : (t : ℕ) (us : List ℕ) → insert t (t ∷ us) ≡ t ∷ us
insert-same t us = rw (le-ltb t t (omega arith), eq-eqb t t refl) refl

-- the first moment is one of these
merge-left : (t : ℕ) (ts us : List ℕ) → IsIncreasingFrom (suc t) ts → IsIncreasingFrom (suc t) us → merge (t ∷ ts) us ≡ t ∷ merge ts us
merge-left t ts us these those = insert-first t (merge ts us) (merge-increasing (suc t) ts us these those)

-- it is one of those
merge-right : (u : ℕ) (ts us : List ℕ) → IsIncreasingFrom (suc u) ts → merge ts (u ∷ us) ≡ u ∷ merge ts us
merge-right u [] us these = refl
merge-right u (t ∷ ts) us these =
    ap (insert t) (merge-right u ts us (sooner (suc u) (suc t) ts (omega (arith, these.0)) these.1))
    ∙ insert-behind t u (merge ts us) these.0

-- it is one of both
merge-both : (t : ℕ) (ts us : List ℕ) → IsIncreasingFrom (suc t) ts → merge (t ∷ ts) (t ∷ us) ≡ t ∷ merge ts us
merge-both t ts us these = ap (insert t) (merge-right t ts us these) ∙ insert-same t (merge ts us)

-- ---- the next moment of two lists of changes

same_moment : (a b : ℕ) → Some a ≡ Some b → a ≡ b
same_moment a b same = Prim.cc

none_some : (m : ℕ) → None ≡ Some m → ⊥
none_some m same = Prim.cc

abbrev IsNext : ℕ → List Change → List Change → Type 0
IsNext m rest other = merge (moments rest) (moments other) ≡ m ∷ merge (moments (rest_behind m rest)) (moments (rest_behind m other))

next_left : (change : Change) (later : List Change) → IsIncreasingFrom (suc change.moment) (moments later) → IsNext change.moment (change ∷ later) []
next_left change later these = rw (eq-eqb change.moment change.moment refl) (merge-left change.moment (moments later) [] these tt)

next_right : (change : Change) (later : List Change) → IsNext change.moment [] (change ∷ later)
next_right change later = rw (eq-eqb change.moment change.moment refl) refl

next_either : (a b : Change) (these those : List Change) → IsIncreasingFrom (suc a.moment) (moments these) → IsIncreasingFrom (suc b.moment) (moments those)
    → IsNext (min a.moment b.moment) (a ∷ these) (b ∷ those)
next_either a b these those left right = elim (cases_lt a.moment b.moment) [
  | inl sooner_is ↦
      let first : min a.moment b.moment ≡ a.moment = omega arith in
      let apart = ne_eqb b.moment a.moment (λ same. omega (arith, same)) in
      rw (first, eq-eqb a.moment a.moment refl, apart) (merge-left a.moment (moments these) (moments (b ∷ those)) left (sooner_is, right))
  | inr on ↦ elim (cases_eq a.moment b.moment) [
    | inl same ↦
        let first : min a.moment b.moment ≡ b.moment = omega (arith, same) in
        rw (first, same, eq-eqb b.moment b.moment refl) (merge-both b.moment (moments these) (moments those) (rw same at left))
    | inr other ↦
        let first : min a.moment b.moment ≡ b.moment = omega arith in
        let behind : b.moment < a.moment = omega arith in
        let apart = ne_eqb a.moment b.moment other in
        rw (first, apart, eq-eqb b.moment b.moment refl)
        (merge-right b.moment (moments (a ∷ these)) (moments those) (behind, left))
  ]
]

-- the next moment of both is the first of all, and what is left comes after it
pub merge-next : (n m : ℕ) (rest other : List Change) → IsIncreasingFrom n (moments rest) → IsIncreasingFrom n (moments other)
    → earlier (first_moment rest) (first_moment other) ≡ Some m → IsNext m rest other
merge-next n m [] [] left right is = absurd (none_some m is)
merge-next n m [] (b ∷ those) left right is =
    let now : b.moment ≡ m = same_moment b.moment m is in subst (λ t. IsNext t [] (b ∷ those)) now (next_right b those)
merge-next n m (a ∷ these) [] left right is =
    let now : a.moment ≡ m = same_moment a.moment m is in subst (λ t. IsNext t (a ∷ these) []) now (next_left a these left.1)
merge-next n m (a ∷ these) (b ∷ those) left right is =
    let now : min a.moment b.moment ≡ m = same_moment (min a.moment b.moment) m is in
    subst (λ t. IsNext t (a ∷ these) (b ∷ those)) now (next_either a b these those left.1 right.1)

-- ---- all moments are there

here : (t u : ℕ) (us : List ℕ) → u ≡ t → Contains (u ∷ us) t
here t u us is = (0, omega arith, is)

there : (t u : ℕ) (us : List ℕ) → Contains us t → Contains (u ∷ us) t
there t u us found = (suc found.0, omega (arith, found.1), found.2)

in_either : (t u : ℕ) (us : List ℕ) → Contains (u ∷ us) t → (u ≡ t) ⊎ Contains us t
in_either t u us found = elim found.0 as (λ k. k < length (u ∷ us) → get_or (u ∷ us) k t ≡ t → (u ≡ t) ⊎ Contains us t) [
  | zero ↦ λ within is. inl is
  | suc k ↦ λ within is. inr (k, omega arith, is)
] found.1 found.2

insert-here : (t : ℕ) (us : List ℕ) → Contains (insert t us) t
insert-here t [] = here t t [] refl
insert-here t (u ∷ us) = elim (cases_lt t u) [
  | inl first ↦ rw (lt-ltb t u first) (here t t (u ∷ us) refl)
  | inr on ↦ rw (le-ltb t u on) (elim (cases_eq t u) [
    | inl same ↦ rw (eq-eqb t u same) (here t u us (sym same))
    | inr other ↦ rw (ne_eqb t u other) (there t u _ (insert-here t us))
  ])
]

insert-keeps : (v t : ℕ) (us : List ℕ) → Contains us v → Contains (insert t us) v
insert-keeps v t [] found = there v t [] found
insert-keeps v t (u ∷ us) found = elim (cases_lt t u) [
  | inl first ↦ rw (lt-ltb t u first) (there v t (u ∷ us) found)
  | inr on ↦ rw (le-ltb t u on) (elim (cases_eq t u) [
    | inl same ↦ rw (eq-eqb t u same) found
    | inr other ↦ rw (ne_eqb t u other) (elim (in_either v u us found) [
      | inl is ↦ here v u _ is
      | inr further ↦ there v u _ (insert-keeps v t us further)
    ])
  ])
]

merge-left_keeps : (t : ℕ) (ts us : List ℕ) → Contains ts t → Contains (merge ts us) t
merge-left_keeps t [] us found = absurd (omega (arith, found.1))
merge-left_keeps t (s ∷ ts) us found = elim (in_either t s ts found) [
  | inl is ↦ rw is (insert-here t (merge ts us))
  | inr further ↦ insert-keeps t s (merge ts us) (merge-left_keeps t ts us further)
]

merge-right_keeps : (t : ℕ) (ts us : List ℕ) → Contains us t → Contains (merge ts us) t
merge-right_keeps t [] us found = found
merge-right_keeps t (s ∷ ts) us found = insert-keeps t s (merge ts us) (merge-right_keeps t ts us found)

-- those at which one of two inputs changes
pub merge-keeps : (left right : Wave) (t : ℕ) → Contains (change_moments (left ∷ right ∷ [])) t
    → Contains (merge (moments left.changes) (moments right.changes)) t
merge-keeps left right t found =
    elim (Contains-append_cases (moments left.changes) (change_moments (right ∷ [])) t found) [
      | inl first ↦ merge-left_keeps t (moments left.changes) (moments right.changes) first
      | inr rest ↦ elim (Contains-append_cases (moments right.changes) [] t rest) [
        | inl second ↦ merge-right_keeps t (moments left.changes) (moments right.changes) second
        | inr none ↦ absurd (omega (arith, none.1))
      ]
    ]
