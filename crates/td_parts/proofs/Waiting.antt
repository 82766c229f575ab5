-- The places of parts that may be split wait in the queue.
use Rattle.std.proofs.Common.{◌≡◌, ◌<◌, ◌+◌, ℕ, List, [], ◌∷◌, ◌++◌, length, set, Some, None, Option, sym, ap, subst, refl, ◌∙◌, arith, inl, inr}
use Rattle.std.specs.Prelude.{slice_get, All, IfSome, MatchOption, IsPermutation}
use Rattle.std.specs.List.{Contains}
use Rattle.std.proofs.lemmas.List.Elements.{All-nil, All-cons, All-head, All-tail, All-contains, All-map, All-weaker, Contains-append_left, Contains-append_right, Contains-push_cases, Contains-append_cases}
use Rattle.std.proofs.lemmas.List.Sorted.{All-permutation, Contains-permutation}
use Rattle.td_gates.proofs.Places.{none-some, some-same, slice_get-set_cases, slice_get-push_cases, slice_get-map_some, Contains-slice_get, slice_get-Contains, All-from_contains}
use Rattle.td_circuit.specs.Settings.{Setting}
use Rattle.td_search.specs.declared.strategy.Strategy.{Strategy}
use Rattle.td_domain.specs.declared.cubes.Trit.{Trit}
use Rattle.td_domain.specs.declared.cubes.Trit.TheVariants.{Free}
use Rattle.td_join.proofs.Restricting.{order, same, apart}
use Rattle.td_parts.specs.declared.split.Split.{Split}
use Rattle.td_parts.specs.declared.part.Part.{Part}
use Rattle.td_parts.specs.declared.queue.Queue.{Queue}
use Rattle.td_parts.specs.Queues.{places_of, AreBelow, AreWaiting, AreWaitingBut}
use Rattle.td_parts.specs.Sharing.{IsFreeIn}
use Rattle.td_parts.specs.Splits.{IsSplitFree, IsTruePart, IsUnsplit, cube_of, cubes_of}
use Rattle.td_parts.specs.Whole.{IsWhole}

no_member : (n : ℕ) → Contains [] n → ⊥
no_member n there = let less = there.1 in omega arith

first_in : (place : ℕ) (places more : List ℕ) → IsPermutation (place ∷ places) more → Contains more place
first_in place places more moved =
    Contains-permutation (place ∷ places) more place moved (Contains-append_left (place ∷ []) places place (0, omega arith, refl))

others_in : (place : ℕ) (places more : List ℕ) (other : ℕ) → IsPermutation (place ∷ places) more → Contains places other → Contains more other
others_in place places more other moved there =
    Contains-permutation (place ∷ places) more other moved (Contains-append_right (place ∷ []) places other there)

-- the place of a part joins the queue
pub joined_below : (count place : ℕ) (old new : Queue) → place < count → IsPermutation (place ∷ places_of old) (places_of new) → AreBelow count old
    → AreBelow count new
joined_below count place old new less moved below =
    All-permutation (λ (other : ℕ). other < count) (place ∷ places_of old) (places_of new) moved
    (All-cons (λ (other : ℕ). other < count) place (places_of old) less below)

pub added_below : (count : ℕ) (old new : Queue) → IsPermutation (count ∷ places_of old) (places_of new) → AreBelow count old → AreBelow (count + 1) new
added_below count old new moved below =
    joined_below (count + 1) count old new (omega arith) moved
    (All-weaker (λ (other : ℕ). other < count) (λ (other : ℕ). other < count + 1) (λ other less. omega (arith, less)) (places_of old) below)

-- a part in place of another, whose place joins the queue
pub narrowed_waits : (parts : List Part) (place : ℕ) (part : Part) (old new : Queue) → AreWaitingBut place parts old
    → IsPermutation (place ∷ places_of old) (places_of new) → AreWaiting (set parts place part) new
narrowed_waits parts place part old new waiting moved other that split stands splits = elim (slice_get-set_cases parts place part other that stands) [
  | inl here ↦ subst (λ (n : ℕ). Contains (places_of new) n) (sym here.0) (first_in place (places_of old) (places_of new) moved)
  | inr there ↦ others_in place (places_of old) (places_of new) other moved (waiting other that split there.0 there.1 splits)
]

-- one part more
pub added_waits : (parts : List Part) (part : Part) (old new : Queue) → AreWaiting parts old
    → IsPermutation (length parts ∷ places_of old) (places_of new) → AreWaiting (parts ++ part ∷ []) new
added_waits parts part old new waiting moved other that split stands splits = elim (slice_get-push_cases parts part other that stands) [
  | inl front ↦ others_in (length parts) (places_of old) (places_of new) other moved (waiting other that split front splits)
  | inr last ↦ subst (λ (n : ℕ). Contains (places_of new) n) (sym last.0) (first_in (length parts) (places_of old) (places_of new) moved)
]

-- a place that leaves the queue
pub taken_waits : (parts : List Part) (place : ℕ) (old new : Queue) → AreWaiting parts old → IsPermutation (places_of old) (place ∷ places_of new)
    → AreWaitingBut place parts new
taken_waits parts place old new waiting moved other that split differ stands splits =
    let there = Contains-permutation (places_of old) (place ∷ places_of new) other moved (waiting other that split stands splits) in
    elim (Contains-append_cases (place ∷ []) (places_of new) other there) [
      | inl first ↦ elim (Contains-push_cases [] place other first) [
        | inl none ↦ absurd (no_member other none)
        | inr e ↦ absurd (differ (sym e))
      ]
      | inr rest ↦ rest
    ]

pub taken_below : (count place : ℕ) (old new : Queue) → IsPermutation (places_of old) (place ∷ places_of new) → AreBelow count old
    → (place < count) × AreBelow count new
taken_below count place old new moved below =
    let all = All-permutation (λ (other : ℕ). other < count) (places_of old) (place ∷ places_of new) moved below in
    (All-head (λ (other : ℕ). other < count) place (places_of new) all, All-tail (λ (other : ℕ). other < count) place (places_of new) all)

-- whose part may not be split
pub passed_waits : (parts : List Part) (place : ℕ) (part : Part) (queue : Queue) → AreWaitingBut place parts queue → slice_get parts place ≡ Some part
    → part.split ≡ None → AreWaiting parts queue
passed_waits parts place part queue waiting at none other that split stands splits = elim (order other place) [
  | apart differ ↦ waiting other that split differ stands splits
  | same e ↦
      let here : part ≡ that = some-same part that (sym at ∙ ap (λ (n : ℕ). slice_get parts n) (sym e) ∙ stands) in
      absurd (none-some split (sym none ∙ ap (λ (x : Part). x.split) here ∙ splits))
]

-- ---- an empty queue

pub none_below : (count : ℕ) (queue : Queue) → places_of queue ≡ [] → AreBelow count queue
none_below count queue empty =
    subst (λ (places : List ℕ). All (λ (place : ℕ). place < count) places) (sym empty) (All-nil (λ (place : ℕ). place < count))

not_split : (split : Option Split) → ((there : Split) → split ≡ Some there → ⊥) → split ≡ None
not_split None none = refl
not_split (Some split) none = absurd (none split refl)

pub none_waits : (parts : List Part) (queue : Queue) → AreWaiting parts queue → places_of queue ≡ [] → All IsUnsplit parts
none_waits parts queue waiting empty = All-from_contains IsUnsplit parts (λ part there.
    let at = Contains-slice_get parts part there in
    not_split part.split (λ split splits. no_member at.0 (subst (λ (places : List ℕ). Contains places at.0) empty (waiting at.0 part split at.1 splits))))

-- ---- one part

pub begun_below : (parts : List Part) (old new : Queue) → length parts ≡ 1 → places_of old ≡ [] → IsPermutation (0 ∷ places_of old) (places_of new)
    → AreBelow (length parts) new
begun_below parts old new one empty moved = joined_below (length parts) 0 old new (omega (arith, one)) moved (none_below (length parts) old empty)

pub begun_waits : (parts : List Part) (part : Part) (old new : Queue) → parts ≡ part ∷ [] → IsPermutation (0 ∷ places_of old) (places_of new)
    → AreWaiting parts new
begun_waits parts part old new one moved =
    subst (λ (those : List Part). AreWaiting those new) (sym one)
    (added_waits [] part old new (λ place that split stands splits. absurd (none-some that stands)) moved)

-- ---- what a part says

module _ (strategy : Strategy) (given : Setting) where
  whole_one : (part : Part) → IsTruePart strategy given part → IsUnsplit part → IsWhole strategy given part.cube
  whole_one part true none = subst
      (λ (split : Option Split). MatchOption split (IsWhole strategy given part.cube) (λ split. slice_get part.cube split.position ≡ Some Free)) none true

  pub whole_each : (parts : List Part) → All (IsTruePart strategy given) parts → All IsUnsplit parts → All (IsWhole strategy given) (cubes_of parts)
  whole_each parts true none = All-map (IsWhole strategy given) cube_of parts (All-from_contains (λ part. IsWhole strategy given part.cube) parts (λ part there.
      whole_one part (All-contains (IsTruePart strategy given) parts part true there) (All-contains IsUnsplit parts part none there)))

  free_in : (cube : List Trit) (split : Option Split) → MatchOption split (IsWhole strategy given cube) (λ split. slice_get cube split.position ≡ Some Free)
      → IfSome split (λ split. slice_get cube split.position ≡ Some Free)
  free_in cube None true = tt
  free_in cube (Some split) true = true

  pub free_each : (parts : List Part) → All (IsTruePart strategy given) parts → All IsSplitFree parts
  free_each parts true = All-weaker (IsTruePart strategy given) IsSplitFree (λ part one. free_in part.cube part.split one) parts true

pub free_at : (parts : List Part) (place : ℕ) (part : Part) (split : Split) → All IsSplitFree parts → slice_get parts place ≡ Some part
    → part.split ≡ Some split → IsFreeIn (cubes_of parts) place split.position
free_at parts place part split free at splits cube stands =
    let whole : part.cube ≡ cube = some-same part.cube cube (sym (slice_get-map_some cube_of parts place part at) ∙ stands) in
    let of_part = All-contains IsSplitFree parts part free (slice_get-Contains parts place part at) in
    subst (λ (trits : List Trit). slice_get trits split.position ≡ Some Free) whole
    (subst (λ (o : Option Split). IfSome o (λ split. slice_get part.cube split.position ≡ Some Free)) splits of_part)
