-- Merges: two lists of pieces as one, and the sayings of a net as pieces.
use Rattle.std.proofs.Common.{◌≡◌, ℕ, zero, suc, ◌+◌, ◌-◌, ◌<◌, ◌≤◌, min, Bool, true, false, List, [], ◌∷◌, ◌++◌, length, take, drop, refl, arith, ap, sym, ◌∙◌, subst, inl, inr, Option, Some, None, ◌⊎◌}
use Rattle.std.specs.Prelude.{nat_le, ◌&&◌, ◌==◌, slice_get, cond}
use Rattle.std.proofs.lemmas.Bool.{cases_lt, leb-true, le-leb, lt-leb, eqb-true, and_parts}
use Rattle.std.proofs.lemmas.List.{take_all, length-drop}
use Rattle.td_gates.specs.declared.counts.Counts.{Counts}
use Rattle.td_gates.proofs.Places.{some-same, slice_get-some}
use Rattle.td_spans.specs.declared.pieces.Piece.{Piece}
use Rattle.td_spans.specs.Times.{is_by}
use Rattle.td_spans.specs.Clauses.{is_within}
use Rattle.td_spans.specs.Pieces.{no_counts, counts_or, is_nothing, joined, nearest, next_index, two_at, piece_at}

drop_suc : {A : Type 0} (xs : List A) (n : ℕ) (x : A) → slice_get xs n ≡ Some x → drop n xs ≡ x ∷ drop (suc n) xs
drop_suc [] n x e = cc
drop_suc (y ∷ xs) zero x e = let first : y ≡ x = cc in ap (λ z. z ∷ xs) first
drop_suc (y ∷ xs) (suc n) x e = drop_suc xs n x e

pub drop_get : {A : Type 0} (xs : List A) (n : ℕ) (x : A) → slice_get xs n ≡ Some x → drop n xs ≡ x ∷ drop (n + 1) xs
drop_get xs n x e = let next : suc n ≡ n + 1 = omega arith in drop_suc xs n x e ∙ ap (λ k. x ∷ drop k xs) next

pub rest_all : {A : Type 0} (xs : List A) (n : ℕ) → take (length xs - n) (drop n xs) ≡ drop n xs
rest_all xs n = take_all (length xs - n) (drop n xs) (omega (arith, length-drop n xs))

-- what is counted goes on after pieces
pub counts_append : (pieces more : List Piece) (rest : Counts) (place : ℕ) → counts_or (pieces ++ more) rest place ≡ counts_or pieces (counts_or more rest place) place
counts_append [] more rest place = refl
counts_append (piece ∷ pieces) more rest place = by (is_by place piece.last) (counts_append pieces more rest place)
  where
    by : (b : Bool) → counts_or (pieces ++ more) rest place ≡ counts_or pieces (counts_or more rest place) place
        → cond b piece.counts (counts_or (pieces ++ more) rest place) ≡ cond b piece.counts (counts_or pieces (counts_or more rest place) place)
    by true same = refl
    by false same = same

pub nothing_is : (counts : Counts) → is_nothing counts ≡ true → counts ≡ no_counts
nothing_is counts is =
    let zeros = and_parts (counts.zeros == 0) (counts.ones == 0 && counts.unknowns == 0) is in
    let others = and_parts (counts.ones == 0) (counts.unknowns == 0) zeros.1 in
    let z : counts.zeros ≡ 0 = eqb-true counts.zeros 0 zeros.0 in
    let o : counts.ones ≡ 0 = eqb-true counts.ones 0 others.0 in
    let u : counts.unknowns ≡ 0 = eqb-true counts.unknowns 0 others.1 in
    ap (λ (n : ℕ). record { zeros = n; ones = counts.ones; unknowns = counts.unknowns }) z
    ∙ ap (λ (n : ℕ). record { zeros = 0; ones = n; unknowns = counts.unknowns }) o
    ∙ ap (λ (n : ℕ). record { zeros = 0; ones = 0; unknowns = n }) u

pub joined_none : (adds : Bool) (one : Counts) → joined adds one no_counts ≡ one
joined_none adds one = by (is_nothing one) refl
  where
    by : (b : Bool) → is_nothing one ≡ b → cond b no_counts one ≡ one
    by true is = sym (nothing_is one is)
    by false is = refl

both_by : (one other : Option ℕ) (place : ℕ) → is_by place (nearest one other) ≡ (is_by place one && is_by place other)
both_by None other place = refl
both_by (Some one) None place = by (nat_le place one)
  where
    by : (b : Bool) → b ≡ (b && true)
    by true = refl
    by false = refl
both_by (Some one) (Some other) place = elim (cases_lt one place) [
  | inl over ↦ rw (lt-leb place one over, lt-leb place (min one other) (omega (arith, over))) refl
  | inr on ↦ elim (cases_lt other place) [
    | inl over ↦ rw (le-leb place one on, lt-leb place other over, lt-leb place (min one other) (omega (arith, over))) refl
    | inr too ↦ rw (le-leb place one on, le-leb place other too, le-leb place (min one other) (omega (arith, on, too))) refl
  ]
]

by_end : (one other : Option ℕ) (place : ℕ) → is_within one other ≡ true → is_by place one ≡ true → is_by place other ≡ true
by_end one None place within by = refl
by_end None (Some other) place within by = cc
by_end (Some one) (Some other) place within by =
    let low = leb-true one other within in let here = leb-true place one by in le-leb place other (omega arith)

not_both : (b : Bool) → b ≡ true → b ≡ false → ⊥
not_both true is not = cc
not_both false is not = cc

-- where one of two pieces is over, what is counted is so after it
goes_on : (pieces : List Piece) (i : ℕ) (piece : Piece) (other : Option ℕ) (place : ℕ) → slice_get pieces i ≡ Some piece
    → (is_by place piece.last && is_by place other) ≡ false
    → counts_or (drop i pieces) no_counts place ≡ counts_or (drop (next_index i (is_within piece.last other)) pieces) no_counts place
goes_on pieces i piece other place at over = by (is_within piece.last other) refl
  where
    past : (b : Bool) → is_by place piece.last ≡ b → is_within piece.last other ≡ true → b ≡ false
    past true is within = absurd (not_both (is_by place piece.last && is_by place other) (rw (is, by_end piece.last other place within is) refl) over)
    past false is within = refl

    by : (b : Bool) → is_within piece.last other ≡ b → counts_or (drop i pieces) no_counts place ≡ counts_or (drop (next_index i b) pieces) no_counts place
    by true within =
        ap (λ ps. counts_or ps no_counts place) (drop_get pieces i piece at)
        ∙ ap (λ b. cond b piece.counts (counts_or (drop (i + 1) pieces) no_counts place)) (past (is_by place piece.last) refl within)
    by false within = refl

-- one step of a merge
step : (adds : Bool) (one other : List Piece) (i j : ℕ) (first second : Piece) (place : ℕ) → slice_get one i ≡ Some first → slice_get other j ≡ Some second
    → joined adds (counts_or (drop i one) no_counts place) (counts_or (drop j other) no_counts place)
    ≡ (cond (is_by place (nearest first.last second.last)) (joined adds first.counts second.counts)
    (joined adds (counts_or (drop (next_index i (is_within first.last second.last)) one) no_counts place)
    (counts_or (drop (next_index j (is_within second.last first.last)) other) no_counts place)))
step adds one other i j first second place at_i at_j =
    by (is_by place first.last) (is_by place second.last) refl refl
  where
    goal : Bool → Type 0
    goal b = joined adds (counts_or (drop i one) no_counts place) (counts_or (drop j other) no_counts place)
        ≡ (cond b (joined adds first.counts second.counts)
        (joined adds (counts_or (drop (next_index i (is_within first.last second.last)) one) no_counts place)
        (counts_or (drop (next_index j (is_within second.last first.last)) other) no_counts place)))

    swap : (a b : Bool) → (a && b) ≡ (b && a)
    swap true true = refl
    swap true false = refl
    swap false true = refl
    swap false false = refl

    over : (is_by place first.last && is_by place second.last) ≡ false → goal false
    over not = rw (goes_on one i first second.last place at_i not, goes_on other j second first.last place at_j (swap (is_by place second.last) (is_by place first.last) ∙ not)) refl

    on : is_by place first.last ≡ true → is_by place second.last ≡ true → goal true
    on is_first is_second = rw (drop_get one i first at_i, drop_get other j second at_j, is_first, is_second) refl

    same_goal : (b b' : Bool) → b ≡ b' → goal b' → goal b
    same_goal b b' is at = subst goal (sym is) at

    by : (a b : Bool) → is_by place first.last ≡ a → is_by place second.last ≡ b → goal (is_by place (nearest first.last second.last))
    by true true a b = same_goal (is_by place (nearest first.last second.last)) true (both_by first.last second.last place ∙ rw (a, b) refl) (on a b)
    by true false a b =
        let not : (is_by place first.last && is_by place second.last) ≡ false = rw (a, b) refl in
        same_goal (is_by place (nearest first.last second.last)) false (both_by first.last second.last place ∙ not) (over not)
    by false both a b =
        let not : (is_by place first.last && is_by place second.last) ≡ false = rw a refl in
        same_goal (is_by place (nearest first.last second.last)) false (both_by first.last second.last place ∙ not) (over not)

both_there : (one other : Option Piece) (first second : Piece) → two_at one other ≡ Some (first, second) → (one ≡ Some first) × (other ≡ Some second)
both_there None other first second is = cc
both_there (Some one) None first second is = cc
both_there (Some one) (Some other) first second is =
    let same : (one, other) ≡ (first, second) = some-same (one, other) (first, second) is in
    (ap (λ (p : Piece × Piece). Some p.0) same, ap (λ (p : Piece × Piece). Some p.1) same)

-- what a merge has so far
pub record IsMerging (adds : Bool) (one other : List Piece) (i j : ℕ) (pieces : List Piece) : Type 0 where
  pub low : i ≤ length one
  pub low_too : j ≤ length other
  pub same : (place : ℕ) → counts_or pieces (joined adds (counts_or (drop i one) no_counts place) (counts_or (drop j other) no_counts place)) place
      ≡ joined adds (counts_or one no_counts place) (counts_or other no_counts place)

within_either : (one other : Option ℕ) → is_within one other ≡ false → is_within other one ≡ true
within_either None None not = cc
within_either (Some one) None not = cc
within_either None (Some other) not = refl
within_either (Some one) (Some other) not = elim (cases_lt other one) [
  | inl less ↦ le-leb other one (omega (arith, less))
  | inr most ↦ absurd (not_both (nat_le one other) (le-leb one other most) not)
]

index_low : (pieces : List Piece) (i : ℕ) (piece : Piece) (over : Bool) → slice_get pieces i ≡ Some piece → next_index i over ≤ length pieces
index_low pieces i piece true at = let less = slice_get-some pieces i piece at in omega arith
index_low pieces i piece false at = let less = slice_get-some pieces i piece at in omega arith

-- one piece more
pub merge_on : (adds : Bool) (one other : List Piece) (i j i' j' : ℕ) (pieces pieces' : List Piece) (o : Option (Piece × Piece)) (first second piece : Piece)
    → o ≡ two_at (slice_get one i) (slice_get other j) → o ≡ Some (first, second)
    → i' ≡ next_index i (is_within first.last second.last) → j' ≡ next_index j (is_within second.last first.last)
    → piece.last ≡ nearest first.last second.last → piece.counts ≡ joined adds first.counts second.counts → pieces' ≡ pieces ++ piece ∷ []
    → IsMerging adds one other i j pieces → IsMerging adds one other i' j' pieces'
merge_on adds one other i j i' j' pieces pieces' o first second piece o_is is i_is j_is last counts pieces_is so =
    let there = both_there (slice_get one i) (slice_get other j) first second (sym o_is ∙ is) in
    let R : ℕ → Counts = λ place. joined adds (counts_or (drop (next_index i (is_within first.last second.last)) one) no_counts place)
    (counts_or (drop (next_index j (is_within second.last first.last)) other) no_counts place) in
    rw (i_is, j_is, pieces_is) (record {
      low = index_low one i first (is_within first.last second.last) there.0;
      low_too = index_low other j second (is_within second.last first.last) there.1;
      same = λ place.
          counts_append pieces (piece ∷ []) (R place) place
          ∙ ap (λ (l : Option ℕ). counts_or pieces (cond (is_by place l) piece.counts (R place)) place) last
          ∙ ap (λ (c : Counts). counts_or pieces (cond (is_by place (nearest first.last second.last)) c (R place)) place) counts
          ∙ ap (λ (c : Counts). counts_or pieces c place) (sym (step adds one other i j first second place there.0 there.1))
          ∙ so.same place;
    })

less_of : (a b i j : ℕ) (p q : Bool) → i < a → j < b → (p ≡ false → q ≡ true) → a - next_index i p + (b - next_index j q) < a - i + (b - j)
less_of a b i j true true low low' either = omega arith
less_of a b i j true false low low' either = omega arith
less_of a b i j false true low low' either = omega arith
less_of a b i j false false low low' either = let wrong = either refl in cc

pub merge_less : (one other : List Piece) (i j i' j' : ℕ) (o : Option (Piece × Piece)) (first second : Piece)
    → o ≡ two_at (slice_get one i) (slice_get other j) → o ≡ Some (first, second)
    → i' ≡ next_index i (is_within first.last second.last) → j' ≡ next_index j (is_within second.last first.last)
    → length one - i' + (length other - j') < length one - i + (length other - j)
merge_less one other i j i' j' o first second o_is is i_is j_is =
    let there = both_there (slice_get one i) (slice_get other j) first second (sym o_is ∙ is) in
    rw (i_is, j_is) (less_of (length one) (length other) i j (is_within first.last second.last) (is_within second.last first.last)
    (slice_get-some one i first there.0) (slice_get-some other j second there.1) (within_either first.last second.last))

pub merge_low : (one other : List Piece) (i j : ℕ) (o : Option (Piece × Piece)) (first second : Piece)
    → o ≡ two_at (slice_get one i) (slice_get other j) → o ≡ Some (first, second) → (i < length one) × (j < length other)
merge_low one other i j o first second o_is is =
    let there = both_there (slice_get one i) (slice_get other j) first second (sym o_is ∙ is) in
    (slice_get-some one i first there.0, slice_get-some other j second there.1)

drop_none : {A : Type 0} (xs : List A) (i : ℕ) → slice_get xs i ≡ None → drop i xs ≡ []
drop_none [] zero none = refl
drop_none [] (suc i) none = refl
drop_none (x ∷ xs) zero none = cc
drop_none (x ∷ xs) (suc i) none = drop_none xs i none

either_none : (one other : Option Piece) → two_at one other ≡ None → (one ≡ None) ⊎ (other ≡ None)
either_none None other none = inl refl
either_none (Some one) None none = inr refl
either_none (Some one) (Some other) none = cc

-- all pieces of two lists
pub merge_ends : (adds : Bool) (one other : List Piece) (i j : ℕ) (pieces pieces' pieces'' : List Piece) (o : Option (Piece × Piece))
    → o ≡ two_at (slice_get one i) (slice_get other j) → o ≡ None → pieces' ≡ pieces ++ drop i one → pieces'' ≡ pieces' ++ drop j other
    → IsMerging adds one other i j pieces
    → (place : ℕ) → counts_or pieces'' no_counts place ≡ joined adds (counts_or one no_counts place) (counts_or other no_counts place)
merge_ends adds one other i j pieces pieces' pieces'' o o_is is first_is second_is so place =
    ap (λ ps. counts_or ps no_counts place) (second_is ∙ ap (λ ps. ps ++ drop j other) first_is)
    ∙ counts_append (pieces ++ drop i one) (drop j other) no_counts place
    ∙ counts_append pieces (drop i one) (counts_or (drop j other) no_counts place) place
    ∙ ap (λ (c : Counts). counts_or pieces c place) (rest (either_none (slice_get one i) (slice_get other j) (sym o_is ∙ is)))
    ∙ so.same place
  where
    rest : ((slice_get one i ≡ None) ⊎ (slice_get other j ≡ None))
        → counts_or (drop i one) (counts_or (drop j other) no_counts place) place ≡ joined adds (counts_or (drop i one) no_counts place) (counts_or (drop j other) no_counts place)
    rest (inl none) = rw (drop_none one i none) refl
    rest (inr none) = rw (drop_none other j none) (sym (joined_none adds (counts_or (drop i one) no_counts place)))

-- the piece at an index counts at the places up to its last one
pub counts_here : (pieces : List Piece) (i place : ℕ) → is_by place (piece_at pieces i).last ≡ true → counts_or (drop i pieces) no_counts place ≡ (piece_at pieces i).counts
counts_here [] zero place by = refl
counts_here [] (suc i) place by = refl
counts_here (piece ∷ pieces) zero place by = rw by refl
counts_here (piece ∷ pieces) (suc i) place by = counts_here pieces i place by

pub index_there : (pieces : List Piece) (i place : ℕ) → is_by place (piece_at pieces i).last ≡ false → i < length pieces
index_there [] zero place over = cc
index_there [] (suc i) place over = cc
index_there (piece ∷ pieces) zero place over = omega arith
index_there (piece ∷ pieces) (suc i) place over = omega (arith, index_there pieces i place over)

-- a piece that is over counts no more
pub counts_after : (pieces : List Piece) (i place : ℕ) → is_by place (piece_at pieces i).last ≡ false
    → counts_or (drop i pieces) no_counts place ≡ counts_or (drop (suc i) pieces) no_counts place
counts_after [] zero place over = refl
counts_after [] (suc i) place over = refl
counts_after (piece ∷ pieces) zero place over = rw over refl
counts_after (piece ∷ pieces) (suc i) place over = counts_after pieces i place over

over_later : (last : Option ℕ) (place n : ℕ) → place ≤ n → is_by place last ≡ false → is_by n last ≡ false
over_later None place n low over = over
over_later (Some last) place n low over = elim (cases_lt last n) [
  | inl past ↦ lt-leb n last past
  | inr on ↦ absurd (not_both (nat_le place last) (le-leb place last (omega (arith, low, on))) over)
]

pub skip_on : (pieces : List Piece) (from index index' place : ℕ) → is_by place (piece_at pieces index).last ≡ false → index' ≡ next_index index true
    → ((n : ℕ) → place ≤ n → counts_or (drop from pieces) no_counts n ≡ counts_or (drop index pieces) no_counts n)
    → (n : ℕ) → place ≤ n → counts_or (drop from pieces) no_counts n ≡ counts_or (drop index' pieces) no_counts n
skip_on pieces from index index' place over index_is so n low =
    let next : suc index ≡ index' = omega (arith, index_is) in
    so n low ∙ counts_after pieces index n (over_later (piece_at pieces index).last place n low over) ∙ ap (λ k. counts_or (drop k pieces) no_counts n) next

pub skip_less : (pieces : List Piece) (index index' place : ℕ) → is_by place (piece_at pieces index).last ≡ false → index' ≡ next_index index true
    → length pieces - index' < length pieces - index
skip_less pieces index index' place over index_is = let less = index_there pieces index place over in omega (arith, index_is, less)
