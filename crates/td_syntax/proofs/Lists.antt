-- Reading a list member by member, as a loop does.
use Rattle.std.proofs.Common.{◌≡◌, ℕ, zero, suc, ◌+◌, ◌<◌, List, [], ◌∷◌, ◌++◌, length, map, Option, None, Some, Result, Ok, Err, refl, sym, ap, ◌∙◌, arith, append_assoc, length-append}
use Rattle.std.specs.Prelude.{MatchOption}
use Rattle.std.proofs.lemmas.List.{append-nil}
use Rattle.td_syntax.specs.declared.fault.Fault as code_fault
use Rattle.td_syntax.specs.Faults.{Fault, FaultKind, fault, reported, Fails, ◌>>=◌}
use Rattle.td_syntax.specs.Readers.{Remainder, ListStep, More, Final, Done, go_on, many_within, many_from}

abbrev pub left : Remainder → ℕ
left s = length s.stream.tokens

-- each member with more to come takes a token
pub record Shortens {A : Type 0} (step : ℕ → Remainder → Result (ListStep A × Remainder) Fault) : Type 0 where
  pub by : (k : ℕ) (s : Remainder) (a : A) (rest : Remainder) → step k s ≡ Ok (More a, rest) → left rest < left s

-- what was read before, and what is still read
abbrev pub with_front : {A : Type 0} → List A → Result (List A × Remainder) Fault → Result (List A × Remainder) Fault
with_front front read = read >>= λ x. Ok (front ++ x.0, x.1)

regroup : {A : Type 0} (front : List A) (a : A) (read : Result (List A × Remainder) Fault) → with_front front (read >>= λ x. Ok (a ∷ x.0, x.1)) ≡ with_front (front ++ a ∷ []) read
regroup {A} front a (Ok x) = ap (λ (xs : List A). Ok (xs, x.1)) (simp append_assoc)
regroup front a (Err f) = refl

length_map : {X A : Type 0} (view : X → A) (xs : List X) → length (map view xs) ≡ length xs
length_map view [] = refl
length_map view (x ∷ xs) = ap suc (length_map view xs)

pushed_length : {X A : Type 0} (view : X → A) (xs ys : List X) (a : A) → map view ys ≡ map view xs ++ a ∷ [] → length ys ≡ length xs + 1
pushed_length view xs ys a e = sym (length_map view ys) ∙ ap length e ∙ length-append (map view xs) (a ∷ []) ∙ ap (λ (n : ℕ). n + 1) (length_map view xs)

module _ {A : Type 0} (step : ℕ → Remainder → Result (ListStep A × Remainder) Fault) (shortens : Shortens step) where
  same_by : (f g : Remainder → Result (List A × Remainder) Fault) (k : ℕ) (s : Remainder) (r : Result (ListStep A × Remainder) Fault) → step k s ≡ r
      → ((rest : Remainder) → left rest < left s → f rest ≡ g rest)
      → (r >>= go_on f) ≡ (r >>= go_on g)
  same_by f g k s (Err e) is same = refl
  same_by f g k s (Ok x) e same = elim x.0 as (λ (y : ListStep A). x.0 ≡ y → go_on f (y, x.1) ≡ go_on g (y, x.1)) [
    | More a ↦ λ is. ap (λ (r : Result (List A × Remainder) Fault). r >>= λ y. Ok (a ∷ y.0, y.1)) (same x.1 (shortens.by k s a x.1 (e ∙ ap (λ (y : ListStep A). Ok (y, x.1)) is)))
    | Final a ↦ λ is. refl
    | Done ↦ λ is. refl
  ] refl

  enough : (m n k : ℕ) (s : Remainder) → left s < m → left s < n → many_within step k m s ≡ many_within step k n s
  unfolding many_within
  enough zero n k s a b = absurd (omega arith)
  enough (suc m) zero k s a b = absurd (omega arith)
  enough (suc m) (suc n) k s a b = same_by (many_within step (k + 1) m) (many_within step (k + 1) n) k s (step k s) refl (λ rest lt. enough m n (k + 1) rest (omega arith) (omega arith))

  pub unrolled : (k : ℕ) (s : Remainder) → many_from step k s ≡ (step k s >>= go_on (many_from step (k + 1)))
  unfolding many_from many_within
  unrolled k s = same_by (many_within step (k + 1) (left s)) (many_from step (k + 1)) k s (step k s) refl (λ rest lt. enough (left s) (suc (left rest)) (k + 1) rest lt (omega arith))

  module _ {X : Type 0} (view : X → A) where
    -- these members and what is still read from here are the whole
    abbrev pub SoFar : List X → Remainder → Result (List A × Remainder) Fault → Type 0
    SoFar xs s total = with_front (map view xs) (many_from step (length xs) s) ≡ total

    pub goes_on : (xs ys : List X) (s : Remainder) (a : A) (rest : Remainder) (total : Result (List A × Remainder) Fault) → step (length xs) s ≡ Ok (More a, rest)
        → map view ys ≡ map view xs ++ a ∷ [] → SoFar xs s total → SoFar ys rest total
    goes_on xs ys s a rest total h pushed so_far =
        let one : with_front (map view xs) (many_from step (length xs) s) ≡ with_front (map view xs ++ a ∷ []) (many_from step (length xs + 1) rest) = rw (unrolled (length xs) s, h) (regroup (map view xs) a (many_from step (length xs + 1) rest)) in
        rw (pushed, pushed_length view xs ys a pushed) (sym one ∙ so_far)

    pub final : (xs ys : List X) (s : Remainder) (a : A) (rest : Remainder) (total : Result (List A × Remainder) Fault) → step (length xs) s ≡ Ok (Final a, rest)
        → map view ys ≡ map view xs ++ a ∷ [] → SoFar xs s total → total ≡ Ok (map view ys, rest)
    final xs ys s a rest total h pushed so_far =
        let one : with_front (map view xs) (many_from step (length xs) s) ≡ Ok (map view xs ++ a ∷ [], rest) = rw (unrolled (length xs) s, h) refl in
        rw pushed (sym so_far ∙ one)

    pub is_done : (xs : List X) (s : Remainder) (rest : Remainder) (total : Result (List A × Remainder) Fault) → step (length xs) s ≡ Ok (Done, rest)
        → SoFar xs s total → total ≡ Ok (map view xs, rest)
    is_done xs s rest total h so_far =
        let one : with_front (map view xs) (many_from step (length xs) s) ≡ Ok (map view xs ++ [], rest) = rw (unrolled (length xs) s, h) refl in
        sym so_far ∙ one ∙ ap (λ (ys : List A). Ok (ys, rest)) (append-nil (map view xs))

    fails_by : (xs : List X) (s : Remainder) (line : ℕ) (k : Option FaultKind) (total : Result (List A × Remainder) Fault) → MatchOption k (Unit {0}) (λ kind. step (length xs) s ≡ Err (fault kind line))
        → SoFar xs s total → MatchOption k (Unit {0}) (λ kind. total ≡ Err (fault kind line))
    fails_by xs s line None total h so_far = tt
    fails_by xs s line (Some kind) total h so_far =
        let one : with_front (map view xs) (many_from step (length xs) s) ≡ Err (fault kind line) = rw (unrolled (length xs) s, h) refl in
        sym so_far ∙ one

    pub fails : (e : code_fault.Fault) (xs : List X) (s : Remainder) (total : Result (List A × Remainder) Fault) → Fails e (step (length xs) s) → SoFar xs s total → Fails e total
    fails e xs s total h so_far = fails_by xs s e.line (reported e.kind) total h so_far

pub begins : {A : Type 0} (read : Result (List A × Remainder) Fault) → with_front [] read ≡ read
begins (Ok x) = refl
begins (Err f) = refl

-- what is seen as it is
abbrev pub same : {A : Type 0} → A → A
same x = x

pub map_same : {A : Type 0} (xs : List A) → map same xs ≡ xs
map_same [] = refl
map_same {A} (x ∷ xs) = ap (λ (ys : List A). x ∷ ys) (map_same xs)
