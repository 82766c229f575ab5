-- The end of an attribute, byte by byte.
use Rattle.std.proofs.Common.{◌≡◌, ℕ, suc, ◌+◌, true, false, List, [], ◌∷◌, Option, Some, None, refl, sym, ap, ◌∙◌, arith, zero-add}
use Rattle.std.specs.Option.{option_map}
use Rattle.td_syntax.specs.declared.attribute.Place.{Place}
use Rattle.td_syntax.specs.Lexical.{closes, behind_byte, end_behind}

-- that many bytes further on
abbrev pub later : ℕ → Option ℕ → Option ℕ
later i None = None
later i (Some k) = Some (i + k)

pub at_begin : (r : Option ℕ) → later 0 r ≡ r
at_begin None = refl
at_begin (Some k) = ap (λ (n : ℕ). Some n) (zero-add k)

one_on : (i : ℕ) (r : Option ℕ) → later i (option_map (λ k. suc k) r) ≡ later (suc i) r
one_on i None = refl
one_on i (Some k) = let e : i + suc k ≡ suc i + k = omega arith in ap (λ (n : ℕ). Some n) e

pub goes_on : (p : Place) (i b : ℕ) (bs : List ℕ) (total : Option ℕ) → closes p b ≡ false → later i (end_behind p (b ∷ bs)) ≡ total → later (suc i) (end_behind (behind_byte p b) bs) ≡ total
unfolding end_behind
goes_on p i b bs total e h =
    let rest : later i (option_map (λ k. suc k) (end_behind (behind_byte p b) bs)) ≡ total = rw e at h in
    sym (one_on i (end_behind (behind_byte p b) bs)) ∙ rest

pub closes_here : (p : Place) (i b : ℕ) (bs : List ℕ) (total : Option ℕ) → closes p b ≡ true → later i (end_behind p (b ∷ bs)) ≡ total → Some (suc i) ≡ total
unfolding end_behind
closes_here p i b bs total e h =
    let here : Some (i + 1) ≡ total = rw e at h in
    let same : suc i ≡ i + 1 = omega arith in
    ap (λ (n : ℕ). Some n) same ∙ here

pub never_closes : (p : Place) (i : ℕ) (total : Option ℕ) → later i (end_behind p []) ≡ total → None ≡ total
unfolding end_behind
never_closes p i total h = h
