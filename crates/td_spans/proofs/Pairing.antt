-- Pairing: clauses whose literals no admitted pair of a cube makes false at once are true.
use Rattle.std.proofs.Common.{◌≡◌, ℕ, zero, suc, ◌+◌, ◌-◌, ◌*◌, ◌<◌, ◌≤◌, Bool, true, false, List, [], ◌∷◌, length, set, refl, arith, ap, sym, ◌∙◌, subst, inl, inr, Option, Some, None}
use Rattle.std.specs.Prelude.{slice_get, nat_le, nat_lt, not, ◌&&◌, ◌||◌, option_and_then}
use Rattle.std.proofs.lemmas.Bool.{cases_Bool, cases_eq, leb-true, ltb-true, le-leb, and_parts, or_cases, lt-ltb, le-ltb, cases_lt}
use Rattle.std.proofs.lemmas.Option.{none-some}
use Rattle.td_gates.proofs.Places.{some-same, slice_get-set_cases}
use Rattle.td_domain.specs.declared.cubes.Trit.{Trit}
use Rattle.td_domain.specs.declared.cubes.Trit.TheVariants.{Zero, One, Free}
use Rattle.td_domain.specs.Cubes.{Allows}
use Rattle.td_domain.specs.Admits.{Admitted}
use Rattle.td_propagation.specs.declared.literal.Literal.{Literal}
use Rattle.td_propagation.specs.Literals.{signed, literal_true, clause_true, IsTrueUnder}
use Rattle.td_spans.specs.declared.variable.Variable.{Variable}
use Rattle.td_spans.specs.declared.variable.Variable.TheVariants.{First, Last, Span, Flips}
use Rattle.td_spans.specs.Sayings.{differs_at, AreMeant}
use Rattle.td_spans.specs.Clauses.{level_is}
use Rattle.td_spans.specs.Changing.{sum_of, fixed_flip, fixed_at, is_so}
use Rattle.td_spans.specs.Pairs.{trit_of, denied_bit, with_trit, with_bit, narrowed, held_differs, flips_of, flips_or, first_flips, reaches, is_empty, is_pairs_clause}
use Rattle.td_spans.proofs.Sums.{sum_grows, allowed_flip}
use Rattle.td_spans.proofs.Speaking.{signed_value}

denied : (positive value : Bool) → signed positive value ≡ false → signed (not positive) value ≡ true
denied true true is = cc
denied true false is = refl
denied false true is = refl
denied false false is = cc

or_false : (x y : Bool) → x || y ≡ false → (x ≡ false) × (y ≡ false)
or_false true y is = cc
or_false false y is = (refl, is)

-- a range of a sum that is less, place by place
sum_range : (f d : ℕ → ℕ) → ((j : ℕ) → f j ≤ d j) → (j i : ℕ) → j ≤ i → sum_of d j + (sum_of f i - sum_of f j) ≤ sum_of d i
sum_range f d less zero zero low = omega arith
sum_range f d less (suc j) zero low = absurd (omega arith)
sum_range f d less j (suc i) low = elim (cases_eq j (suc i)) [
  | inl same ↦ subst (λ (k : ℕ). sum_of d k + (sum_of f (suc i) - sum_of f k) ≤ sum_of d (suc i)) (sym same) (omega arith)
  | inr other ↦
      let low' : j ≤ i = omega (arith, low, other) in
      let rest = sum_range f d less j i low' in
      let grows = sum_grows f j i low' in
      let here = less i in
      omega (arith, rest, grows, here)
]

allows_self : (bit : Bool) → Allows (trit_of bit) bit
allows_self true = tt
allows_self false = tt

flips_at_least : (few : ℕ × ℕ) (sum : ℕ) (value : Bool) → value ≡ nat_le few.1 sum → value ≡ true → few.1 ≤ sum
flips_at_least few sum value is so = leb-true few.1 sum (sym is ∙ so)

flips_below : (few : ℕ × ℕ) (sum : ℕ) (value : Bool) → value ≡ nat_le few.1 sum → value ≡ false → sum < few.1
flips_below few sum value is none = elim (cases_lt sum few.1) [
  | inl less ↦ less
  | inr more ↦ absurd (let so : false ≡ true = sym none ∙ is ∙ le-leb few.1 sum more in cc)
]

module _ (level : ℕ → ℕ → Bool) (final : ℕ → Bool) (variables : List Variable) (valuation : ℕ → Bool) (meant : AreMeant level final variables valuation) where
  -- the cube allows the levels at which the inputs start and end
  abbrev pub Fit : List Trit → Type 0
  Fit cube = (i : ℕ) (t : Trit) → (slice_get cube (2 * i) ≡ Some t → Allows t (level (2 + i) 0)) × (slice_get cube (2 * i + 1) ≡ Some t → Allows t (final (2 + i)))

  bit_fit : (cube : List Trit) → Fit cube → (p : ℕ) (bit : Bool) → ((t : Trit) → slice_get cube p ≡ Some t → Allows t bit)
      → ((i : ℕ) → 2 * i ≡ p → level (2 + i) 0 ≡ bit) → ((i : ℕ) → 2 * i + 1 ≡ p → final (2 + i) ≡ bit)
      → (after : List Trit) × (with_trit cube p bit (slice_get cube p) ≡ Some after) × Fit after
  bit_fit cube fit p bit allowed evens odds = go (slice_get cube p) refl
    where
      known : (bit : Bool) → Allows Zero bit → (after : List Trit) × (with_trit cube p bit (Some Zero) ≡ Some after) × Fit after
      known true allows = absurd allows
      known false allows = (cube, refl, fit)

      known' : (bit : Bool) → Allows One bit → (after : List Trit) × (with_trit cube p bit (Some One) ≡ Some after) × Fit after
      known' true allows = (cube, refl, fit)
      known' false allows = absurd allows

      go : (o : Option Trit) → slice_get cube p ≡ o → (after : List Trit) × (with_trit cube p bit o ≡ Some after) × Fit after
      go None at = (cube, refl, fit)
      go (Some Zero) at = known bit (allowed Zero at)
      go (Some One) at = known' bit (allowed One at)
      go (Some Free) at = (
        set cube p (trit_of bit),
        refl,
        λ i t. (
          λ there. elim (slice_get-set_cases cube p (trit_of bit) (2 * i) t there) [
            | inl same ↦ subst (λ (x : Trit). Allows x (level (2 + i) 0)) same.1 (subst (λ (b : Bool). Allows (trit_of bit) b) (sym (evens i same.0)) (allows_self bit))
            | inr other ↦ (fit i t).0 other.1
          ],
          λ there. elim (slice_get-set_cases cube p (trit_of bit) (2 * i + 1) t there) [
            | inl same ↦ subst (λ (x : Trit). Allows x (final (2 + i))) same.1 (subst (λ (b : Bool). Allows (trit_of bit) b) (sym (odds i same.0)) (allows_self bit))
            | inr other ↦ (fit i t).1 other.1
          ],
        ),
      )

  literal_fit : (positive : Bool) (x : ℕ) (o : Option Variable) → slice_get variables x ≡ o → signed positive (valuation x) ≡ false
      → (cube : List Trit) → Fit cube → (after : List Trit) × (with_bit cube (denied_bit positive o) ≡ Some after) × Fit after
  literal_fit positive x None at none cube fit = (cube, refl, fit)
  literal_fit positive x (Some (Span s)) at none cube fit = (cube, refl, fit)
  literal_fit positive x (Some (Flips i k)) at none cube fit = (cube, refl, fit)
  literal_fit positive x (Some (First net)) at none cube fit = elim (cases_lt net 2) [
    | inl low ↦ rw (lt-ltb net 2 low) (cube, refl, fit)
    | inr high ↦
        let value : level net 0 ≡ not positive = sym (meant x (First net) at) ∙ signed_value (not positive) (valuation x) (denied positive (valuation x) none) in
        let back : 2 + (net - 2) ≡ net = omega arith in
        let place : 2 * (net - 2) + 0 ≡ 2 * (net - 2) = omega arith in
        rw (le-ltb net 2 high) (bit_fit cube fit (2 * (net - 2) + 0) (not positive)
        (λ t there. subst (λ (b : Bool). Allows t b) (ap (λ (k : ℕ). level k 0) back ∙ value) ((fit (net - 2) t).0 (ap (slice_get cube) (sym place) ∙ there)))
        (λ i same. ap (λ (k : ℕ). level k 0) (let e : 2 + i ≡ net = omega arith in e) ∙ value)
        (λ i same. absurd (omega arith)))
  ]
  literal_fit positive x (Some (Last net)) at none cube fit = elim (cases_lt net 2) [
    | inl low ↦ rw (lt-ltb net 2 low) (cube, refl, fit)
    | inr high ↦
        let value : final net ≡ not positive = sym (meant x (Last net) at) ∙ signed_value (not positive) (valuation x) (denied positive (valuation x) none) in
        let back : 2 + (net - 2) ≡ net = omega arith in
        rw (le-ltb net 2 high) (bit_fit cube fit (2 * (net - 2) + 1) (not positive)
        (λ t there. subst (λ (b : Bool). Allows t b) (ap final back ∙ value) ((fit (net - 2) t).1 there))
        (λ i same. absurd (omega arith))
        (λ i same. ap final (let e : 2 + i ≡ net = omega arith in e) ∙ value))
  ]

  -- A narrowed cube allows these levels, where all literals are false.
  narrow_fit : (clause : List Literal) → clause_true valuation clause ≡ false → (cube : List Trit) → Fit cube
      → (after : List Trit) × (narrowed variables cube clause ≡ Some after) × Fit after
  narrow_fit [] none cube fit = (cube, refl, fit)
  narrow_fit (literal ∷ clause) none cube fit =
      let both = or_false (literal_true valuation literal) (clause_true valuation clause) none in
      let first = literal_fit literal.positive literal.variable (slice_get variables literal.variable) refl both.0 cube fit in
      let rest = narrow_fit clause both.1 first.0 first.2 in
      (rest.0, ap (option_and_then (λ narrow. narrowed variables narrow clause)) first.1 ∙ rest.1, rest.2)

  each_differs : (cube : List Trit) → Fit cube → (j : ℕ) → fixed_at cube j ≤ differs_at level final j
  each_differs cube fit j = go (slice_get cube (2 * j)) (slice_get cube (2 * j + 1)) refl refl
    where
      go : (o u : Option Trit) → slice_get cube (2 * j) ≡ o → slice_get cube (2 * j + 1) ≡ u → fixed_flip o u ≤ differs_at level final j
      go None u at at' = omega arith
      go (Some Zero) None at at' = omega arith
      go (Some One) None at at' = omega arith
      go (Some Free) None at at' = omega arith
      go (Some p) (Some q) at at' = allowed_flip p q (level (2 + j) 0) (final (2 + j)) ((fit j p).0 at) ((fit j q).1 at')

  flips_value : (x : ℕ) (few : ℕ × ℕ) (o : Option Variable) → slice_get variables x ≡ o → flips_of o ≡ Some few
      → valuation x ≡ nat_le few.1 (sum_of (differs_at level final) few.0)
  flips_value x few None at is = absurd (none-some few is)
  flips_value x few (Some (First net)) at is = absurd (none-some few is)
  flips_value x few (Some (Last net)) at is = absurd (none-some few is)
  flips_value x few (Some (Span s)) at is = absurd (none-some few is)
  flips_value x few (Some (Flips j k)) at is =
      meant x (Flips j k) at ∙ ap (λ (it : ℕ × ℕ). nat_le it.1 (sum_of (differs_at level final) it.0)) (some-same (j, k) few is)

  -- so many of the first inputs differ
  low_right : (clause : List Literal) → clause_true valuation clause ≡ false → (rest : ℕ × ℕ) → rest.1 ≤ sum_of (differs_at level final) rest.0
      → (first_flips false variables clause rest).1 ≤ sum_of (differs_at level final) (first_flips false variables clause rest).0
  low_right [] none rest right = right
  low_right (literal ∷ clause) none rest right =
      let both = or_false (literal_true valuation literal) (clause_true valuation clause) none in
      go literal.positive (flips_of (slice_get variables literal.variable)) refl both.0 (low_right clause both.1 rest right)
    where
      go : (positive : Bool) (o : Option (ℕ × ℕ)) → flips_of (slice_get variables literal.variable) ≡ o → signed positive (valuation literal.variable) ≡ false
          → (first_flips false variables clause rest).1 ≤ sum_of (differs_at level final) (first_flips false variables clause rest).0
          → (flips_or (level_is positive false) o (first_flips false variables clause rest)).1
          ≤ sum_of (differs_at level final) (flips_or (level_is positive false) o (first_flips false variables clause rest)).0
      go true o at none right = right
      go false None at none right = right
      go false (Some few) at none right = flips_at_least few (sum_of (differs_at level final) few.0) (valuation literal.variable)
          (flips_value literal.variable few (slice_get variables literal.variable) refl at) (signed_value true (valuation literal.variable) (denied false (valuation literal.variable) none))

  -- fewer than so many of more first inputs differ
  high_right : (clause : List Literal) → clause_true valuation clause ≡ false → (rest : ℕ × ℕ) → sum_of (differs_at level final) rest.0 < rest.1
      → sum_of (differs_at level final) (first_flips true variables clause rest).0 < (first_flips true variables clause rest).1
  high_right [] none rest right = right
  high_right (literal ∷ clause) none rest right =
      let both = or_false (literal_true valuation literal) (clause_true valuation clause) none in
      go literal.positive (flips_of (slice_get variables literal.variable)) refl both.0 (high_right clause both.1 rest right)
    where
      go : (positive : Bool) (o : Option (ℕ × ℕ)) → flips_of (slice_get variables literal.variable) ≡ o → signed positive (valuation literal.variable) ≡ false
          → sum_of (differs_at level final) (first_flips true variables clause rest).0 < (first_flips true variables clause rest).1
          → sum_of (differs_at level final) (flips_or (level_is positive true) o (first_flips true variables clause rest)).0
          < (flips_or (level_is positive true) o (first_flips true variables clause rest)).1
      go false o at none right = right
      go true None at none right = right
      go true (Some few) at none right = flips_below few (sum_of (differs_at level final) few.0) (valuation literal.variable)
          (flips_value literal.variable few (slice_get variables literal.variable) refl at) none

  held_still : (held : List Bool) (cube : List Trit) → Fit cube → ((i : ℕ) → is_so (slice_get held i) ≡ true → differs_at level final i ≡ 0)
      → (n : ℕ) → held_differs held cube n ≡ true → ⊥
  held_still held cube fit still zero is = cc
  held_still held cube fit still (suc n) is = elim (or_cases (held_differs held cube n) (is_so (slice_get held n) && nat_lt 0 (fixed_at cube n)) is) [
    | inl before ↦ held_still held cube fit still n before
    | inr here ↦
        let both = and_parts (is_so (slice_get held n)) (nat_lt 0 (fixed_at cube n)) here in
        let none = still n both.0 in
        let some = ltb-true 0 (fixed_at cube n) both.1 in
        let less = each_differs cube fit n in
        omega (arith, none, some, less)
  ]

  -- The clause is true, where few inputs differ, and none that is held.
  pub pairs_true : (inputs : ℕ) (admit : Admitted) (cube : List Trit) (clause : List Literal) → Fit cube
      → ((i : ℕ) → is_so (slice_get admit.held i) ≡ true → differs_at level final i ≡ 0) → sum_of (differs_at level final) inputs ≤ admit.flips
      → is_pairs_clause inputs admit cube variables clause ≡ true → IsTrueUnder valuation clause
  pairs_true inputs admit cube clause fit still few is = elim (cases_Bool (clause_true valuation clause)) [
    | inl so ↦ so
    | inr none ↦ absurd (
        let after = narrow_fit clause none cube fit in
        let low : ℕ × ℕ = first_flips false variables clause (0, 0) in
        let high : ℕ × ℕ = first_flips true variables clause (inputs, admit.flips + 1) in
        let empty : is_empty admit.held low high (Some after.0) ≡ true = ap (is_empty admit.held low high) (sym after.1) ∙ is in
        elim (or_cases (held_differs admit.held after.0 (length admit.held)) (reaches after.0 low high) empty) [
          | inl held ↦ held_still admit.held after.0 after.2 still (length admit.held) held
          | inr more ↦
              let both = and_parts (nat_le low.0 high.0) _ more in
              let order = leb-true low.0 high.0 both.0 in
              let least = leb-true high.1 (low.1 + (sum_of (fixed_at after.0) high.0 - sum_of (fixed_at after.0) low.0)) both.1 in
              let range = sum_range (fixed_at after.0) (differs_at level final) (each_differs after.0 after.2) low.0 high.0 order in
              let lows = low_right clause none (0, 0) (omega arith) in
              let highs = high_right clause none (inputs, admit.flips + 1) (omega (arith, few)) in
              omega (arith, least, range, lows, highs)
        ])
  ]
