-- Sums: how sums grow, and how many inputs of a pair differ.
use Rattle.std.proofs.Common.{◌≡◌, ◌≢◌, ℕ, zero, suc, ◌+◌, ◌-◌, ◌*◌, ◌<◌, ◌≤◌, Bool, true, false, List, [], ◌∷◌, length, get_or, refl, arith, sym, subst, inl, inr, Some}
use Rattle.std.specs.Prelude.{slice_get, nat_le}
use Rattle.std.proofs.lemmas.Bool.{cases_eq, leb-true, or_cases}
use Rattle.std.proofs.lemmas.Option.{get_or_from_slice_get}
use Rattle.td_gates.proofs.Places.{slice_get-some}
use Rattle.td_domain.specs.declared.cubes.Trit.{Trit}
use Rattle.td_domain.specs.declared.cubes.Trit.TheVariants.{Zero, One, Free}
use Rattle.td_domain.specs.Pairs.{Pair}
use Rattle.td_domain.specs.Cubes.{Allows, IsIn}
use Rattle.td_domain.specs.Admits.{Admitted, flip_of, flips_of}
use Rattle.td_domain.proofs.Soundness.{AllowsBits-at}
use Rattle.td_spans.specs.Changing.{sum_of, fixed_flip, fixed_at, is_so, is_still}

sum_least : (f g : ℕ → ℕ) (n : ℕ) → ((j : ℕ) → j < n → f j ≤ g j) → sum_of f n ≤ sum_of g n
sum_least f g zero all = omega arith
sum_least f g (suc n) all = (let rest = sum_least f g n (λ j low. all j (omega arith)) in let here = all n (omega arith) in omega arith)

pub sum_same : (f g : ℕ → ℕ) (n : ℕ) → ((j : ℕ) → j < n → f j ≡ g j) → sum_of f n ≡ sum_of g n
sum_same f g zero all = refl
sum_same f g (suc n) all = (let rest = sum_same f g n (λ j low. all j (omega arith)) in let here = all n (omega arith) in omega arith)

sum_more : (f g : ℕ → ℕ) (n i d : ℕ) → ((j : ℕ) → j < n → f j ≤ g j) → i < n → f i + d ≤ g i → sum_of f n + d ≤ sum_of g n
sum_more f g zero i d all low more = absurd (omega arith)
sum_more f g (suc n) i d all low more = elim (cases_eq i n) [
  | inl same ↦
      let rest = sum_least f g n (λ j low. all j (omega arith)) in
      let here : f n + d ≤ g n = subst (λ (k : ℕ). f k + d ≤ g k) same more in omega arith
  | inr other ↦
      let rest = sum_more f g n i d (λ j low. all j (omega arith)) (omega arith) more in
      let here = all n (omega arith) in omega arith
]

pub sum_grows : (f : ℕ → ℕ) (j i : ℕ) → j ≤ i → sum_of f j ≤ sum_of f i
sum_grows f j zero low = let none : j ≡ 0 = omega arith in subst (λ (k : ℕ). sum_of f k ≤ 0) (sym none) (omega arith)
sum_grows f j (suc i) low = elim (cases_eq j (suc i)) [
  | inl same ↦ subst (λ (k : ℕ). sum_of f k ≤ sum_of f (suc i)) (sym same) (omega arith)
  | inr other ↦ (let rest = sum_grows f j i (omega arith) in omega arith)
]

pub sum_adds : (f : ℕ → ℕ) (j n i : ℕ) → j ≤ n → n < i → sum_of f j + f n ≤ sum_of f i
sum_adds f j n zero low high = absurd (omega arith)
sum_adds f j n (suc i) low high = elim (cases_eq n i) [
  | inl same ↦
      let rest = sum_grows f j i (omega arith) in
      subst (λ (k : ℕ). sum_of f j + f k ≤ sum_of f (suc i)) (sym same) (omega arith)
  | inr other ↦ (let rest = sum_adds f j n i low (omega arith) in omega arith)
]

sum_front : (f : ℕ → ℕ) (n : ℕ) → sum_of f (suc n) ≡ f 0 + sum_of (λ j. f (suc j)) n
sum_front f zero = omega arith
sum_front f (suc n) = let rest = sum_front f n in omega arith

-- 1 where the bits of an input differ
abbrev pub pair_at : List Bool → List Bool → ℕ → ℕ
pair_at before after j = flip_of (get_or before j false) (get_or after j false)

pub flips_sum : (before after : List Bool) (n : ℕ) → n ≤ length before → n ≤ length after → sum_of (pair_at before after) n ≤ flips_of before after
flips_sum before after zero low low' = omega arith
flips_sum [] after (suc n) low low' = absurd (omega arith)
flips_sum (a ∷ before) [] (suc n) low low' = absurd (omega arith)
flips_sum (a ∷ before) (b ∷ after) (suc n) low low' =
    let rest : sum_of (pair_at before after) n ≤ flips_of before after = flips_sum before after n (omega arith) (omega arith) in
    let front : sum_of (pair_at (a ∷ before) (b ∷ after)) (suc n) ≡ flip_of a b + sum_of (pair_at before after) n = sum_front (pair_at (a ∷ before) (b ∷ after)) n in
    rw front (omega arith)

pub allowed_flip : (p q : Trit) (a b : Bool) → Allows p a → Allows q b → fixed_flip (Some p) (Some q) ≤ flip_of a b
allowed_flip Zero Zero a b x y = omega arith
allowed_flip Zero One true b x y = absurd x
allowed_flip Zero One false true x y = omega arith
allowed_flip Zero One false false x y = absurd y
allowed_flip Zero Free a b x y = omega arith
allowed_flip One Zero false b x y = absurd x
allowed_flip One Zero true false x y = omega arith
allowed_flip One Zero true true x y = absurd y
allowed_flip One One a b x y = omega arith
allowed_flip One Free a b x y = omega arith
allowed_flip Free Zero a b x y = omega arith
allowed_flip Free One a b x y = omega arith
allowed_flip Free Free a b x y = omega arith

one_flip : (a b : Bool) → a ≢ b → flip_of a b ≡ 1
one_flip true true differ = absurd (differ refl)
one_flip true false differ = refl
one_flip false true differ = refl
one_flip false false differ = absurd (differ refl)

module _ (n : ℕ) (cube : List Trit) (whole : length cube ≡ 2 * n) (pair : Pair) (is_in : IsIn pair cube) where
  long : (k : ℕ) → k ≤ n → (k ≤ length pair.first) × (k ≤ length pair.second)
  long zero low = (omega arith, omega arith)
  long (suc k) low =
      let it = AllowsBits-at cube pair.first pair.second k is_in (omega (arith, whole)) in
      let one = slice_get-some pair.first k it.0 it.4 in
      let two = slice_get-some pair.second k it.1 it.5 in
      (omega arith, omega arith)

  -- how many inputs differ is at most how many flips there are
  pub all_flips : sum_of (pair_at pair.first pair.second) n ≤ flips_of pair.first pair.second
  all_flips = let it = long n (omega arith) in flips_sum pair.first pair.second n it.0 it.1

  each_flip : (j : ℕ) → j < n → fixed_at cube j ≤ pair_at pair.first pair.second j
  each_flip j low =
      let it = AllowsBits-at cube pair.first pair.second j is_in (omega (arith, whole)) in
      rw (it.6, it.7, get_or_from_slice_get pair.first j it.0 false it.4, get_or_from_slice_get pair.second j it.1 false it.5)
      (allowed_flip it.2 it.3 it.0 it.1 it.8 it.9)

  -- an input that differs is held not to, or leaves some other flip
  pub flip_left : (flips : ℕ) → flips_of pair.first pair.second ≤ flips → (i : ℕ) → i < n → (a b : Bool)
      → slice_get pair.first i ≡ Some a → slice_get pair.second i ≡ Some b → a ≢ b → sum_of (fixed_at cube) n - fixed_at cube i < flips
  flip_left flips few i low a b at_a at_b differ =
      let here : pair_at pair.first pair.second i ≡ 1 =
      rw (get_or_from_slice_get pair.first i a false at_a, get_or_from_slice_get pair.second i b false at_b) (one_flip a b differ) in
      let fixed : fixed_at cube i ≤ 1 = let each = each_flip i low in omega (arith, here) in
      let total = sum_more (fixed_at cube) (pair_at pair.first pair.second) n i (1 - fixed_at cube i) each_flip low (omega (arith, here, fixed)) in
      let some = sum_adds (pair_at pair.first pair.second) 0 i n (omega arith) low in
      let all = all_flips in
      omega (arith, total, some, all, here, fixed, few)

  -- An input that is still doesn't change.
  pub still_same : (admit : Admitted) → flips_of pair.first pair.second ≤ admit.flips → (i : ℕ) → i < n → (a b : Bool)
      → slice_get pair.first i ≡ Some a → slice_get pair.second i ≡ Some b → (is_so (slice_get admit.held i) ≡ true → a ≡ b)
      → is_still admit cube n i ≡ true → a ≡ b
  still_same admit few i low a b at_a at_b held is =
      elim (or_cases (is_so (slice_get admit.held i)) (nat_le admit.flips (sum_of (fixed_at cube) n - fixed_at cube i)) is) [
        | inl so ↦ held so
        | inr full ↦ same_or a b (λ differ.
            let most = leb-true admit.flips (sum_of (fixed_at cube) n - fixed_at cube i) full in
            let less = flip_left admit.flips few i low a b at_a at_b differ in
            omega (arith, most, less))
      ]
    where
      same_or : (a b : Bool) → (a ≢ b → ⊥) → a ≡ b
      same_or true true no_way = refl
      same_or false false no_way = refl
      same_or true false no_way = absurd (no_way (λ e. cc))
      same_or false true no_way = absurd (no_way (λ e. cc))
