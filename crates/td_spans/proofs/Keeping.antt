-- Keeping: which inputs keep a gate's target at its level.
use Rattle.std.proofs.Common.{◌≡◌, ℕ, ◌≤◌, Bool, true, false, List, [], ◌∷◌, map, refl, arith, ap, sym, ◌∙◌}
use Rattle.std.specs.Prelude.{not, ◌&&◌, ◌||◌, if◌then◌else◌}
use Rattle.std.specs.List.{AllByRecursion, list_any, list_all}
use Rattle.td_gates.specs.declared.primitives.Level.{Level}
use Rattle.td_gates.specs.declared.primitives.Level.TheVariants.{Zero, One, X}
use Rattle.td_gates.specs.declared.primitives.Kind.{Kind}
use Rattle.td_gates.specs.declared.primitives.Kind.TheVariants.{And, Nand, Or, Nor, Xor, Xnor, Buf, Not}
use Rattle.td_gates.specs.Table.{level_eq, level_from, and_of, or_of, inverse_of}
use Rattle.td_spans.specs.Targets.{target_bit}
use Rattle.td_spans.specs.declared.times.Places.{Places}
use Rattle.td_spans.specs.Times.{place_for}
use Rattle.td_spans.specs.Rules.{greatest_for}

-- tables of levels that are 0 or 1
all_bits : List Bool → Bool
all_bits [] = true
all_bits (bit ∷ bits) = bit && all_bits bits

any_bits : List Bool → Bool
any_bits [] = false
any_bits (bit ∷ bits) = bit || any_bits bits

some_zero : (bits : List Bool) → list_any (level_eq Zero) (map level_from bits) ≡ not (all_bits bits)
unfolding all_bits
some_zero [] = refl
some_zero (true ∷ bits) = some_zero bits
some_zero (false ∷ bits) = refl

each_one : (bits : List Bool) → list_all (level_eq One) (map level_from bits) ≡ all_bits bits
unfolding all_bits
each_one [] = refl
each_one (true ∷ bits) = each_one bits
each_one (false ∷ bits) = refl

some_one : (bits : List Bool) → list_any (level_eq One) (map level_from bits) ≡ any_bits bits
unfolding any_bits
some_one [] = refl
some_one (true ∷ bits) = refl
some_one (false ∷ bits) = some_one bits

each_zero : (bits : List Bool) → list_all (level_eq Zero) (map level_from bits) ≡ not (any_bits bits)
unfolding any_bits
each_zero [] = refl
each_zero (true ∷ bits) = refl
each_zero (false ∷ bits) = each_zero bits

and_bits : (bits : List Bool) → and_of (map level_from bits) ≡ level_from (all_bits bits)
and_bits bits = rw (some_zero bits, each_one bits) (go (all_bits bits))
  where
    go : (b : Bool) → (if not b then Zero else (if b then One else X)) ≡ level_from b
    go true = refl
    go false = refl

or_bits : (bits : List Bool) → or_of (map level_from bits) ≡ level_from (any_bits bits)
or_bits bits = rw (some_one bits, each_zero bits) (go (any_bits bits))
  where
    go : (b : Bool) → (if b then One else (if not b then Zero else X)) ≡ level_from b
    go true = refl
    go false = refl

is_one : (b : Bool) → level_eq One (level_from b) ≡ b
is_one true = refl
is_one false = refl

is_not_one : (b : Bool) → level_eq One (inverse_of (level_from b)) ≡ not b
is_not_one true = refl
is_not_one false = refl

not_back : (b v : Bool) → not b ≡ v → b ≡ not v
not_back true v is = ap not is
not_back false v is = ap not is

and_false : (b : Bool) → b && false ≡ false
and_false true = refl
and_false false = refl

or_true : (b : Bool) → b || true ≡ true
or_true true = refl
or_true false = refl

-- An input counts at this level where the output is at that one.
abbrev pub Counts : Kind → Bool → Bool → Type 0
Counts And v f = f ≡ v
Counts Or v f = f ≡ v
Counts Buf v f = f ≡ v
Counts Nand v f = f ≡ not v
Counts Nor v f = f ≡ not v
Counts Not v f = f ≡ not v
Counts Xor v f = Unit {0}
Counts Xnor v f = Unit {0}

pub counted_greatest : (kind : Kind) (v f : Bool) (places : Places) → Counts kind v f → place_for places f ≤ greatest_for kind v places
counted_greatest And v f places is = rw is (omega arith)
counted_greatest Or v f places is = rw is (omega arith)
counted_greatest Buf v f places is = rw is (omega arith)
counted_greatest Nand v f places is = rw is (omega arith)
counted_greatest Nor v f places is = rw is (omega arith)
counted_greatest Not v f places is = rw is (omega arith)
counted_greatest Xor v true places is = omega arith
counted_greatest Xor v false places is = omega arith
counted_greatest Xnor v true places is = omega arith
counted_greatest Xnor v false places is = omega arith

module _ (f b : ℕ → Bool) where
  kept_all : (inputs : List ℕ) (v : Bool) → all_bits (map f inputs) ≡ v → AllByRecursion (λ i. f i ≡ v → b i ≡ f i) inputs → all_bits (map b inputs) ≡ v
  unfolding all_bits
  kept_all [] v is all = is
  kept_all (i ∷ inputs) true is all = go (f i) refl (λ rest. kept_all inputs true rest all.1)
    where
      go : (x : Bool) → f i ≡ x → (all_bits (map f inputs) ≡ true → all_bits (map b inputs) ≡ true) → b i && all_bits (map b inputs) ≡ true
      go true at rest = rw (all.0 at ∙ at) (rest (rw at at is))
      go false at rest = (let wrong : false ≡ true = rw at at is in cc)
  kept_all (i ∷ inputs) false is all = go (f i) refl (λ rest. kept_all inputs false rest all.1)
    where
      go : (x : Bool) → f i ≡ x → (all_bits (map f inputs) ≡ false → all_bits (map b inputs) ≡ false) → b i && all_bits (map b inputs) ≡ false
      go true at rest = rw (rest (rw at at is)) (and_false (b i))
      go false at rest = rw (all.0 at ∙ at) refl

  kept_any : (inputs : List ℕ) (v : Bool) → any_bits (map f inputs) ≡ v → AllByRecursion (λ i. f i ≡ v → b i ≡ f i) inputs → any_bits (map b inputs) ≡ v
  unfolding any_bits
  kept_any [] v is all = is
  kept_any (i ∷ inputs) false is all = go (f i) refl (λ rest. kept_any inputs false rest all.1)
    where
      go : (x : Bool) → f i ≡ x → (any_bits (map f inputs) ≡ false → any_bits (map b inputs) ≡ false) → b i || any_bits (map b inputs) ≡ false
      go false at rest = rw (all.0 at ∙ at) (rest (rw at at is))
      go true at rest = (let wrong : true ≡ false = rw at at is in cc)
  kept_any (i ∷ inputs) true is all = go (f i) refl (λ rest. kept_any inputs true rest all.1)
    where
      go : (x : Bool) → f i ≡ x → (any_bits (map f inputs) ≡ true → any_bits (map b inputs) ≡ true) → b i || any_bits (map b inputs) ≡ true
      go false at rest = rw (rest (rw at at is)) (or_true (b i))
      go true at rest = rw (all.0 at ∙ at) refl

  kept_each : (inputs : List ℕ) → AllByRecursion (λ i. Unit {0} → b i ≡ f i) inputs → map b inputs ≡ map f inputs
  kept_each [] all = refl
  kept_each (i ∷ inputs) all = rw (all.0 tt, kept_each inputs all.1) refl

  -- A gate whose inputs are as they were, where they count for its target's level, has its target at
  -- that level still.
  pub kept : (kind : Kind) (inputs : List ℕ) → AllByRecursion (λ i. Counts kind (target_bit kind (map f inputs)) (f i) → b i ≡ f i) inputs
      → target_bit kind (map b inputs) ≡ target_bit kind (map f inputs)
  kept And inputs all =
      let old : target_bit And (map f inputs) ≡ all_bits (map f inputs) = ap (level_eq One) (and_bits (map f inputs)) ∙ is_one (all_bits (map f inputs)) in
      let new : target_bit And (map b inputs) ≡ all_bits (map b inputs) = ap (level_eq One) (and_bits (map b inputs)) ∙ is_one (all_bits (map b inputs)) in
      new ∙ kept_all inputs (target_bit And (map f inputs)) (sym old) all
  kept Nand inputs all =
      let old : target_bit Nand (map f inputs) ≡ not (all_bits (map f inputs)) =
      ap (λ (l : Level). level_eq One (inverse_of l)) (and_bits (map f inputs)) ∙ is_not_one (all_bits (map f inputs)) in
      let new : target_bit Nand (map b inputs) ≡ not (all_bits (map b inputs)) =
      ap (λ (l : Level). level_eq One (inverse_of l)) (and_bits (map b inputs)) ∙ is_not_one (all_bits (map b inputs)) in
      new ∙ ap not (kept_all inputs (not (target_bit Nand (map f inputs))) (not_back (all_bits (map f inputs)) (target_bit Nand (map f inputs)) (sym old)) all)
      ∙ sym (not_back _ _ refl)
  kept Or inputs all =
      let old : target_bit Or (map f inputs) ≡ any_bits (map f inputs) = ap (level_eq One) (or_bits (map f inputs)) ∙ is_one (any_bits (map f inputs)) in
      let new : target_bit Or (map b inputs) ≡ any_bits (map b inputs) = ap (level_eq One) (or_bits (map b inputs)) ∙ is_one (any_bits (map b inputs)) in
      new ∙ kept_any inputs (target_bit Or (map f inputs)) (sym old) all
  kept Nor inputs all =
      let old : target_bit Nor (map f inputs) ≡ not (any_bits (map f inputs)) =
      ap (λ (l : Level). level_eq One (inverse_of l)) (or_bits (map f inputs)) ∙ is_not_one (any_bits (map f inputs)) in
      let new : target_bit Nor (map b inputs) ≡ not (any_bits (map b inputs)) =
      ap (λ (l : Level). level_eq One (inverse_of l)) (or_bits (map b inputs)) ∙ is_not_one (any_bits (map b inputs)) in
      new ∙ ap not (kept_any inputs (not (target_bit Nor (map f inputs))) (not_back (any_bits (map f inputs)) (target_bit Nor (map f inputs)) (sym old)) all)
      ∙ sym (not_back _ _ refl)
  kept Xor inputs all = ap (target_bit Xor) (kept_each inputs all)
  kept Xnor inputs all = ap (target_bit Xnor) (kept_each inputs all)
  kept Buf [] all = refl
  kept Buf (i ∷ inputs) all =
      rw (all.0 (sym (is_one (f i)))) refl
  kept Not [] all = refl
  kept Not (i ∷ inputs) all =
      rw (all.0 (not_back (f i) _ (sym (is_not_one (f i))))) refl
