-- The fewest flips of the pairs in two cubes: some pair has them, and none has fewer.
use Rattle.std.proofs.Common.{◌≡◌, ℕ, zero, suc, ◌+◌, ◌*◌, ◌<◌, ◌≤◌, Bool, true, false, List, [], ◌∷◌, length, drop, get_or, refl, arith, sym, ap, ◌∙◌, subst, Option, Some, None}
use Rattle.std.specs.Prelude.{option_and_then, replicate, slice_get, nat_le, IsTrue, ◌↔◌}
use Rattle.std.proofs.lemmas.Bool.{leb-true, le-leb}
use Rattle.std.proofs.lemmas.List.{drop_all}
use Rattle.td_gates.proofs.Places.{none-some, some-same}
use Rattle.td_domain.specs.declared.cubes.Trit.{Trit}
use Rattle.td_domain.specs.declared.cubes.Trit.TheVariants.{Zero, One, Free}
use Rattle.td_domain.specs.Pairs.{Pair}
use Rattle.td_domain.specs.Cubes.{Allows, AllowsBits}
use Rattle.td_domain.specs.Admits.{Admitted, flip_of, flips_of, AreHeld, IsAdmitted, HasAdmitted, all_pairs}
use Rattle.td_domain.specs.FewestFlips.{common, input_flips, common_flips, sum_of, fewest_flips}

-- what is known where one result stands on another
and_then_some : {X Y : Type 0} (f : X → Option Y) (o : Option X) (y : Y) → option_and_then f o ≡ Some y
    → (x : X) × (o ≡ Some x) × (f x ≡ Some y)
and_then_some f None y h = absurd cc
and_then_some f (Some x) y h = (x, refl, h)

sum_some : (o r : Option ℕ) (n : ℕ) → sum_of o r ≡ Some n → (a b : ℕ) × (o ≡ Some a) × (r ≡ Some b) × (a + b ≡ n)
sum_some None r n h = absurd (none-some n h)
sum_some (Some a) None n h = absurd (none-some n h)
sum_some (Some a) (Some b) n h = (a, b, refl, refl, some-same (a + b) n h)

-- a bit that the common trit allows, both allow
common_some : (u p t : Trit) (bit : Bool) → common u p ≡ Some t → Allows t bit → Allows u bit × Allows p bit
common_some Free p t bit is allows = (tt, subst (λ (x : Trit). Allows x bit) (sym (some-same p t is)) allows)
common_some Zero Zero t bit is allows =
    let it : Allows Zero bit = subst (λ (x : Trit). Allows x bit) (sym (some-same Zero t is)) allows in (it, it)
common_some Zero Free t bit is allows = (subst (λ (x : Trit). Allows x bit) (sym (some-same Zero t is)) allows, tt)
common_some Zero One t bit is allows = absurd (none-some t is)
common_some One One t bit is allows =
    let it : Allows One bit = subst (λ (x : Trit). Allows x bit) (sym (some-same One t is)) allows in (it, it)
common_some One Free t bit is allows = (subst (λ (x : Trit). Allows x bit) (sym (some-same One t is)) allows, tt)
common_some One Zero t bit is allows = absurd (none-some t is)

-- and a bit that both allow, the common trit allows
common_allows : (u p : Trit) (bit : Bool) → Allows u bit → Allows p bit → (t : Trit) × (common u p ≡ Some t) × Allows t bit
common_allows Free p bit a b = (p, refl, b)
common_allows Zero Zero bit a b = (Zero, refl, a)
common_allows Zero Free bit a b = (Zero, refl, a)
common_allows Zero One false a b = absurd b
common_allows Zero One true a b = absurd a
common_allows One One bit a b = (One, refl, a)
common_allows One Free bit a b = (One, refl, a)
common_allows One Zero false a b = absurd a
common_allows One Zero true a b = absurd b

-- some bits of an input have its fewest flips
input_some : (s t : Trit) (held : Bool) (f : ℕ) → input_flips s t held ≡ Some f
    → (a b : Bool) × Allows s a × Allows t b × (held ≡ true → a ≡ b) × (flip_of a b ≡ f)
input_some Zero Zero held f is = (false, false, tt, tt, (λ e. refl), some-same 0 f is)
input_some Zero Free held f is = (false, false, tt, tt, (λ e. refl), some-same 0 f is)
input_some Zero One true f is = absurd (none-some f is)
input_some Zero One false f is = (false, true, tt, tt, (λ e. e), some-same 1 f is)
input_some One One held f is = (true, true, tt, tt, (λ e. refl), some-same 0 f is)
input_some One Free held f is = (true, true, tt, tt, (λ e. refl), some-same 0 f is)
input_some One Zero true f is = absurd (none-some f is)
input_some One Zero false f is = (true, false, tt, tt, (λ e. sym e), some-same 1 f is)
input_some Free Zero held f is = (false, false, tt, tt, (λ e. refl), some-same 0 f is)
input_some Free One held f is = (true, true, tt, tt, (λ e. refl), some-same 0 f is)
input_some Free Free held f is = (false, false, tt, tt, (λ e. refl), some-same 0 f is)

-- and all bits of it have at least that many
input_all : (s t : Trit) (a b held : Bool) → Allows s a → Allows t b → (held ≡ true → a ≡ b)
    → (f : ℕ) × (input_flips s t held ≡ Some f) × (f ≤ flip_of a b)
input_all Zero One true b held x y same = absurd x
input_all Zero One false false held x y same = absurd y
input_all Zero One false true true x y same = let e : false ≡ true = same refl in absurd cc
input_all Zero One false true false x y same = (1, refl, omega arith)
input_all One Zero false b held x y same = absurd x
input_all One Zero true true held x y same = absurd y
input_all One Zero true false true x y same = let e : true ≡ false = same refl in absurd cc
input_all One Zero true false false x y same = (1, refl, omega arith)
input_all Zero Zero a b held x y same = (0, refl, omega arith)
input_all Zero Free a b held x y same = (0, refl, omega arith)
input_all One One a b held x y same = (0, refl, omega arith)
input_all One Free a b held x y same = (0, refl, omega arith)
input_all Free Zero a b held x y same = (0, refl, omega arith)
input_all Free One a b held x y same = (0, refl, omega arith)
input_all Free Free a b held x y same = (0, refl, omega arith)

-- a pair in both cubes has the fewest flips
pub fewest_some : (held : List Bool) (pins cube : List Trit) (n : ℕ) → fewest_flips held pins cube ≡ Some n
    → (before after : List Bool) × AllowsBits pins before after × AllowsBits cube before after × AreHeld held before after
    × (flips_of before after ≡ n)
fewest_some [] [] [] n is = ([], [], tt, tt, tt, some-same 0 n is)
fewest_some [] [] (p ∷ cube) n is = absurd (none-some n is)
fewest_some [] (u ∷ pins) cube n is = absurd (none-some n is)
fewest_some (held ∷ others) [] cube n is = absurd (none-some n is)
fewest_some (held ∷ others) (u ∷ []) cube n is = absurd (none-some n is)
fewest_some (held ∷ others) (u ∷ v ∷ pins) [] n is = absurd (none-some n is)
fewest_some (held ∷ others) (u ∷ v ∷ pins) (p ∷ []) n is = absurd (none-some n is)
fewest_some (held ∷ others) (u ∷ v ∷ pins) (p ∷ q ∷ cube) n is =
    let sum = sum_some (common_flips held u v p q) (fewest_flips others pins cube) n is in
    let first = and_then_some (λ first. option_and_then (λ second. input_flips first second held) (common v q)) (common u p) sum.0 sum.2 in
    let second = and_then_some (λ second. input_flips first.0 second held) (common v q) sum.0 first.2 in
    let bits = input_some first.0 second.0 held sum.0 second.2 in
    let a = common_some u p first.0 bits.0 first.1 bits.2 in
    let b = common_some v q second.0 bits.1 second.1 bits.3 in
    let later = fewest_some others pins cube sum.1 sum.3 in (
      bits.0 ∷ later.0,
      bits.1 ∷ later.1,
      (a.0, b.0, later.2),
      (a.1, b.1, later.3),
      (bits.4, later.4),
      ap (λ f. f + flips_of later.0 later.1) bits.5 ∙ ap (λ m. sum.0 + m) later.5 ∙ sum.4,
    )

-- and no pair in both cubes has fewer
pub fewest_all : (held : List Bool) (pins cube : List Trit) (before after : List Bool) → length pins ≡ 2 * length held
    → AllowsBits pins before after → AllowsBits cube before after → AreHeld held before after
    → (n : ℕ) × (fewest_flips held pins cube ≡ Some n) × (n ≤ flips_of before after)
fewest_all [] [] [] [] [] size x y z = (0, refl, omega arith)
fewest_all [] [] [] [] (b ∷ after) size x y z = absurd x
fewest_all [] [] [] (a ∷ before) after size x y z = absurd x
fewest_all [] [] (p ∷ []) before after size x y z = absurd y
fewest_all [] [] (p ∷ q ∷ cube) [] after size x y z = absurd y
fewest_all [] [] (p ∷ q ∷ cube) (a ∷ before) after size x y z = absurd x
fewest_all [] (u ∷ pins) cube before after size x y z = absurd (omega arith)
fewest_all (h ∷ held) [] cube before after size x y z = absurd (omega arith)
fewest_all (h ∷ held) (u ∷ []) cube before after size x y z = absurd (omega arith)
fewest_all (h ∷ held) (u ∷ v ∷ pins) cube [] after size x y z = absurd x
fewest_all (h ∷ held) (u ∷ v ∷ pins) cube (a ∷ before) [] size x y z = absurd x
fewest_all (h ∷ held) (u ∷ v ∷ pins) [] (a ∷ before) (b ∷ after) size x y z = absurd y
fewest_all (h ∷ held) (u ∷ v ∷ pins) (p ∷ []) (a ∷ before) (b ∷ after) size x y z = absurd y
fewest_all (h ∷ held) (u ∷ v ∷ pins) (p ∷ q ∷ cube) (a ∷ before) (b ∷ after) size x y z =
    let first = common_allows u p a x.0 y.0 in
    let second = common_allows v q b x.1 y.1 in
    let flips = input_all first.0 second.0 a b h first.2 second.2 z.0 in
    let rest = fewest_all held pins cube before after (omega arith) x.2 y.2 z.1 in
    let sum : flips.0 + rest.0 ≤ flip_of a b + flips_of before after = omega (arith, flips.2, rest.2) in
    (flips.0 + rest.0, rw (first.1, second.1, flips.1, rest.1) refl, sum)

-- whether an admitted pair lies in the cube
module _ (admit : Admitted) (cube : List Trit) (size : length admit.pins ≡ 2 * length admit.held) where
  pub some_admitted : (n : ℕ) → fewest_flips admit.held admit.pins cube ≡ Some n → n ≤ admit.flips → HasAdmitted admit cube
  some_admitted n is few =
      let found = fewest_some admit.held admit.pins cube n is in (
        record { first = found.0; second = found.1 },
        record { pinned = found.2; held = found.4; few = omega (arith, found.5, few) },
        found.3,
      )

  pub few_enough : (n : ℕ) → fewest_flips admit.held admit.pins cube ≡ Some n → HasAdmitted admit cube → n ≤ admit.flips
  few_enough n is has =
      let all = fewest_all admit.held admit.pins cube has.0.first has.0.second size has.1.pinned has.2 has.1.held in
      let same : all.0 ≡ n = some-same all.0 n (sym all.1 ∙ is) in
      omega (arith, all.2, has.1.few, same)

  pub none_admitted : fewest_flips admit.held admit.pins cube ≡ None → HasAdmitted admit cube → ⊥
  none_admitted is has =
      let all = fewest_all admit.held admit.pins cube has.0.first has.0.second size has.1.pinned has.2 has.1.held in
      none-some all.0 (sym is ∙ all.1)

-- ---- the loop over the inputs

-- what is left after the first `i` inputs
abbrev pub left_after : ℕ → List Bool → List Trit → List Trit → Option ℕ
left_after i held pins cube = fewest_flips (drop i held) (drop (2 * i) pins) (drop (2 * i) cube)

left_shift : (i : ℕ) (h : Bool) (held : List Bool) (x y : Trit) (pins : List Trit) (z w : Trit) (cube : List Trit)
    → left_after (suc i) (h ∷ held) (x ∷ y ∷ pins) (z ∷ w ∷ cube) ≡ left_after i held pins cube
left_shift i h held x y pins z w cube =
    let twice : 2 * suc i ≡ suc (suc (2 * i)) = omega arith in
    ap (λ (n : ℕ). fewest_flips (drop i held) (drop n (x ∷ y ∷ pins)) (drop n (z ∷ w ∷ cube))) twice

-- one more input
left_step : (i : ℕ) (held : List Bool) (pins cube : List Trit) (u v p q : Trit) (h d : Bool) → i < length held → get_or held i d ≡ h
    → slice_get pins (2 * i) ≡ Some u → slice_get pins (2 * i + 1) ≡ Some v
    → slice_get cube (2 * i) ≡ Some p → slice_get cube (2 * i + 1) ≡ Some q
    → left_after i held pins cube ≡ sum_of (common_flips h u v p q) (left_after (suc i) held pins cube)
left_step i [] pins cube u v p q h d below is at_u at_v at_p at_q = absurd (omega arith)
left_step zero (held ∷ others) [] cube u v p q h d below is at_u at_v at_p at_q = absurd (none-some u at_u)
left_step zero (held ∷ others) (x ∷ []) cube u v p q h d below is at_u at_v at_p at_q = absurd (none-some v at_v)
left_step zero (held ∷ others) (x ∷ y ∷ pins) [] u v p q h d below is at_u at_v at_p at_q = absurd (none-some p at_p)
left_step zero (held ∷ others) (x ∷ y ∷ pins) (z ∷ []) u v p q h d below is at_u at_v at_p at_q = absurd (none-some q at_q)
left_step zero (held ∷ others) (x ∷ y ∷ pins) (z ∷ w ∷ cube) u v p q h d below is at_u at_v at_p at_q =
    let rest : Option ℕ = fewest_flips others pins cube in
    ap (λ s. sum_of (common_flips s x y z w) rest) is
    ∙ ap (λ s. sum_of (common_flips h s y z w) rest) (some-same x u at_u)
    ∙ ap (λ s. sum_of (common_flips h u s z w) rest) (some-same y v at_v)
    ∙ ap (λ s. sum_of (common_flips h u v s w) rest) (some-same z p at_p)
    ∙ ap (λ s. sum_of (common_flips h u v p s) rest) (some-same w q at_q)
left_step (suc i) (held ∷ others) [] cube u v p q h d below is at_u at_v at_p at_q = absurd (none-some u at_u)
left_step (suc i) (held ∷ others) (x ∷ []) cube u v p q h d below is at_u at_v at_p at_q =
    let twice : 2 * suc i ≡ suc (suc (2 * i)) = omega arith in
    absurd (none-some u (sym (ap (slice_get (x ∷ [])) twice) ∙ at_u))
left_step (suc i) (held ∷ others) (x ∷ y ∷ pins) [] u v p q h d below is at_u at_v at_p at_q = absurd (none-some p at_p)
left_step (suc i) (held ∷ others) (x ∷ y ∷ pins) (z ∷ []) u v p q h d below is at_u at_v at_p at_q =
    let twice : 2 * suc i ≡ suc (suc (2 * i)) = omega arith in
    absurd (none-some p (sym (ap (slice_get (z ∷ [])) twice) ∙ at_p))
left_step (suc i) (held ∷ others) (x ∷ y ∷ pins) (z ∷ w ∷ cube) u v p q h d below is at_u at_v at_p at_q =
    let twice : 2 * suc i ≡ suc (suc (2 * i)) = omega arith in
    let odd : 2 * suc i + 1 ≡ suc (suc (2 * i + 1)) = omega arith in
    let bu : slice_get pins (2 * i) ≡ Some u = sym (ap (slice_get (x ∷ y ∷ pins)) twice) ∙ at_u in
    let bv : slice_get pins (2 * i + 1) ≡ Some v = sym (ap (slice_get (x ∷ y ∷ pins)) odd) ∙ at_v in
    let bp : slice_get cube (2 * i) ≡ Some p = sym (ap (slice_get (z ∷ w ∷ cube)) twice) ∙ at_p in
    let bq : slice_get cube (2 * i + 1) ≡ Some q = sym (ap (slice_get (z ∷ w ∷ cube)) odd) ∙ at_q in
    left_shift i held others x y pins z w cube
    ∙ left_step i others pins cube u v p q h d (omega arith) is bu bv bp bq
    ∙ ap (λ r. sum_of (common_flips h u v p q) r) (sym (left_shift (suc i) held others x y pins z w cube))

sum-assoc : (a b : ℕ) (r : Option ℕ) → sum_of (Some a) (sum_of (Some b) r) ≡ sum_of (Some (a + b)) r
sum-assoc a b None = refl
sum-assoc a b (Some c) = ap (λ (n : ℕ). Some n) (omega arith)

module _ (held : List Bool) (pins cube : List Trit) (i a : ℕ) (u v p q : Trit) (h d : Bool) (below : i < length held) (is : get_or held i d ≡ h)
    (at_u : slice_get pins (2 * i) ≡ Some u) (at_v : slice_get pins (2 * i + 1) ≡ Some v)
    (at_p : slice_get cube (2 * i) ≡ Some p) (at_q : slice_get cube (2 * i + 1) ≡ Some q)
    (whole : fewest_flips held pins cube ≡ sum_of (Some a) (left_after i held pins cube)) where
  stepped : fewest_flips held pins cube ≡ sum_of (Some a) (sum_of (common_flips h u v p q) (left_after (suc i) held pins cube))
  stepped = whole ∙ ap (λ o. sum_of (Some a) o) (left_step i held pins cube u v p q h d below is at_u at_v at_p at_q)

  pub one_more : (f : ℕ) → common_flips h u v p q ≡ Some f
      → fewest_flips held pins cube ≡ sum_of (Some (a + f)) (left_after (suc i) held pins cube)
  one_more f here =
      stepped ∙ ap (λ o. sum_of (Some a) (sum_of o (left_after (suc i) held pins cube))) here
      ∙ sum-assoc a f (left_after (suc i) held pins cube)

  pub no_more : common_flips h u v p q ≡ None → fewest_flips held pins cube ≡ None
  no_more here = stepped ∙ ap (λ o. sum_of (Some a) (sum_of o (left_after (suc i) held pins cube))) here

-- after the last input
pub all_left : (held : List Bool) (pins cube : List Trit) (i a : ℕ) → length pins ≡ 2 * length held → length cube ≡ 2 * length held
    → length held ≤ i → fewest_flips held pins cube ≡ sum_of (Some a) (left_after i held pins cube) → fewest_flips held pins cube ≡ Some a
all_left held pins cube i a size also past whole =
    let no_held : drop i held ≡ [] = drop_all i held past in
    let no_pins : drop (2 * i) pins ≡ [] = drop_all (2 * i) pins (omega arith) in
    let no_cube : drop (2 * i) cube ≡ [] = drop_all (2 * i) cube (omega arith) in
    let left : left_after i held pins cube ≡ Some 0 =
    ap (λ xs. fewest_flips xs (drop (2 * i) pins) (drop (2 * i) cube)) no_held
    ∙ ap (λ xs. fewest_flips [] xs (drop (2 * i) cube)) no_pins ∙ ap (λ xs. fewest_flips [] [] xs) no_cube in
    let end : a + 0 ≡ a = omega arith in
    whole ∙ ap (λ o. sum_of (Some a) o) left ∙ ap (λ (n : ℕ). Some n) end

pub one_flip : (a b : Bool) → flip_of a b ≤ 1
one_flip false false = omega arith
one_flip false true = omega arith
one_flip true false = omega arith
one_flip true true = omega arith

-- where nothing is restricted, each pair is admitted
no_flips_above : (before after : List Bool) → flips_of before after ≤ length before
no_flips_above [] after = omega arith
no_flips_above (a ∷ before) [] = omega arith
no_flips_above (a ∷ before) (b ∷ after) =
    let rest = no_flips_above before after in
    let one : flip_of a b ≤ 1 = one_flip a b in
    let sum : flip_of a b + flips_of before after ≤ suc (length before) = omega arith in
    sum

all_free : (n : ℕ) (before after : List Bool) → length before ≡ n → length after ≡ n → AllowsBits (replicate (2 * n) Free) before after
all_free zero [] [] f s = tt
all_free zero [] (b ∷ after) f s = absurd (omega arith)
all_free zero (a ∷ before) after f s = absurd (omega arith)
all_free (suc n) [] after f s = absurd (omega arith)
all_free (suc n) (a ∷ before) [] f s = absurd (omega arith)
all_free (suc n) (a ∷ before) (b ∷ after) f s =
    let twice : 2 * suc n ≡ suc (suc (2 * n)) = omega arith in
    rw twice (tt, tt, all_free n before after (omega arith) (omega arith))

none_held : (n : ℕ) (before after : List Bool) → AreHeld (replicate n false) before after
none_held zero before after = tt
none_held (suc n) [] after = tt
none_held (suc n) (a ∷ before) [] = tt
none_held (suc n) (a ∷ before) (b ∷ after) = ((λ (e : false ≡ true). absurd cc), none_held n before after)

pub all_are_admitted : (inputs : ℕ) (pair : Pair) → length pair.first ≡ inputs → length pair.second ≡ inputs
    → IsAdmitted (all_pairs inputs) pair
all_are_admitted inputs pair f s = record {
  pinned = all_free inputs pair.first pair.second f s;
  held = none_held inputs pair.first pair.second;
  few = (let most = no_flips_above pair.first pair.second in omega (arith, most, f));
}

-- ---- what the code's test says, where the struct's inside is seen as the admitted pairs

pub reported_some : (inside now : Admitted) (cube : List Trit) (held : List Bool) (found : Option ℕ) (n : ℕ) → inside ≡ now
    → length inside.pins ≡ 2 * length inside.held → held ≡ inside.held → found ≡ fewest_flips held inside.pins cube → found ≡ Some n
    → IsTrue (nat_le n inside.flips) ↔ HasAdmitted now cube
reported_some inside now cube held found n view size same is some =
    let fewest : fewest_flips inside.held inside.pins cube ≡ Some n =
    ap (λ xs. fewest_flips xs inside.pins cube) (sym same) ∙ sym is ∙ some in
    subst (λ (a : Admitted). IsTrue (nat_le n inside.flips) ↔ HasAdmitted a cube) view (
      (λ few. some_admitted inside cube size n fewest (leb-true n inside.flips few)),
      (λ has. le-leb n inside.flips (few_enough inside cube size n fewest has)),
    )

pub reported_none : (inside now : Admitted) (cube : List Trit) (held : List Bool) (found : Option ℕ) → inside ≡ now
    → length inside.pins ≡ 2 * length inside.held → held ≡ inside.held → found ≡ fewest_flips held inside.pins cube → found ≡ None
    → IsTrue false ↔ HasAdmitted now cube
reported_none inside now cube held found view size same is none =
    let fewest : fewest_flips inside.held inside.pins cube ≡ None =
    ap (λ xs. fewest_flips xs inside.pins cube) (sym same) ∙ sym is ∙ none in
    subst (λ (a : Admitted). IsTrue false ↔ HasAdmitted a cube) view (
      (λ (e : false ≡ true). absurd cc),
      (λ has. absurd (none_admitted inside cube size fewest has)),
    )
