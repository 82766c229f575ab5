-- Each setting without a loop has one worst delay over its admitted pairs: the greatest over all
-- pairs of lists of bits that are admitted.
use Rattle.std.proofs.Common.{◌≡◌, ℕ, zero, suc, ◌*◌, ◌≤◌, Bool, true, false, List, [], ◌∷◌, length, map, refl, arith, ◌⊎◌, inl, inr, ◌∙◌}
use Rattle.std.proofs.lemmas.Bool.{cases_lt}
use Rattle.std.proofs.lemmas.List.{length-map}
use Rattle.td_gates.specs.Table.{level_from}
use Rattle.td_circuit.specs.Settings.{Setting, AreMoments}
use Rattle.td_circuit.specs.Run.{IsDelayOfBits}
use Rattle.td_run.specs.Laws.{IsAcyclic}
use Rattle.td_run.proofs.Existence.{one_delay_lem}
use Rattle.td_domain.specs.declared.cubes.Trit.{Trit}
use Rattle.td_domain.specs.declared.cubes.Trit.TheVariants.{Zero, One, Free}
use Rattle.td_domain.specs.Pairs.{Pair}
use Rattle.td_domain.specs.Cubes.{Allows, AllowsBits}
use Rattle.td_domain.specs.Admits.{Admitted, flips_of, AreHeld, IsAdmitted}
use Rattle.td_domain.specs.Worst.{IsUpperBound, IsWorst}
use Rattle.td_domain.specs.Laws.{OneWorst}

-- it holds, or it can't
abbrev Decided : Type 0 → Type 0
Decided P = P ⊎ (P → ⊥)

both_decided : {P Q : Type 0} → Decided P → Decided Q → Decided (P × Q)
both_decided (inl p) (inl q) = inl (p, q)
both_decided (inl p) (inr no_q) = inr (λ both. no_q both.1)
both_decided (inr no_p) q = inr (λ both. no_p both.0)

all_decided : {P Q R : Type 0} → Decided P → Decided Q → Decided R → Decided (P × Q × R)
all_decided (inl p) (inl q) (inl r) = inl (p, q, r)
all_decided (inl p) (inl q) (inr no_r) = inr (λ all. no_r all.2)
all_decided (inl p) (inr no_q) r = inr (λ all. no_q all.1)
all_decided (inr no_p) q r = inr (λ all. no_p all.0)

allows_decided : (trit : Trit) (bit : Bool) → Decided (Allows trit bit)
allows_decided Zero false = inl tt
allows_decided Zero true = inr (λ allows. allows)
allows_decided One false = inr (λ allows. allows)
allows_decided One true = inl tt
allows_decided Free bit = inl tt

bits_decided : (cube : List Trit) (before after : List Bool) → Decided (AllowsBits cube before after)
bits_decided [] [] [] = inl tt
bits_decided [] [] (b ∷ after) = inr (λ allows. allows)
bits_decided [] (a ∷ before) after = inr (λ allows. allows)
bits_decided (p ∷ []) before after = inr (λ allows. allows)
bits_decided (p ∷ q ∷ cube) [] after = inr (λ allows. allows)
bits_decided (p ∷ q ∷ cube) (a ∷ before) [] = inr (λ allows. allows)
bits_decided (p ∷ q ∷ cube) (a ∷ before) (b ∷ after) =
    all_decided (allows_decided p a) (allows_decided q b) (bits_decided cube before after)

equal_decided : (held a b : Bool) → Decided (held ≡ true → a ≡ b)
equal_decided held false false = inl (λ e. refl)
equal_decided held true true = inl (λ e. refl)
equal_decided false a b = inl (λ (e : false ≡ true). absurd cc)
equal_decided true false true = inr (λ same. (let e : false ≡ true = same refl in cc))
equal_decided true true false = inr (λ same. (let e : true ≡ false = same refl in cc))

held_decided : (held before after : List Bool) → Decided (AreHeld held before after)
held_decided [] before after = inl tt
held_decided (h ∷ held) [] after = inl tt
held_decided (h ∷ held) (a ∷ before) [] = inl tt
held_decided (h ∷ held) (a ∷ before) (b ∷ after) = both_decided (equal_decided h a b) (held_decided held before after)

few_decided : (n m : ℕ) → Decided (n ≤ m)
few_decided n m = elim (cases_lt m n) [
  | inl more ↦ inr (λ few. omega (arith, more, few))
  | inr few ↦ inl few
]

admitted_decided : (admit : Admitted) (pair : Pair) → Decided (IsAdmitted admit pair)
admitted_decided admit pair =
    go (bits_decided admit.pins pair.first pair.second) (held_decided admit.held pair.first pair.second)
    (few_decided (flips_of pair.first pair.second) admit.flips)
  where
    go : Decided (AllowsBits admit.pins pair.first pair.second) → Decided (AreHeld admit.held pair.first pair.second)
        → Decided (flips_of pair.first pair.second ≤ admit.flips) → Decided (IsAdmitted admit pair)
    go (inl pinned) (inl held) (inl few) = inl (record { pinned = pinned; held = held; few = few })
    go (inl pinned) (inl held) (inr many) = inr (λ is. many is.few)
    go (inl pinned) (inr free) few = inr (λ is. free is.held)
    go (inr other) held few = inr (λ is. other is.pinned)

-- the pair that lies in a cube has as many bits as the cube has inputs
bits_long : (n : ℕ) (cube : List Trit) (before after : List Bool) → length cube ≡ 2 * n → AllowsBits cube before after
    → (length before ≡ n) × (length after ≡ n)
bits_long n [] [] [] size allows = (omega arith, omega arith)
bits_long n [] [] (b ∷ after) size allows = absurd allows
bits_long n [] (a ∷ before) after size allows = absurd allows
bits_long n (p ∷ []) before after size allows = absurd allows
bits_long n (p ∷ q ∷ cube) [] after size allows = absurd allows
bits_long n (p ∷ q ∷ cube) (a ∷ before) [] size allows = absurd allows
bits_long zero (p ∷ q ∷ cube) (a ∷ before) (b ∷ after) size allows = absurd (omega arith)
bits_long (suc n) (p ∷ q ∷ cube) (a ∷ before) (b ∷ after) size allows =
    let rest = bits_long n cube before after (omega arith) allows.2 in (omega (arith, rest.0), omega (arith, rest.1))

-- ---- the greatest of values that lists of bits have

-- a value of this list of bits, which no other value of it passes
record Has (D : List Bool → ℕ → Type 0) (bits : List Bool) : Type 0 where
  pub value : ℕ
  pub is : D bits value
  pub most : (other : ℕ) → D bits other → other ≤ value

-- the greatest value of the lists of this length
record Greatest (n : ℕ) (D : List Bool → ℕ → Type 0) : Type 0 where
  pub bits : List Bool
  pub long : length bits ≡ n
  pub value : ℕ
  pub is : D bits value
  pub most : (others : List Bool) (other : ℕ) → length others ≡ n → D others other → other ≤ value

-- no list of this length has a value
abbrev HaveNone : ℕ → (List Bool → ℕ → Type 0) → Type 0
HaveNone n D = (others : List Bool) (other : ℕ) → length others ≡ n → D others other → ⊥

module _ (n : ℕ) (D : List Bool → ℕ → Type 0) where
  abbrev Low : List Bool → ℕ → Type 0
  Low bits = D (false ∷ bits)

  abbrev High : List Bool → ℕ → Type 0
  High bits = D (true ∷ bits)

  at_low : (best : Greatest n Low) → ((others : List Bool) (other : ℕ) → length others ≡ n → High others other → other ≤ best.value)
      → Greatest (suc n) D
  at_low best rest = record {
    bits = false ∷ best.bits;
    long = omega (arith, best.long);
    value = best.value;
    is = best.is;
    most = λ others other long is. elim others as (λ bits. length bits ≡ suc n → D bits other → other ≤ best.value) [
      | [] ↦ λ some here. absurd (omega arith)
      | bit ∷ later ↦ elim bit as (λ b. length (b ∷ later) ≡ suc n → D (b ∷ later) other → other ≤ best.value) [
        | false ↦ λ some here. best.most later other (omega arith) here
        | true ↦ λ some here. rest later other (omega arith) here
      ]
    ] long is;
  }

  at_high : (best : Greatest n High) → ((others : List Bool) (other : ℕ) → length others ≡ n → Low others other → other ≤ best.value)
      → Greatest (suc n) D
  at_high best rest = record {
    bits = true ∷ best.bits;
    long = omega (arith, best.long);
    value = best.value;
    is = best.is;
    most = λ others other long is. elim others as (λ bits. length bits ≡ suc n → D bits other → other ≤ best.value) [
      | [] ↦ λ some here. absurd (omega arith)
      | bit ∷ later ↦ elim bit as (λ b. length (b ∷ later) ≡ suc n → D (b ∷ later) other → other ≤ best.value) [
        | false ↦ λ some here. rest later other (omega arith) here
        | true ↦ λ some here. best.most later other (omega arith) here
      ]
    ] long is;
  }

  at_none : HaveNone n Low → HaveNone n High → HaveNone (suc n) D
  at_none low high [] other long is = absurd (omega arith)
  at_none low high (false ∷ later) other long is = low later other (omega arith) is
  at_none low high (true ∷ later) other long is = high later other (omega arith) is

  of_both : Greatest n Low ⊎ HaveNone n Low → Greatest n High ⊎ HaveNone n High → Greatest (suc n) D ⊎ HaveNone (suc n) D
  of_both (inl low) (inl high) = elim (cases_lt low.value high.value) [
    | inl less ↦ inl (at_high high (λ others other long is. let below = low.most others other long is in omega (arith, below, less)))
    | inr more ↦ inl (at_low low (λ others other long is. let below = high.most others other long is in omega (arith, below, more)))
  ]
  of_both (inl low) (inr none) = inl (at_low low (λ others other long is. absurd (none others other long is)))
  of_both (inr none) (inl high) = inl (at_high high (λ others other long is. absurd (none others other long is)))
  of_both (inr none) (inr neither) = inr (at_none none neither)

-- the greatest value of the lists of a length, where each has a greatest value or none
greatest : (n : ℕ) (D : List Bool → ℕ → Type 0)
    → ((bits : List Bool) → length bits ≡ n → Has D bits ⊎ ((value : ℕ) → D bits value → ⊥)) → Greatest n D ⊎ HaveNone n D
greatest zero D has = of_empty (has [] refl)
  where
    of_empty : Has D [] ⊎ ((value : ℕ) → D [] value → ⊥) → Greatest zero D ⊎ HaveNone zero D
    of_empty (inl one) = inl (record {
      bits = [];
      long = refl;
      value = one.value;
      is = one.is;
      most = λ others other long is. elim others as (λ bits. length bits ≡ 0 → D bits other → other ≤ one.value) [
        | [] ↦ λ none here. one.most other here
        | bit ∷ later ↦ λ none here. absurd (omega arith)
      ] long is;
    })
    of_empty (inr nothing) = inr (λ others other long is. elim others as (λ bits. length bits ≡ 0 → D bits other → ⊥) [
      | [] ↦ λ none here. nothing other here
      | bit ∷ later ↦ λ none here. omega arith
    ] long is)
greatest (suc n) D has =
    of_both n D (greatest n (λ bits. D (false ∷ bits)) (λ bits long. behind false bits (has (false ∷ bits) (omega arith))))
    (greatest n (λ bits. D (true ∷ bits)) (λ bits long. behind true bits (has (true ∷ bits) (omega arith))))
  where
    behind : (bit : Bool) (bits : List Bool) → Has D (bit ∷ bits) ⊎ ((value : ℕ) → D (bit ∷ bits) value → ⊥)
        → Has (λ later. D (bit ∷ later)) bits ⊎ ((value : ℕ) → D (bit ∷ bits) value → ⊥)
    behind bit bits (inl one) = inl (record { value = one.value; is = one.is; most = one.most })
    behind bit bits (inr nothing) = inr nothing

-- ---- the delays of admitted pairs

abbrev pub pair_of : List Bool → List Bool → Pair
pair_of first second = record { first = first; second = second }

module _ (given : Setting) (admit : Admitted) (acyclic : IsAcyclic given.netlist) (fit : AreMoments given.netlist given.moments)
    (size : length admit.pins ≡ 2 * length given.netlist.inputs) where
  abbrev inputs : ℕ
  inputs = length given.netlist.inputs

  -- an admitted pair has this delay
  abbrev Of : List Bool → List Bool → ℕ → Type 0
  Of first second delay = IsAdmitted admit (pair_of first second) × IsDelayOfBits given first second delay

  pair_has : (first second : List Bool) → length first ≡ inputs → length second ≡ inputs
      → Has (Of first) second ⊎ ((delay : ℕ) → Of first second delay → ⊥)
  pair_has first second f s = go (admitted_decided admit (pair_of first second))
    where
      go : Decided (IsAdmitted admit (pair_of first second)) → Has (Of first) second ⊎ ((delay : ℕ) → Of first second delay → ⊥)
      go (inr other) = inr (λ delay of_pair. other of_pair.0)
      go (inl admitted) =
          let one = one_delay_lem given (map level_from first) (map level_from second) acyclic fit
          (length-map first level_from ∙ f) (length-map second level_from ∙ s) in
          inl (record {
            value = one.0;
            is = (admitted, one.1);
            most = λ other of_pair. (let same = one.2 other of_pair.1 in omega (arith, same));
          })

  -- the greatest delay of the admitted pairs with this first vector
  abbrev From : List Bool → ℕ → Type 0
  From first delay = (second : List Bool) × (length second ≡ inputs) × Of first second delay
      × ((others : List Bool) (other : ℕ) → length others ≡ inputs → Of first others other → other ≤ delay)

  best_from : (first : List Bool) → length first ≡ inputs → Greatest inputs (Of first) ⊎ HaveNone inputs (Of first)
  best_from first f = greatest inputs (Of first) (λ second s. pair_has first second f s)

  from_has : (first : List Bool) → length first ≡ inputs → Has From first ⊎ ((delay : ℕ) → From first delay → ⊥)
  from_has first f = go (best_from first f)
    where
      go : Greatest inputs (Of first) ⊎ HaveNone inputs (Of first) → Has From first ⊎ ((delay : ℕ) → From first delay → ⊥)
      go (inl best) = inl (record {
        value = best.value;
        is = (best.bits, best.long, best.is, best.most);
        most = λ other of_first. best.most of_first.0 other of_first.1 of_first.2;
      })
      go (inr none) = inr (λ delay of_first. none of_first.0 delay of_first.1 of_first.2)

  -- an admitted pair with some delay is at most the greatest with its first vector
  under : (pair : Pair) (delay : ℕ) → IsAdmitted admit pair → IsDelayOfBits given pair.first pair.second delay
      → (greatest_of : ℕ) × From pair.first greatest_of × (delay ≤ greatest_of)
  under pair delay admitted is =
      let long = bits_long inputs admit.pins pair.first pair.second size admitted.pinned in
      go long.0 long.1 (best_from pair.first long.0)
    where
      go : length pair.first ≡ inputs → length pair.second ≡ inputs → Greatest inputs (Of pair.first) ⊎ HaveNone inputs (Of pair.first)
          → (greatest_of : ℕ) × From pair.first greatest_of × (delay ≤ greatest_of)
      go f s (inl best) = (best.value, (best.bits, best.long, best.is, best.most), best.most pair.second delay s (admitted, is))
      go f s (inr none) = absurd (none pair.second delay s (admitted, is))

  first_long : (pair : Pair) → IsAdmitted admit pair → length pair.first ≡ inputs
  first_long pair admitted = (bits_long inputs admit.pins pair.first pair.second size admitted.pinned).0

  second_long : (pair : Pair) → IsAdmitted admit pair → length pair.second ≡ inputs
  second_long pair admitted = (bits_long inputs admit.pins pair.first pair.second size admitted.pinned).1

pub one_worst_lem : OneWorst
one_worst_lem given admit acyclic fit size pair admitted =
    go (greatest (length given.netlist.inputs) (From given admit acyclic fit size) (λ first f. from_has given admit acyclic fit size first f))
  where
    go : Greatest (length given.netlist.inputs) (From given admit acyclic fit size)
        ⊎ HaveNone (length given.netlist.inputs) (From given admit acyclic fit size)
        → (worst : ℕ) × IsWorst given admit worst × ((other : ℕ) → IsWorst given admit other → other ≡ worst)
    go (inr none) =
        let f = first_long given admit acyclic fit size pair admitted in
        let s = second_long given admit acyclic fit size pair admitted in
        let one = one_delay_lem given (map level_from pair.first) (map level_from pair.second) acyclic fit
        (length-map pair.first level_from ∙ f) (length-map pair.second level_from ∙ s) in
        let best = under given admit acyclic fit size pair one.0 admitted one.1 in
        absurd (none pair.first best.0 f best.1)
    go (inl best) =
        let second = best.is in
        let above : IsUpperBound given admit best.value = λ other delay is_admitted of_pair.
        (let low = under given admit acyclic fit size other delay is_admitted of_pair in
        let most = best.most other.first low.0 (first_long given admit acyclic fit size other is_admitted) low.1 in
        omega (arith, low.2, most)) in (
          best.value,
          record { pair = pair_of best.bits second.0; admitted = second.2.0; reached = second.2.1; greatest = above },
          λ other worst.
              (let least = above worst.pair other worst.admitted worst.reached in
              let most = worst.greatest (pair_of best.bits second.0) best.value second.2.0 second.2.1 in
              omega (arith, least, most)),
        )
