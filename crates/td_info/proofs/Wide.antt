-- The range of the delays of a circuit's gates.
use Rattle.std.proofs.Common.{◌≡◌, ◌⊎◌, ℕ, zero, suc, ◌+◌, ◌≤◌, drop, List, [], ◌∷◌, length, Option, Some, None, refl, sym, ap, subst, arith, inl, inr}
use Rattle.std.specs.Prelude.{slice_get, min, max}
use Rattle.std.specs.List.{Contains}
use Rattle.std.proofs.lemmas.Bool.{cases_lt}
use Rattle.td_gates.specs.declared.timing.Delay.{Delay}
use Rattle.td_gates.proofs.Places.{slice_get-Contains}
use Rattle.td_nets.specs.Netlist.{Gate}
use Rattle.td_circuit.specs.Numbering.{Numbered, NumberedGate, IsNumbering}
use Rattle.td_circuit.proofs.Nets.{gate_at, place_of}
use Rattle.td_info.specs.declared.ranges.Range.{Range}
use Rattle.td_info.specs.Sizes.{IsDelayIn, HasRange}
use Rattle.td_info.specs.Ranges.{widened, ranged}

-- the range is that of these numbers
pub record Spans (P : ℕ → Type 0) (range : Range) : Type 0 where
  pub least : P range.least
  pub greatest : P range.greatest
  pub between : (steps : ℕ) → P steps → (range.least ≤ steps) × (steps ≤ range.greatest)

abbrev pub Holds : (ℕ → Type 0) → Option Range → Type 0
Holds P None = (steps : ℕ) → ¬ P steps
Holds P (Some range) = Spans P range

-- the steps are one of the two delays
abbrev pub IsOf : Delay → ℕ → Type 0
IsOf delay steps = (steps ≡ delay.rise) ⊎ (steps ≡ delay.fall)

min_of : (delay : Delay) → IsOf delay (min delay.rise delay.fall)
min_of delay = elim (cases_lt delay.rise delay.fall) [
  | inl less ↦ inl (omega (arith, less))
  | inr more ↦ inr (omega (arith, more))
]

max_of : (delay : Delay) → IsOf delay (max delay.rise delay.fall)
max_of delay = elim (cases_lt delay.rise delay.fall) [
  | inl less ↦ inr (omega (arith, less))
  | inr more ↦ inl (omega (arith, more))
]

within : (delay : Delay) (steps : ℕ) → IsOf delay steps → (min delay.rise delay.fall ≤ steps) × (steps ≤ max delay.rise delay.fall)
within delay steps (inl is) = (omega (arith, is), omega (arith, is))
within delay steps (inr is) = (omega (arith, is), omega (arith, is))

one_of_two : (P Q : ℕ → Type 0) (x y z : ℕ) → P x → Q y → (z ≡ x) ⊎ (z ≡ y) → P z ⊎ Q z
one_of_two P Q x y z p q (inl is) = inl (subst P (sym is) p)
one_of_two P Q x y z p q (inr is) = inr (subst Q (sym is) q)

cases_min : (x y : ℕ) → (min x y ≡ x) ⊎ (min x y ≡ y)
cases_min x y = elim (cases_lt x y) [
  | inl less ↦ inl (omega (arith, less))
  | inr more ↦ inr (omega (arith, more))
]

cases_max : (x y : ℕ) → (max x y ≡ x) ⊎ (max x y ≡ y)
cases_max x y = elim (cases_lt x y) [
  | inl less ↦ inr (omega (arith, less))
  | inr more ↦ inl (omega (arith, more))
]

widens : (P : ℕ → Type 0) (range : Option Range) (delay : Delay) → Holds P range → Spans (λ steps. P steps ⊎ IsOf delay steps) (widened range delay)
widens P None delay none = record {
  least = inr (min_of delay);
  greatest = inr (max_of delay);
  between = λ steps is. elim is [
    | inl before ↦ absurd (none steps before)
    | inr here ↦ within delay steps here
  ];
}
widens P (Some range) delay spans =
    let low : ℕ = min delay.rise delay.fall in
    let high : ℕ = max delay.rise delay.fall in
    record {
      least = one_of_two P (IsOf delay) range.least low _ spans.least (min_of delay) (cases_min range.least low);
      greatest = one_of_two P (IsOf delay) range.greatest high _ spans.greatest (max_of delay) (cases_max range.greatest high);
      between = λ steps is. elim is [
        | inl before ↦ (let both = spans.between steps before in (omega (arith, both.0), omega (arith, both.1)))
        | inr here ↦ (let both = within delay steps here in (omega (arith, both.0), omega (arith, both.1)))
      ];
    }

-- a delay of one of these gates
abbrev pub Among : List NumberedGate → ℕ → Type 0
Among [] steps = ⊥
Among (gate ∷ others) steps = IsOf gate.delay steps ⊎ Among others steps

holds_same : (P Q : ℕ → Type 0) (range : Option Range) → ((steps : ℕ) → P steps → Q steps) → ((steps : ℕ) → Q steps → P steps) → Holds P range → Holds Q range
holds_same P Q None there back holds = λ steps is. holds steps (back steps is)
holds_same P Q (Some range) there back holds = record {
  least = there range.least holds.least;
  greatest = there range.greatest holds.greatest;
  between = λ steps is. holds.between steps (back steps is);
}

joined : (P A B : Type 0) → (P ⊎ A) ⊎ B → P ⊎ (A ⊎ B)
joined P A B (inl (inl p)) = inl p
joined P A B (inl (inr a)) = inr (inl a)
joined P A B (inr b) = inr (inr b)

parted : (P A B : Type 0) → P ⊎ (A ⊎ B) → (P ⊎ A) ⊎ B
parted P A B (inl p) = inl (inl p)
parted P A B (inr (inl a)) = inl (inr a)
parted P A B (inr (inr b)) = inr b

left : (P : Type 0) → P → P ⊎ ⊥
left P p = inl p

only : (P : Type 0) → P ⊎ ⊥ → P
only P (inl p) = p
only P (inr none) = absurd none

ranged_holds : (P : ℕ → Type 0) (range : Option Range) (gates : List NumberedGate) → Holds P range
    → Holds (λ steps. P steps ⊎ Among gates steps) (ranged range gates)
ranged_holds P range [] holds = holds_same P (λ steps. P steps ⊎ ⊥) range (λ steps is. left (P steps) is) (λ steps is. only (P steps) is) holds
ranged_holds P range (gate ∷ others) holds =
    holds_same (λ steps. (P steps ⊎ IsOf gate.delay steps) ⊎ Among others steps) (λ steps. P steps ⊎ (IsOf gate.delay steps ⊎ Among others steps))
    (ranged (Some (widened range gate.delay)) others)
    (λ steps is. joined (P steps) (IsOf gate.delay steps) (Among others steps) is)
    (λ steps is. parted (P steps) (IsOf gate.delay steps) (Among others steps) is)
    (ranged_holds (λ steps. P steps ⊎ IsOf gate.delay steps) (Some (widened range gate.delay)) others (widens P range gate.delay holds))

among_at : (gates : List NumberedGate) (i : ℕ) (gate : NumberedGate) (steps : ℕ) → slice_get gates i ≡ Some gate → IsOf gate.delay steps → Among gates steps
among_at [] i gate steps at is = absurd cc
among_at (first ∷ others) zero gate steps at is = (let same : first ≡ gate = cc in inl (subst (λ (g : NumberedGate). IsOf g.delay steps) (sym same) is))
among_at (first ∷ others) (suc i) gate steps at is = inr (among_at others i gate steps at is)

at_among : (gates : List NumberedGate) (steps : ℕ) → Among gates steps
    → (i : ℕ) × (gate : NumberedGate) × (slice_get gates i ≡ Some gate) × IsOf gate.delay steps
at_among [] steps among = absurd among
at_among (first ∷ others) steps (inl here) = (0, first, refl, here)
at_among (first ∷ others) steps (inr behind) = (let there = at_among others steps behind in (suc there.0, there.1, there.2, there.3))

module _ (circuit : Numbered) (numbering : IsNumbering circuit) where
  in_netlist : (steps : ℕ) → Among circuit.gates steps → IsDelayIn circuit.netlist steps
  in_netlist steps among =
      let there = at_among circuit.gates steps among in
      let gate = gate_at circuit numbering there.0 there.1 there.2 in
      (gate.0, gate.2, subst (λ (d : Delay). IsOf d steps) gate.3.delay there.3)

  in_circuit : (steps : ℕ) → IsDelayIn circuit.netlist steps → Among circuit.gates steps
  in_circuit steps is =
      let place = place_of circuit numbering is.0 is.1 in
      among_at circuit.gates place.0 place.1 steps place.2 (subst (λ (d : Delay). IsOf d steps) (sym place.4.delay) is.2)

  no_gates : (gates : List Gate) → ((gate : Gate) → ¬ Contains gates gate) → gates ≡ []
  no_gates [] none = refl
  no_gates (gate ∷ others) none = absurd (none gate (slice_get-Contains (gate ∷ others) 0 gate refl))

  has_range : (range : Option Range) → Holds (λ steps. ⊥ ⊎ Among circuit.gates steps) range → HasRange circuit.netlist range
  has_range None none = no_gates circuit.netlist.gates (λ gate has.
      none gate.delay.rise (inr (in_circuit gate.delay.rise (gate, has, inl refl))))
  has_range (Some range) spans = record {
    least = in_netlist range.least (behind range.least spans.least);
    greatest = in_netlist range.greatest (behind range.greatest spans.greatest);
    between = λ steps is. spans.between steps (inr (in_circuit steps is));
  }
    where
      behind : (steps : ℕ) → ⊥ ⊎ Among circuit.gates steps → Among circuit.gates steps
      behind steps (inl none) = absurd none
      behind steps (inr among) = among

  pub range_is : (range : Option Range) → range ≡ ranged None circuit.gates → HasRange circuit.netlist range
  range_is range is =
      subst (λ r. HasRange circuit.netlist r) (sym is)
      (has_range (ranged None circuit.gates) (ranged_holds (λ steps. ⊥) None circuit.gates (λ steps none. none)))

-- one gate more
pub range_more : (range : Option Range) (gates : List NumberedGate) (i : ℕ) (gate : NumberedGate) → slice_get gates i ≡ Some gate
    → ranged range (drop i gates) ≡ ranged (Some (widened range gate.delay)) (drop (i + 1) gates)
range_more range [] i gate at = absurd cc
range_more range (first ∷ others) zero gate at =
    (let same : first ≡ gate = cc in ap (λ (g : NumberedGate). ranged (Some (widened range g.delay)) others) same)
range_more range (first ∷ others) (suc i) gate at =
    let next : suc i + 1 ≡ suc (i + 1) = omega arith in
    rw next (range_more range others i gate at)

pub range_end : (range : Option Range) (gates : List NumberedGate) (i : ℕ) → length gates ≤ i → ranged range (drop i gates) ≡ range
range_end range [] zero past = refl
range_end range [] (suc i) past = refl
range_end range (first ∷ others) zero past = absurd (omega arith)
range_end range (first ∷ others) (suc i) past = range_end range others i (omega arith)
