-- Capped: what the lines of a refutation show of a cube, they show where no more inputs may differ
-- than there are.
use Rattle.std.proofs.Common.{◌≡◌, ℕ, zero, suc, ◌+◌, ◌-◌, ◌*◌, ◌<◌, ◌≤◌, min, Bool, true, false, ◌||◌, List, [], ◌∷◌, ◌++◌, length, get_or, Option, Some, None, inl, inr, ◌⊎◌, refl, sym, ap, subst, ◌∙◌, arith}
use Rattle.std.specs.Prelude.{map, slice_get, nat_le, ◌&&◌}
use Rattle.std.proofs.lemmas.Bool.{cases_eq, cases_lt, leb-true, le-leb, lt-leb, or_cases, and_parts}
use Rattle.td_circuit.specs.Settings.{Setting}
use Rattle.td_circuit.specs.Numbering.{Numbered}
use Rattle.td_domain.specs.declared.cubes.Trit.{Trit}
use Rattle.td_domain.specs.declared.cubes.Trit.TheVariants.{Zero, One, Free}
use Rattle.td_domain.specs.Admits.{Admitted}
use Rattle.td_edges.specs.declared.signals.Signal.{Signal}
use Rattle.td_propagation.specs.declared.literal.Literal.{Literal}
use Rattle.td_spans.specs.declared.variable.Variable.{Variable}
use Rattle.td_spans.specs.Changing.{sum_of, fixed_flip, fixed_at, is_so, is_still}
use Rattle.td_spans.specs.Clauses.{level_is}
use Rattle.td_spans.specs.Pairs.{flips_of, flips_or, first_flips, reaches, held_differs, is_empty, narrowed, is_pairs_clause}
use Rattle.td_spans.specs.Signals.{signal_by, times_from, input_at, inputs_to, gates_from, first_times}
use Rattle.td_spans.specs.declared.times.Times.{Times}
use Rattle.td_spans.specs.Endings.{ends_empty}
use Rattle.td_refutation.specs.Doing.{state_to}
use Rattle.td_refutation.specs.Emptied.{IsEmptied}
use Rattle.td_refutation.specs.Asking.{Asking, asked_in}
use Rattle.td_refutation.specs.Lines.{Step}
use Rattle.td_refutation.specs.Whole.{IsOfSetting, IsRefuted}
use Rattle.td_refutation.proofs.Questions.{GoesOver, good_goes, refuted_goes}
use Rattle.td_certificate.specs.Accepts.{Shows}

-- no more inputs differ than there are
abbrev pub capped : Admitted → Admitted
capped admit = record admit { flips = min admit.flips (length admit.held) }

-- the same conditions on pairs with no more flips than there are inputs
abbrev pub capped_asking : Asking → Asking
capped_asking asking = record { admit = capped asking.admit; keep = asking.keep }

-- ---- still inputs

flip_low : (first second : Option Trit) → fixed_flip first second ≤ 1
flip_low None second = omega arith
flip_low (Some Zero) None = omega arith
flip_low (Some Zero) (Some Zero) = omega arith
flip_low (Some Zero) (Some One) = omega arith
flip_low (Some Zero) (Some Free) = omega arith
flip_low (Some One) None = omega arith
flip_low (Some One) (Some Zero) = omega arith
flip_low (Some One) (Some One) = omega arith
flip_low (Some One) (Some Free) = omega arith
flip_low (Some Free) second = omega arith

sum_few : (f : ℕ → ℕ) → ((j : ℕ) → f j ≤ 1) → (n : ℕ) → sum_of f n ≤ n
sum_few f each zero = omega arith
sum_few f each (suc n) = let rest = sum_few f each n in let here = each n in omega arith

sum_less : (f : ℕ → ℕ) → ((j : ℕ) → f j ≤ 1) → (n i : ℕ) → i < n → sum_of f n - f i < n
sum_less f each zero i low = absurd (omega arith)
sum_less f each (suc n) i low = elim (cases_eq i n) [
  | inl same ↦ (let few = sum_few f each n in subst (λ (k : ℕ). sum_of f (suc n) - f k < suc n) (sym same) (omega arith))
  | inr other ↦ (let rest = sum_less f each n i (omega arith) in let here = each n in omega arith)
]

-- whether a sum below the count reaches the flips
le_capped : (flips n x : ℕ) → x < n → nat_le (min flips n) x ≡ nat_le flips x
le_capped flips n x low = elim (cases_lt n flips) [
  | inl more ↦ lt-leb (min flips n) x (omega arith) ∙ sym (lt-leb flips x (omega arith))
  | inr few ↦ (let same : min flips n ≡ flips = omega arith in ap (λ (k : ℕ). nat_le k x) same)
]

-- ---- the clauses of pairs

-- a list's first count, or the rest whatever that is
abbrev Picked : (ℕ × ℕ → ℕ × ℕ) → Type 0
Picked f = ((x : ℕ × ℕ) × ((rest : ℕ × ℕ) → f rest ≡ x)) ⊎ ((rest : ℕ × ℕ) → f rest ≡ rest)

pick_or : (same : Bool) (flips : Option (ℕ × ℕ)) (f : ℕ × ℕ → ℕ × ℕ) → Picked f → Picked (λ rest. flips_or same flips (f rest))
pick_or true None f picked = picked
pick_or true (Some some) f picked = inl (some, λ rest. refl)
pick_or false flips f picked = picked

pick : (variables : List Variable) (clause : List Literal) → Picked (λ rest. first_flips true variables clause rest)
pick variables [] = inr (λ rest. refl)
pick variables (literal ∷ clause) =
    pick_or (level_is literal.positive true) (flips_of (slice_get variables literal.variable)) (λ rest. first_flips true variables clause rest) (pick variables clause)

reaches_less : (cube : List Trit) (low : ℕ × ℕ) (inputs more fewer : ℕ) → fewer ≤ more → reaches cube low (inputs, more + 1) ≡ true → reaches cube low (inputs, fewer + 1) ≡ true
reaches_less cube low inputs more fewer le is =
    let sum : ℕ = low.1 + (sum_of (fixed_at cube) inputs - sum_of (fixed_at cube) low.0) in
    let both = and_parts (nat_le low.0 inputs) (nat_le (more + 1) sum) is in
    let reached = leb-true (more + 1) sum both.1 in
    ap (λ (b : Bool). b && nat_le (fewer + 1) sum) both.0 ∙ le-leb (fewer + 1) sum (omega (arith, le, reached))

empty_less : (held : List Bool) (low : ℕ × ℕ) (inputs more fewer : ℕ) → fewer ≤ more → (narrow : Option (List Trit)) → is_empty held low (inputs, more + 1) narrow ≡ true
    → is_empty held low (inputs, fewer + 1) narrow ≡ true
empty_less held low inputs more fewer le None is = refl
empty_less held low inputs more fewer le (Some cube) is = elim (or_cases (held_differs held cube (length held)) (reaches cube low (inputs, more + 1)) is) [
  | inl differs ↦ ap (λ (b : Bool). b || reaches cube low (inputs, fewer + 1)) differs
  | inr reached ↦ or_right (held_differs held cube (length held)) (reaches cube low (inputs, fewer + 1)) (reaches_less cube low inputs more fewer le reached)
]
  where
    or_right : (a b : Bool) → b ≡ true → (a || b) ≡ true
    or_right true b is = refl
    or_right false b is = is

picked_less : (inputs : ℕ) (admit : Admitted) (held : List Bool) (low : ℕ × ℕ) (narrow : Option (List Trit)) (first : ℕ × ℕ → ℕ × ℕ) → Picked first
    → is_empty held low (first (inputs, admit.flips + 1)) narrow ≡ true → is_empty held low (first (inputs, min admit.flips (length admit.held) + 1)) narrow ≡ true
picked_less inputs admit held low narrow first (inl picked) is =
    let same = picked.1 (inputs, min admit.flips (length admit.held) + 1) in
    let was = picked.1 (inputs, admit.flips + 1) in
    ap (λ (high : ℕ × ℕ). is_empty held low high narrow) (same ∙ sym was) ∙ is
picked_less inputs admit held low narrow first (inr rest) is =
    let now = rest (inputs, min admit.flips (length admit.held) + 1) in
    let was = rest (inputs, admit.flips + 1) in
    ap (λ (high : ℕ × ℕ). is_empty held low high narrow) now
    ∙ empty_less held low inputs admit.flips (min admit.flips (length admit.held)) (omega arith) narrow
    (sym (ap (λ (high : ℕ × ℕ). is_empty held low high narrow) was) ∙ is)

pairs_less : (inputs : ℕ) (admit : Admitted) (cube : List Trit) (variables : List Variable) (clause : List Literal) → is_pairs_clause inputs admit cube variables clause ≡ true
    → is_pairs_clause inputs (capped admit) cube variables clause ≡ true
pairs_less inputs admit cube variables clause is =
    picked_less inputs admit admit.held (first_flips false variables clause (0, 0)) (narrowed variables cube clause) (λ rest. first_flips true variables clause rest)
    (pick variables clause) is

-- ---- lines

module _ (circuit : Numbered) (admit : Admitted) (cube : List Trit) (helds : length admit.held ≡ length circuit.netlist.inputs) where
  abbrev count : ℕ
  count = length circuit.netlist.inputs

  still_same : (input : ℕ) → input < count → is_still (capped admit) cube count input ≡ is_still admit cube count input
  still_same input low =
      let less = sum_less (fixed_at cube) (λ j. flip_low (slice_get cube (2 * j)) (slice_get cube (2 * j + 1))) count input low in
      ap (λ (b : Bool). is_so (slice_get admit.held input) || b)
      (ap (λ (n : ℕ). nat_le (min admit.flips n) (sum_of (fixed_at cube) count - fixed_at cube input)) helds
      ∙ le_capped admit.flips count (sum_of (fixed_at cube) count - fixed_at cube input) less)

  input_same : (input : ℕ) → input < count → input_at (capped admit) cube circuit.moments count input ≡ input_at admit cube circuit.moments count input
  input_same input low = ap (λ (still : Bool). signal_by still (slice_get cube (2 * input)) (slice_get cube (2 * input + 1)) (get_or circuit.moments input 0)) (still_same input low)

  inputs_same : (n : ℕ) → n ≤ count → inputs_to (capped admit) cube circuit.moments count n ≡ inputs_to admit cube circuit.moments count n
  inputs_same zero low = refl
  inputs_same (suc n) low =
      ap (λ (signals : List Signal). signals ++ input_at (capped admit) cube circuit.moments count n ∷ []) (inputs_same n (omega arith))
      ∙ ap (λ (signal : Signal). inputs_to admit cube circuit.moments count n ++ signal ∷ []) (input_same n (omega arith))

  times_same : first_times circuit (capped admit) cube ≡ first_times circuit admit cube
  times_same = ap (λ (signals : List Signal). map times_from (gates_from signals circuit.gates)) (inputs_same count (omega arith))

goes_fewer : (given : Setting) (asking : Asking) (cube : List Trit) → length asking.admit.held ≡ length given.netlist.inputs → (circuit : Numbered) → IsOfSetting given circuit
    → GoesOver circuit (asked_in circuit asking) (asked_in circuit (capped_asking asking)) cube cube
goes_fewer given asking cube helds circuit of = record {
  times = sym (times_same circuit asking.admit cube (helds ∙ ap (λ (s : Setting). length s.netlist.inputs) (sym of.is)));
  pairs = λ variables clause is. pairs_less (length circuit.netlist.inputs) asking.admit cube variables clause is;
  keep = λ variables clause is. is;
}

pub refuted_fewer : (given : Setting) (asking : Asking) (cube : List Trit) (steps : List Step) (bound : ℕ) → length asking.admit.held ≡ length given.netlist.inputs
    → IsRefuted given asking cube steps bound → IsRefuted given (capped_asking asking) cube steps bound
refuted_fewer given asking cube steps bound helds = refuted_goes given asking (capped_asking asking) cube cube steps bound (goes_fewer given asking cube helds)

emptied_fewer : (given : Setting) (asking : Asking) (cube : List Trit) (steps : List Step) → length asking.admit.held ≡ length given.netlist.inputs
    → IsEmptied given asking cube steps → IsEmptied given (capped_asking asking) cube steps
emptied_fewer given asking cube steps helds h =
    let over = goes_fewer given asking cube helds h.circuit h.of_setting in
    record {
      circuit = h.circuit;
      of_setting = h.of_setting;
      good = good_goes h.circuit (asked_in h.circuit asking) (asked_in h.circuit (capped_asking asking)) cube cube over steps h.good;
      empty = subst (λ (times : List Times). ends_empty (state_to h.circuit (record { variables = []; begun = false; times = times; clauses = [] }) steps).clauses ≡ true)
          over.times h.empty;
    }

-- what steps show of a cube, they show where no more inputs may differ than there are
pub shows_fewer : (given : Setting) (asking : Asking) (cube : List Trit) (steps : List Step) (bound : Option ℕ) → length asking.admit.held ≡ length given.netlist.inputs
    → Shows given asking cube steps bound → Shows given (capped_asking asking) cube steps bound
shows_fewer given asking cube steps None helds shows = emptied_fewer given asking cube steps helds shows
shows_fewer given asking cube steps (Some bound) helds shows = refuted_fewer given asking cube steps bound helds shows
