-- RenamedPairs: clauses of pairs and of conditions are those of the same nets by other numbers.
use Rattle.std.proofs.Common.{◌≡◌, ℕ, ◌+◌, ◌-◌, ◌*◌, ◌≤◌, Bool, true, false, List, [], ◌∷◌, length, map, set, Option, Some, None, inl, inr, refl, ap, sym, ◌∙◌, arith}
use Rattle.std.specs.Prelude.{◌==◌, nat_lt, not, ◌&&◌, ◌||◌, slice_get, option_map, option_and_then, if◌then◌else◌}
use Rattle.std.proofs.lemmas.Bool.{cases_lt}
use Rattle.std.proofs.lemmas.Option.{slice_get_past}
use Rattle.std.proofs.Math.ListN.{length-set}
use Rattle.td_gates.proofs.Places.{some-same, none-some}
use Rattle.td_circuit.specs.Numbering.{Numbered, first_output}
use Rattle.td_domain.specs.declared.cubes.Trit.{Trit}
use Rattle.td_domain.specs.declared.cubes.Trit.TheVariants.{Zero, One, Free}
use Rattle.td_domain.specs.Admits.{Admitted}
use Rattle.td_propagation.specs.declared.literal.Literal.{Literal}
use Rattle.td_spans.specs.declared.condition.Condition.{Condition}
use Rattle.td_spans.specs.declared.variable.Variable.{Variable}
use Rattle.td_spans.specs.declared.variable.Variable.TheVariants.{First, Last, Span, Flips}
use Rattle.td_spans.specs.Clauses.{level_is}
use Rattle.td_spans.specs.Pairs.{trit_of, position_of, denied_bit, with_trit, with_bit, narrowed, flips_of, flips_or, first_flips, is_empty, is_pairs_clause}
use Rattle.td_spans.specs.Conditions.{form_asks, is_equal, asks_level, asks_equal, keeps_one, is_last_of, keeps_two, is_keep_clause}
use Rattle.td_refutation.proofs.Renaming.{renamed_variable, renamed_condition, IsRenaming, same_test}
use Rattle.td_refutation.proofs.RenamedClauses.{found}

-- ---- pairs

-- a bit at a position that a cube doesn't have changes nothing
no_bit : (cube : List Trit) (position : ℕ) (bit constant : Bool) → slice_get cube position ≡ None
    → with_bit cube (if constant then None else Some (position, bit)) ≡ Some cube
no_bit cube position bit true none = refl
no_bit cube position bit false none = ap (with_trit cube position bit) none

beyond : (cube : List Trit) (inputs net side : ℕ) (bit : Bool) → length cube ≡ 2 * inputs → inputs + 2 ≤ net
    → with_bit cube (position_of net side bit) ≡ Some cube
beyond cube inputs net side bit whole high =
    no_bit cube (2 * (net - 2) + side) bit (nat_lt net 2) (slice_get_past cube (2 * (net - 2) + side) (let w = whole in let h = high in omega arith))

trit_long : (cube : List Trit) (position : ℕ) (bit : Bool) (trit : Option Trit) (narrow : List Trit) → with_trit cube position bit trit ≡ Some narrow
    → length narrow ≡ length cube
trit_long cube position bit None narrow is = ap length (sym (some-same cube narrow is))
trit_long cube position bit (Some Free) narrow is =
    ap length (sym (some-same (set cube position (trit_of bit)) narrow is)) ∙ length-set cube position (trit_of bit)
trit_long cube position true (Some Zero) narrow is = absurd (none-some narrow is)
trit_long cube position false (Some Zero) narrow is = ap length (sym (some-same cube narrow is))
trit_long cube position true (Some One) narrow is = ap length (sym (some-same cube narrow is))
trit_long cube position false (Some One) narrow is = absurd (none-some narrow is)

bit_long : (cube : List Trit) (bit : Option (ℕ × Bool)) (narrow : List Trit) → with_bit cube bit ≡ Some narrow → length narrow ≡ length cube
bit_long cube None narrow is = ap length (sym (some-same cube narrow is))
bit_long cube (Some it) narrow is = trit_long cube it.0 it.1 (slice_get cube it.0) narrow is

flips_same : (r : ℕ → ℕ) (v : Option Variable) → flips_of (option_map (renamed_variable r) v) ≡ flips_of v
flips_same r None = refl
flips_same r (Some (First net)) = refl
flips_same r (Some (Last net)) = refl
flips_same r (Some (Span saying)) = refl
flips_same r (Some (Flips inputs count)) = refl

module _ (this that : Numbered) (r : ℕ → ℕ) (renaming : IsRenaming this that r) (low : r 0 ≡ 0) (high : r 1 ≡ 1) (variables : List Variable) where
  found_at : (x : ℕ) → slice_get (map (renamed_variable r) variables) x ≡ option_map (renamed_variable r) (slice_get variables x)
  found_at = found r renaming.one_one low high variables

  position_same : (cube : List Trit) → length cube ≡ 2 * length this.netlist.inputs → (net side : ℕ) (bit : Bool)
      → with_bit cube (position_of (r net) side bit) ≡ with_bit cube (position_of net side bit)
  position_same cube whole net side bit = elim (cases_lt net (first_output this)) [
    | inl below ↦ ap (λ n. with_bit cube (position_of n side bit)) (renaming.fixed net below)
    | inr above ↦ beyond cube (length this.netlist.inputs) (r net) side bit whole (renaming.behind net above)
        ∙ sym (beyond cube (length this.netlist.inputs) net side bit whole above)
  ]

  denied_same : (cube : List Trit) → length cube ≡ 2 * length this.netlist.inputs → (positive : Bool) (v : Option Variable)
      → with_bit cube (denied_bit positive (option_map (renamed_variable r) v)) ≡ with_bit cube (denied_bit positive v)
  denied_same cube whole positive None = refl
  denied_same cube whole positive (Some (First net)) = position_same cube whole net 0 (not positive)
  denied_same cube whole positive (Some (Last net)) = position_same cube whole net 1 (not positive)
  denied_same cube whole positive (Some (Span saying)) = refl
  denied_same cube whole positive (Some (Flips inputs count)) = refl

  then_same : (clause : List Literal) (cube : List Trit) (bit : Option (ℕ × Bool)) → length cube ≡ 2 * length this.netlist.inputs
      → ((narrow : List Trit) → length narrow ≡ 2 * length this.netlist.inputs
      → narrowed (map (renamed_variable r) variables) narrow clause ≡ narrowed variables narrow clause)
      → (o : Option (List Trit)) → with_bit cube bit ≡ o
      → option_and_then (λ narrow. narrowed (map (renamed_variable r) variables) narrow clause) o ≡ option_and_then (λ narrow. narrowed variables narrow clause) o
  then_same clause cube bit whole same None is = refl
  then_same clause cube bit whole same (Some narrow) is = same narrow (bit_long cube bit narrow is ∙ whole)

  narrowed_same : (clause : List Literal) (cube : List Trit) → length cube ≡ 2 * length this.netlist.inputs
      → narrowed (map (renamed_variable r) variables) cube clause ≡ narrowed variables cube clause
  narrowed_same [] cube whole = refl
  narrowed_same (literal ∷ clause) cube whole =
      let bit : Option (ℕ × Bool) = denied_bit literal.positive (slice_get variables literal.variable) in
      ap (option_and_then (λ narrow. narrowed (map (renamed_variable r) variables) narrow clause))
      (ap (λ v. with_bit cube (denied_bit literal.positive v)) (found_at literal.variable) ∙ denied_same cube whole literal.positive (slice_get variables literal.variable))
      ∙ then_same clause cube bit whole (λ narrow long. narrowed_same clause narrow long) (with_bit cube bit) refl

  first_same : (sign : Bool) (clause : List Literal) (rest : ℕ × ℕ)
      → first_flips sign (map (renamed_variable r) variables) clause rest ≡ first_flips sign variables clause rest
  first_same sign [] rest = refl
  first_same sign (literal ∷ clause) rest =
      ap (λ v. flips_or (level_is literal.positive sign) (flips_of v) (first_flips sign (map (renamed_variable r) variables) clause rest)) (found_at literal.variable)
      ∙ ap (λ flips. flips_or (level_is literal.positive sign) flips (first_flips sign (map (renamed_variable r) variables) clause rest))
      (flips_same r (slice_get variables literal.variable))
      ∙ ap (flips_or (level_is literal.positive sign) (flips_of (slice_get variables literal.variable))) (first_same sign clause rest)

  pub pairs_same : (inputs : ℕ) (admit : Admitted) (cube : List Trit) (clause : List Literal) → length cube ≡ 2 * length this.netlist.inputs
      → is_pairs_clause inputs admit cube (map (renamed_variable r) variables) clause ≡ is_pairs_clause inputs admit cube variables clause
  pairs_same inputs admit cube clause whole =
      ap (λ flips. is_empty admit.held flips (first_flips true (map (renamed_variable r) variables) clause (inputs, admit.flips + 1))
      (narrowed (map (renamed_variable r) variables) cube clause)) (first_same false clause (0, 0))
      ∙ ap (λ flips. is_empty admit.held (first_flips false variables clause (0, 0)) flips (narrowed (map (renamed_variable r) variables) cube clause))
      (first_same true clause (inputs, admit.flips + 1))
      ∙ ap (is_empty admit.held (first_flips false variables clause (0, 0)) (first_flips true variables clause (inputs, admit.flips + 1))) (narrowed_same clause cube whole)

  -- ---- conditions

  asks_same : (keep : List Condition) (net : ℕ) (last bit : Bool) → asks_level (map (renamed_condition r) keep) (r net) last bit ≡ asks_level keep net last bit
  asks_same [] net last bit = refl
  asks_same (condition ∷ keep) net last bit =
      ap (λ b. (b && form_asks condition.form last bit) || asks_level (map (renamed_condition r) keep) (r net) last bit) (same_test r renaming.one_one condition.net net)
      ∙ ap (λ b. (condition.net == net && form_asks condition.form last bit) || b) (asks_same keep net last bit)

  equal_same : (keep : List Condition) (net : ℕ) → asks_equal (map (renamed_condition r) keep) (r net) ≡ asks_equal keep net
  equal_same [] net = refl
  equal_same (condition ∷ keep) net =
      ap (λ b. (b && is_equal condition.form) || asks_equal (map (renamed_condition r) keep) (r net)) (same_test r renaming.one_one condition.net net)
      ∙ ap (λ b. (condition.net == net && is_equal condition.form) || b) (equal_same keep net)

  one_same : (keep : List Condition) (positive : Bool) (v : Option Variable)
      → keeps_one (map (renamed_condition r) keep) positive (option_map (renamed_variable r) v) ≡ keeps_one keep positive v
  one_same keep positive None = refl
  one_same keep positive (Some (First net)) = asks_same keep net false positive
  one_same keep positive (Some (Last net)) = asks_same keep net true positive
  one_same keep positive (Some (Span saying)) = refl
  one_same keep positive (Some (Flips inputs count)) = refl

  last_same : (net : ℕ) (v : Option Variable) → is_last_of (r net) (option_map (renamed_variable r) v) ≡ is_last_of net v
  last_same net None = refl
  last_same net (Some (First other)) = refl
  last_same net (Some (Last other)) = same_test r renaming.one_one other net
  last_same net (Some (Span saying)) = refl
  last_same net (Some (Flips inputs count)) = refl

  two_same : (keep : List Condition) (one : Bool) (v : Option Variable) (two : Bool) (other : Option Variable)
      → keeps_two (map (renamed_condition r) keep) one (option_map (renamed_variable r) v) two (option_map (renamed_variable r) other) ≡ keeps_two keep one v two other
  two_same keep one None two other = refl
  two_same keep one (Some (First net)) two other =
      ap (λ b. b && (level_is one (not two) && asks_equal (map (renamed_condition r) keep) (r net))) (last_same net other)
      ∙ ap (λ b. is_last_of net other && (level_is one (not two) && b)) (equal_same keep net)
  two_same keep one (Some (Last net)) two other = refl
  two_same keep one (Some (Span saying)) two other = refl
  two_same keep one (Some (Flips inputs count)) two other = refl

  pub keep_same : (keep : List Condition) (clause : List Literal)
      → is_keep_clause (map (renamed_condition r) keep) (map (renamed_variable r) variables) clause ≡ is_keep_clause keep variables clause
  keep_same keep [] = refl
  keep_same keep (one ∷ []) =
      ap (keeps_one (map (renamed_condition r) keep) one.positive) (found_at one.variable) ∙ one_same keep one.positive (slice_get variables one.variable)
  keep_same keep (one ∷ two ∷ []) =
      ap (λ v. keeps_two (map (renamed_condition r) keep) one.positive v two.positive (slice_get (map (renamed_variable r) variables) two.variable)) (found_at one.variable)
      ∙ ap (keeps_two (map (renamed_condition r) keep) one.positive (option_map (renamed_variable r) (slice_get variables one.variable)) two.positive) (found_at two.variable)
      ∙ two_same keep one.positive (slice_get variables one.variable) two.positive (slice_get variables two.variable)
  keep_same keep (one ∷ two ∷ more ∷ clause) = refl
