-- Conditioning: the clauses of conditions are true of the pairs that keep them.
use Rattle.std.proofs.Common.{◌≡◌, ℕ, suc, Bool, true, false, List, [], ◌∷◌, refl, ap, sym, ◌∙◌, inl, inr, Option, Some, None}
use Rattle.std.specs.Prelude.{slice_get, not, ◌&&◌, ◌||◌, ◌==◌}
use Rattle.std.proofs.lemmas.Bool.{and_parts, or_left, or_cases, eqb-true}
use Rattle.td_gates.specs.Table.{level_from}
use Rattle.td_propagation.specs.declared.literal.Literal.{Literal}
use Rattle.td_propagation.specs.Literals.{signed, IsTrueUnder}
use Rattle.td_spans.specs.declared.condition.Form.{Form}
use Rattle.td_spans.specs.declared.condition.Form.TheVariants.{Levels, Equal}
use Rattle.td_spans.specs.declared.condition.Condition.{Condition}
use Rattle.td_spans.specs.declared.variable.Variable.{Variable}
use Rattle.td_spans.specs.declared.variable.Variable.TheVariants.{First, Last, Span, Flips}
use Rattle.td_spans.specs.Sayings.{AreMeant}
use Rattle.td_spans.specs.Clauses.{level_is}
use Rattle.td_spans.specs.Conditions.{Keeps, form_asks, is_equal, asks_level, asks_equal, keeps_one, is_last_of, keeps_two, is_keep_clause}
use Rattle.td_spans.proofs.Speaking.{value_signed}
use Rattle.td_spans.proofs.Truth.{known_target}

level_same : (a b : Bool) → level_is a b ≡ true → a ≡ b
level_same true true is = refl
level_same true false is = cc
level_same false true is = cc
level_same false false is = refl

one_so : (p q x y : Bool) → p ≡ not q → x ≡ y → (signed p x || (signed q y || false)) ≡ true
one_so true true x y apart same = cc
one_so false false x y apart same = cc
one_so true false true y apart same = refl
one_so true false false true apart same = cc
one_so true false false false apart same = refl
one_so false true false y apart same = refl
one_so false true true true apart same = refl
one_so false true true false apart same = cc

module _ (level : ℕ → ℕ → Bool) (final : ℕ → Bool) (variables : List Variable) (valuation : ℕ → Bool) (meant : AreMeant level final variables valuation) where
  abbrev at_rest : Bool → ℕ → Bool
  at_rest false net = level net 0
  at_rest true net = final net

  -- all conditions are kept
  abbrev AreKept : List Condition → Type 0
  AreKept keep = (i : ℕ) (condition : Condition) → slice_get keep i ≡ Some condition → Keeps condition.form (level condition.net 0) (final condition.net)

  form_level : (form : Form) (last v : Bool) (net : ℕ) → Keeps form (level net 0) (final net) → form_asks form last v ≡ true → at_rest last net ≡ v
  form_level (Levels first second) false v net keeps is = known_target v (level net 0) first (level_from (level net 0)) is keeps.0 refl
  form_level (Levels first second) true v net keeps is = known_target v (final net) second (level_from (final net)) is keeps.1 refl
  form_level Equal last v net keeps is = cc

  form_equal : (form : Form) (net : ℕ) → Keeps form (level net 0) (final net) → is_equal form ≡ true → level net 0 ≡ final net
  form_equal (Levels first second) net keeps is = cc
  form_equal Equal net keeps is = keeps

  level_asked : (keep : List Condition) → AreKept keep → (net : ℕ) (last v : Bool) → asks_level keep net last v ≡ true → at_rest last net ≡ v
  level_asked [] kept net last v is = cc
  level_asked (condition ∷ keep) kept net last v is =
      elim (or_cases (condition.net == net && form_asks condition.form last v) (asks_level keep net last v) is) [
        | inl here ↦
            let both = and_parts (condition.net == net) (form_asks condition.form last v) here in
            ap (at_rest last) (sym (eqb-true condition.net net both.0)) ∙ form_level condition.form last v condition.net (kept 0 condition refl) both.1
        | inr later ↦ level_asked keep (λ i other at. kept (suc i) other at) net last v later
      ]

  equal_asked : (keep : List Condition) → AreKept keep → (net : ℕ) → asks_equal keep net ≡ true → level net 0 ≡ final net
  equal_asked [] kept net is = cc
  equal_asked (condition ∷ keep) kept net is =
      elim (or_cases (condition.net == net && is_equal condition.form) (asks_equal keep net) is) [
        | inl here ↦
            let both = and_parts (condition.net == net) (is_equal condition.form) here in
            let same : condition.net ≡ net = eqb-true condition.net net both.0 in
            ap (λ (n : ℕ). level n 0) (sym same) ∙ form_equal condition.form condition.net (kept 0 condition refl) both.1 ∙ ap final same
        | inr later ↦ equal_asked keep (λ i other at. kept (suc i) other at) net later
      ]

  one_kept : (keep : List Condition) → AreKept keep → (positive : Bool) (x : ℕ) (o : Option Variable) → slice_get variables x ≡ o → keeps_one keep positive o ≡ true
      → signed positive (valuation x) ≡ true
  one_kept keep kept positive x None at is = cc
  one_kept keep kept positive x (Some (First net)) at is =
      value_signed positive (valuation x) (meant x (First net) at ∙ level_asked keep kept net false positive is)
  one_kept keep kept positive x (Some (Last net)) at is =
      value_signed positive (valuation x) (meant x (Last net) at ∙ level_asked keep kept net true positive is)
  one_kept keep kept positive x (Some (Span s)) at is = cc
  one_kept keep kept positive x (Some (Flips i k)) at is = cc

  last_value : (net y : ℕ) (o : Option Variable) → slice_get variables y ≡ o → is_last_of net o ≡ true → valuation y ≡ final net
  last_value net y None at is = cc
  last_value net y (Some (First other)) at is = cc
  last_value net y (Some (Last other)) at is = meant y (Last other) at ∙ ap final (eqb-true other net is)
  last_value net y (Some (Span s)) at is = cc
  last_value net y (Some (Flips i k)) at is = cc

  two_kept : (keep : List Condition) → AreKept keep → (one : Bool) (x : ℕ) (o : Option Variable) (two : Bool) (y : ℕ) → slice_get variables x ≡ o
      → keeps_two keep one o two (slice_get variables y) ≡ true → (signed one (valuation x) || (signed two (valuation y) || false)) ≡ true
  two_kept keep kept one x None two y at is = cc
  two_kept keep kept one x (Some (First net)) two y at is =
      let a = and_parts (is_last_of net (slice_get variables y)) (level_is one (not two) && asks_equal keep net) is in
      let b = and_parts (level_is one (not two)) (asks_equal keep net) a.1 in
      one_so one two (valuation x) (valuation y) (level_same one (not two) b.0)
      (meant x (First net) at ∙ equal_asked keep kept net b.1 ∙ sym (last_value net y (slice_get variables y) refl a.0))
  two_kept keep kept one x (Some (Last net)) two y at is = cc
  two_kept keep kept one x (Some (Span s)) two y at is = cc
  two_kept keep kept one x (Some (Flips i k)) two y at is = cc

  -- The clause of a condition is true.
  pub keep_true : (keep : List Condition)
      → ((i : ℕ) (condition : Condition) → slice_get keep i ≡ Some condition → Keeps condition.form (level condition.net 0) (final condition.net))
      → (clause : List Literal) → is_keep_clause keep variables clause ≡ true → IsTrueUnder valuation clause
  keep_true keep kept [] is = cc
  keep_true keep kept (one ∷ []) is = or_left _ _ (one_kept keep kept one.positive one.variable (slice_get variables one.variable) refl is)
  keep_true keep kept (one ∷ two ∷ []) is =
      two_kept keep kept one.positive one.variable (slice_get variables one.variable) two.positive two.variable refl is
  keep_true keep kept (one ∷ two ∷ more ∷ clause) is = cc
