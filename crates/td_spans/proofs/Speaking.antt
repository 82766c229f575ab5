-- Speaking: what a literal says holds where it is true, and it is true where that holds.
use Rattle.std.proofs.Common.{◌≡◌, ℕ, zero, suc, ◌+◌, ◌-◌, ◌<◌, ◌≤◌, max, Bool, true, false, List, refl, arith, sym, ◌∙◌, subst, inl, inr, Option, Some, None}
use Rattle.std.specs.Prelude.{slice_get, nat_le, ◌&&◌}
use Rattle.std.proofs.lemmas.Bool.{cases_lt, cases_eq, le-leb, leb-true, and_parts, and_from}
use Rattle.std.proofs.lemmas.Option.{none-some}
use Rattle.td_gates.proofs.Places.{some-same}
use Rattle.td_propagation.specs.declared.literal.Literal.{Literal}
use Rattle.td_propagation.specs.Literals.{signed, literal_true}
use Rattle.td_spans.specs.declared.times.Times.{Times}
use Rattle.td_spans.specs.declared.variable.Saying.{Saying}
use Rattle.td_spans.specs.declared.variable.Variable.{Variable}
use Rattle.td_spans.specs.declared.variable.Variable.TheVariants.{First, Last, Span, Flips}
use Rattle.td_spans.specs.Times.{is_by, place_for, AreAllTimes}
use Rattle.td_spans.specs.Sayings.{Holds, differs_at, Means, AreMeant, start_saying, end_saying, said_of, says}
use Rattle.td_spans.specs.Changing.{sum_of}

pub signed_value : (positive value : Bool) → signed positive value ≡ true → value ≡ positive
signed_value true value is = is
signed_value false true is = cc
signed_value false false is = refl

pub value_signed : (positive value : Bool) → value ≡ positive → signed positive value ≡ true
value_signed true value is = is
value_signed false true is = cc
value_signed false false is = refl

module _ (level : ℕ → ℕ → Bool) (final : ℕ → Bool) (times : List Times) (right : AreAllTimes times level final)
    (variables : List Variable) (valuation : ℕ → Bool) (meant : AreMeant level final variables valuation) where
  start_holds : (net : ℕ) (positive : Bool) (o : Option Times) (s : Saying) → slice_get times net ≡ o → level net 0 ≡ positive
      → start_saying net positive o ≡ Some s → Holds level s
  start_holds net positive None s at is said = absurd (none-some s said)
  start_holds net positive (Some it) s at is said =
      subst (Holds level) (some-same (record { net = net; level = positive; first = 0; last = it.early }) s said)
      (λ n from to. (right net it at).keeps n to ∙ is)

  end_holds : (net : ℕ) (positive : Bool) (o : Option Times) (s : Saying) → slice_get times net ≡ o → final net ≡ positive
      → end_saying net positive o ≡ Some s → Holds level s
  end_holds net positive None s at is said = absurd (none-some s said)
  end_holds net positive (Some it) s at is said =
      subst (Holds level) (some-same (record { net = net; level = positive; first = place_for it.ends positive; last = None }) s said)
      (λ n from to. (right net it at).rests n (rw is from) ∙ is)

  -- What a true literal says holds.
  pub said_holds : (literal : Literal) (s : Saying) → says variables times literal ≡ Some s → literal_true valuation literal ≡ true → Holds level s
  said_holds literal s = go literal.positive (slice_get variables literal.variable) refl
    where
      go : (positive : Bool) (o : Option Variable) → slice_get variables literal.variable ≡ o → said_of times positive o ≡ Some s
          → signed positive (valuation literal.variable) ≡ true → Holds level s
      go positive None at said is = absurd (none-some s said)
      go positive (Some (First net)) at said is =
          start_holds net positive (slice_get times net) s refl (sym (meant literal.variable (First net) at) ∙ signed_value positive (valuation literal.variable) is) said
      go positive (Some (Last net)) at said is =
          end_holds net positive (slice_get times net) s refl (sym (meant literal.variable (Last net) at) ∙ signed_value positive (valuation literal.variable) is) said
      go true (Some (Span saying)) at said is = subst (Holds level) (some-same saying s said) ((meant literal.variable (Span saying) at).0 is)
      go false (Some (Span saying)) at said is = absurd (none-some s said)
      go positive (Some (Flips i k)) at said is = absurd (none-some s said)

  start_said : (net : ℕ) (positive : Bool) (o : Option Times) (s : Saying) → start_saying net positive o ≡ Some s → Holds level s → level net 0 ≡ positive
  start_said net positive None s said holds = absurd (none-some s said)
  start_said net positive (Some it) s said holds =
      let it_holds : Holds level (record { net = net; level = positive; first = 0; last = it.early }) =
      subst (Holds level) (sym (some-same (record { net = net; level = positive; first = 0; last = it.early }) s said)) holds in
      it_holds 0 (omega arith) (at_zero it.early)
    where
      at_zero : (o : Option ℕ) → is_by 0 o ≡ true
      at_zero None = refl
      at_zero (Some n) = le-leb 0 n (omega arith)

  end_said : (net : ℕ) (positive : Bool) (o : Option Times) (s : Saying) → slice_get times net ≡ o → end_saying net positive o ≡ Some s → Holds level s → final net ≡ positive
  end_said net positive None s at said holds = absurd (none-some s said)
  end_said net positive (Some it) s at said holds =
      let it_holds : Holds level (record { net = net; level = positive; first = place_for it.ends positive; last = None }) =
      subst (Holds level) (sym (some-same (record { net = net; level = positive; first = place_for it.ends positive; last = None }) s said)) holds in
      let late : ℕ = max (place_for it.ends positive) (place_for it.ends (final net)) in
      sym ((right net it at).rests late (omega arith)) ∙ it_holds late (omega arith) refl

  -- A literal is true where what it says holds.
  pub holds_said : (literal : Literal) (s : Saying) → says variables times literal ≡ Some s → Holds level s → literal_true valuation literal ≡ true
  holds_said literal s = go literal.positive (slice_get variables literal.variable) refl
    where
      go : (positive : Bool) (o : Option Variable) → slice_get variables literal.variable ≡ o → said_of times positive o ≡ Some s
          → Holds level s → signed positive (valuation literal.variable) ≡ true
      go positive None at said holds = absurd (none-some s said)
      go positive (Some (First net)) at said holds =
          value_signed positive (valuation literal.variable) (meant literal.variable (First net) at ∙ start_said net positive (slice_get times net) s said holds)
      go positive (Some (Last net)) at said holds =
          value_signed positive (valuation literal.variable) (meant literal.variable (Last net) at ∙ end_said net positive (slice_get times net) s refl said holds)
      go true (Some (Span saying)) at said holds = (meant literal.variable (Span saying) at).1 (subst (Holds level) (sym (some-same saying s said)) holds)
      go false (Some (Span saying)) at said holds = absurd (none-some s said)
      go positive (Some (Flips i k)) at said holds = absurd (none-some s said)

-- whether a net is at a level at as many places from one on
abbrev pub is_at : (ℕ → Bool) → Bool → ℕ → ℕ → Bool
is_at levels v first zero = true
is_at levels v first (suc count) = is_at levels v first count && signed v (levels (first + count))

is_at_true : (levels : ℕ → Bool) (v : Bool) (first count : ℕ) → ((n : ℕ) → first ≤ n → n < first + count → levels n ≡ v) → is_at levels v first count ≡ true
is_at_true levels v first zero all = refl
is_at_true levels v first (suc count) all =
    and_from _ _ (is_at_true levels v first count (λ n from to. all n from (omega arith)))
    (value_signed v (levels (first + count)) (all (first + count) (omega arith) (omega arith)))

is_at_all : (levels : ℕ → Bool) (v : Bool) (first count : ℕ) → is_at levels v first count ≡ true → (n : ℕ) → first ≤ n → n < first + count → levels n ≡ v
is_at_all levels v first zero is n from to = absurd (omega arith)
is_at_all levels v first (suc count) is n from to =
    let both = and_parts (is_at levels v first count) (signed v (levels (first + count))) is in
    elim (cases_eq n (first + count)) [
      | inl last ↦ rw last (signed_value v (levels (first + count)) both.1)
      | inr other ↦ is_at_all levels v first count both.0 n from (omega arith)
    ]

-- whether a net that stands still from a place on is at a level at all places of a span
abbrev pub spans : (ℕ → Bool) → ℕ → Bool → ℕ → Option ℕ → Bool
spans levels rest v first None = is_at levels v first (rest + 1)
spans levels rest v first (Some last) = is_at levels v first (last + 1 - first)

spans_holds : (level : ℕ → ℕ → Bool) (s : Saying) (rest : ℕ) → ((n : ℕ) → rest ≤ n → level s.net n ≡ level s.net rest)
    → (spans (level s.net) rest s.level s.first s.last ≡ true → Holds level s) × (Holds level s → spans (level s.net) rest s.level s.first s.last ≡ true)
spans_holds level s rest still = go s.last
  where
    go : (last : Option ℕ) → (spans (level s.net) rest s.level s.first last ≡ true → (n : ℕ) → s.first ≤ n → is_by n last ≡ true → level s.net n ≡ s.level)
        × (((n : ℕ) → s.first ≤ n → is_by n last ≡ true → level s.net n ≡ s.level) → spans (level s.net) rest s.level s.first last ≡ true)
    go None = (
      λ is n from to. elim (cases_lt n (s.first + (rest + 1))) [
        | inl near ↦ is_at_all (level s.net) s.level s.first (rest + 1) is n from near
        | inr far ↦ still n (omega arith) ∙ sym (still (s.first + rest) (omega arith))
            ∙ is_at_all (level s.net) s.level s.first (rest + 1) is (s.first + rest) (omega arith) (omega arith)
      ],
      λ all. is_at_true (level s.net) s.level s.first (rest + 1) (λ n from to. all n from refl),
    )
    go (Some last) = (
      λ is n from to.
          let low = leb-true n last to in
          is_at_all (level s.net) s.level s.first (last + 1 - s.first) is n from (omega arith),
      λ all. is_at_true (level s.net) s.level s.first (last + 1 - s.first) (λ n from to. all n from (le-leb n last (omega arith))),
    )

-- the value that a variable means, where nets stand still from these places on
abbrev pub value_of : (ℕ → ℕ → Bool) → (ℕ → Bool) → (ℕ → ℕ) → Option Variable → Bool
value_of level final rest None = false
value_of level final rest (Some (First net)) = level net 0
value_of level final rest (Some (Last net)) = final net
value_of level final rest (Some (Span s)) = spans (level s.net) (rest s.net) s.level s.first s.last
value_of level final rest (Some (Flips inputs count)) = nat_le count (sum_of (differs_at level final) inputs)

-- Each list of variables has a valuation that says what they mean, where nets stand still from some
-- place on.
pub meant_exists : (level : ℕ → ℕ → Bool) (final : ℕ → Bool) (rest : ℕ → ℕ) → ((net n : ℕ) → rest net ≤ n → level net n ≡ level net (rest net))
    → (variables : List Variable) → (valuation : ℕ → Bool) × AreMeant level final variables valuation
meant_exists level final rest still variables = (
  λ x. value_of level final rest (slice_get variables x),
  λ x variable at. subst (λ (o : Option Variable). Means level final variable (value_of level final rest o)) (sym at) (means variable),
)
  where
    means : (variable : Variable) → Means level final variable (value_of level final rest (Some variable))
    means (First net) = refl
    means (Last net) = refl
    means (Span s) = spans_holds level s (rest s.net) (still s.net)
    means (Flips inputs count) = refl
