-- Soundness: what hints show is true wherever their clauses are.
use Rattle.std.proofs.Common.{◌≡◌, ℕ, zero, suc, Bool, true, false, List, [], ◌∷◌, ◌++◌, ◌≤◌, ◌⊎◌, arith, length, get_or, replicate, Option, Some, None, refl, sym, ◌∙◌, ap, subst, inl, inr, get_or-set_other, get_or-set_same}
use Rattle.std.specs.Prelude.{not, ◌||◌, slice_get, if◌then◌else◌}
use Rattle.std.proofs.lemmas.Bool.{cases_eq, cases_lt, cases_Bool, and_parts, eqb-true}
use Rattle.std.proofs.lemmas.List.{get_or_past}
use Rattle.std.proofs.lemmas.List.Elements.{All-push}
use Rattle.std.proofs.lemmas.Option.{get_or_from_slice_get, slice_get_within}
use Rattle.std.proofs.Math.ListN.{length-set}
use Rattle.td_propagation.specs.declared.literal.Literal.{Literal}
use Rattle.td_propagation.specs.declared.left.Left.{Left}
use Rattle.td_propagation.specs.declared.left.Left.TheVariants.{Nothing, One, Several}
use Rattle.td_propagation.specs.declared.denied.Mark.{Mark}
use Rattle.td_propagation.specs.declared.denied.Mark.TheVariants.{Neither, Negative, Positive, Both}
use Rattle.td_propagation.specs.declared.clauses.Outcome.TheVariants.{Shown}
use Rattle.td_propagation.specs.Literals.{negation, signed, is_same, literal_true, clause_true, IsTrueUnder}
use Rattle.td_propagation.specs.Marks.{no_mark, with_mark, mark_of, is_denied, denied, all_denied}
use Rattle.td_propagation.specs.Propagating.{left_with, left_from, left_of}
use Rattle.td_propagation.specs.Following.{hint_left, marks_after, follow_at, follow, shown_by, AreTrue}

signed_same : (one other value : Bool) → signed one other ≡ true → signed one value ≡ signed other value
signed_same true true value same = refl
signed_same true false value same = cc
signed_same false true value same = cc
signed_same false false value same = refl

pub negation_false : (positive value : Bool) → signed positive value ≡ true → signed (not positive) value ≡ false
negation_false true true is = refl
negation_false true false is = cc
negation_false false true is = cc
negation_false false false is = refl

same_true : (valuation : ℕ → Bool) (one other : Literal) → is_same one other ≡ true → literal_true valuation one ≡ literal_true valuation other
same_true valuation one other same =
    let parts = and_parts _ _ same in
    ap (λ variable. signed one.positive (valuation variable)) (eqb-true one.variable other.variable parts.0)
    ∙ signed_same one.positive other.positive (valuation other.variable) parts.1

-- what is taken to be false is false
abbrev pub Agrees : (ℕ → Bool) → List Mark → Type 0
Agrees valuation marks = (literal : Literal) → is_denied marks literal ≡ true → literal_true valuation literal ≡ false

agrees_nothing : (valuation : ℕ → Bool) (n : ℕ) → Agrees valuation (replicate n no_mark)
agrees_nothing valuation n literal is = absurd (nothing n literal.variable literal.positive is)
  where
    unmarked : (positive : Bool) → mark_of no_mark positive ≡ true → ⊥
    unmarked true is = cc
    unmarked false is = cc

    nothing : (n variable : ℕ) (positive : Bool) → mark_of (get_or {A = Mark} (replicate n no_mark) variable no_mark) positive ≡ true → ⊥
    nothing zero variable positive is = unmarked positive is
    nothing (suc n) zero positive is = unmarked positive is
    nothing (suc n) (suc variable) positive is = nothing n variable positive is

-- a mark more
marked : (mark : Mark) (one other : Bool) → mark_of (with_mark mark one) other ≡ true → (mark_of mark other ≡ true) ⊎ (other ≡ one)
marked Neither true true is = inr refl
marked Neither true false is = inl is
marked Neither false true is = inl is
marked Neither false false is = inr refl
marked Negative true true is = inr refl
marked Negative true false is = inl refl
marked Negative false true is = inl is
marked Negative false false is = inr refl
marked Positive true true is = inr refl
marked Positive true false is = inl is
marked Positive false true is = inl refl
marked Positive false false is = inr refl
marked Both true true is = inr refl
marked Both true false is = inl refl
marked Both false true is = inl refl
marked Both false false is = inr refl

agrees_denied : (valuation : ℕ → Bool) (marks : List Mark) (literal : Literal) → Agrees valuation marks
    → literal_true valuation literal ≡ false → Agrees valuation (denied marks literal)
agrees_denied valuation marks literal agrees fails other is = elim (cases_eq other.variable literal.variable) [
  | inr apart ↦ agrees other (rw (get_or-set_other marks literal.variable other.variable (with_mark (get_or marks literal.variable no_mark) literal.positive) no_mark apart) at is)
  | inl same ↦ elim (cases_lt literal.variable (length marks)) [
    | inr past ↦
        let gone = get_or_past marks other.variable no_mark (let p : length marks ≤ other.variable = omega arith in p) in
        let still = get_or_past (denied marks literal) other.variable no_mark (let l = length-set marks literal.variable (with_mark (get_or marks literal.variable no_mark) literal.positive) in omega arith) in
        agrees other (rw gone (rw still at is))
    | inl low ↦
        let here : get_or (denied marks literal) other.variable no_mark ≡ with_mark (get_or marks literal.variable no_mark) literal.positive =
        ap (λ v. get_or (denied marks literal) v no_mark) same ∙ get_or-set_same marks literal.variable (with_mark (get_or marks literal.variable no_mark) literal.positive) no_mark low in
        let now : mark_of (with_mark (get_or marks literal.variable no_mark) literal.positive) other.positive ≡ true = sym (ap (λ m. mark_of m other.positive) here) ∙ is in
        elim (marked (get_or marks literal.variable no_mark) literal.positive other.positive now) [
          | inl before ↦ agrees other (ap (λ v. mark_of (get_or marks v no_mark) other.positive) same ∙ before)
          | inr sign ↦ ap (λ v. signed other.positive (valuation v)) same ∙ ap (λ s. signed s (valuation literal.variable)) sign ∙ fails
        ]
  ]
]

or_none : (one other : Bool) → (one || other) ≡ false → (one ≡ false) × (other ≡ false)
or_none true other none = cc
or_none false other none = (refl, none)

agrees_all_denied : (valuation : ℕ → Bool) (marks : List Mark) (clause : List Literal) → Agrees valuation marks
    → clause_true valuation clause ≡ false → Agrees valuation (all_denied marks clause)
agrees_all_denied valuation marks [] agrees fails = agrees
agrees_all_denied valuation marks (literal ∷ clause) agrees fails =
    let parts = or_none (literal_true valuation literal) (clause_true valuation clause) fails in
    agrees_all_denied valuation (denied marks literal) clause (agrees_denied valuation marks literal agrees parts.0) parts.1

-- what is claimed by what is left: that one of it is true
claims : (ℕ → Bool) → Left → Bool
claims valuation Nothing = false
claims valuation (One literal) = literal_true valuation literal
claims valuation Several = true

with_same : (valuation : ℕ → Bool) (one other : Literal) (rest : Bool) (same : Bool) → is_same one other ≡ same
    → (literal_true valuation one || (literal_true valuation other || rest)) ≡ true
    → (claims valuation (if same then One one else Several) || rest) ≡ true
unfolding claims
with_same valuation one other rest false is holds = refl
with_same valuation one other rest true is holds = twice (literal_true valuation one) (literal_true valuation other) rest (same_true valuation one other is) holds
  where
    twice : (a b rest : Bool) → a ≡ b → (a || (b || rest)) ≡ true → (a || rest) ≡ true
    twice true b rest same holds = refl
    twice false true rest same holds = cc
    twice false false rest same holds = holds

with_claims : (valuation : ℕ → Bool) (left : Left) (literal : Literal) (rest : Bool) → (claims valuation left || (literal_true valuation literal || rest)) ≡ true
    → (claims valuation (left_with left literal) || rest) ≡ true
unfolding claims
with_claims valuation Nothing literal rest holds = holds
with_claims valuation (One other) literal rest holds = with_same valuation other literal rest (is_same other literal) refl holds
with_claims valuation Several literal rest holds = refl

next_claims : (valuation : ℕ → Bool) (left : Left) (literal : Literal) (rest : Bool) (out : Bool) → (out ≡ true → literal_true valuation literal ≡ false)
    → (claims valuation left || (literal_true valuation literal || rest)) ≡ true
    → (claims valuation (if out then left else left_with left literal) || rest) ≡ true
next_claims valuation left literal rest true fails holds = rw (fails refl) at holds
next_claims valuation left literal rest false fails holds = with_claims valuation left literal rest holds

claims_from : (valuation : ℕ → Bool) (marks : List Mark) (left : Left) (clause : List Literal) → Agrees valuation marks
    → (claims valuation left || clause_true valuation clause) ≡ true → claims valuation (left_from marks left clause) ≡ true
claims_from valuation marks left [] agrees holds = or_false (claims valuation left) holds
  where
    or_false : (one : Bool) → (one || false) ≡ true → one ≡ true
    or_false true is = refl
    or_false false is = is
claims_from valuation marks left (literal ∷ clause) agrees holds =
    claims_from valuation marks (if is_denied marks literal then left else left_with left literal) clause agrees
    (next_claims valuation left literal (clause_true valuation clause) (is_denied marks literal) (agrees literal) holds)

claims_of : (valuation : ℕ → Bool) (marks : List Mark) (clause : List Literal) → Agrees valuation marks → IsTrueUnder valuation clause
    → claims valuation (left_of marks clause) ≡ true
unfolding claims
claims_of valuation marks clause agrees holds = claims_from valuation marks Nothing clause agrees holds

-- what a hint's clause says, if it has one
abbrev LeftClaims : (ℕ → Bool) → Option Left → Type 0
LeftClaims valuation None = Unit {0}
LeftClaims valuation (Some left) = claims valuation left ≡ true

hint_claims : (valuation : ℕ → Bool) (marks : List Mark) (clause : Option (List Literal)) → Agrees valuation marks
    → ((it : List Literal) → clause ≡ Some it → IsTrueUnder valuation it) → LeftClaims valuation (hint_left marks clause)
hint_claims valuation marks None agrees holds = tt
hint_claims valuation marks (Some clause) agrees holds = claims_of valuation marks clause agrees (holds clause refl)

after_agrees : (valuation : ℕ → Bool) (marks : List Mark) (left : Option Left) → Agrees valuation marks → LeftClaims valuation left
    → Agrees valuation (marks_after marks left)
unfolding claims
after_agrees valuation marks None agrees holds = agrees
after_agrees valuation marks (Some Nothing) agrees holds = agrees
after_agrees valuation marks (Some (One literal)) agrees holds =
    agrees_denied valuation marks (negation literal) agrees (negation_false literal.positive (valuation literal.variable) holds)
after_agrees valuation marks (Some Several) agrees holds = agrees

hinted_true : (valuation : ℕ → Bool) (clauses : List (List Literal)) (hint : ℕ) (clause : List Literal) → AreTrue valuation clauses
    → slice_get clauses hint ≡ Some clause → IsTrueUnder valuation clause
hinted_true valuation clauses hint clause holds is =
    subst (λ (it : List Literal). IsTrueUnder valuation it) (get_or_from_slice_get clauses hint clause clause is)
    (holds hint clause (slice_get_within clauses hint clause is))

module _ (valuation : ℕ → Bool) (clauses : List (List Literal)) (all : AreTrue valuation clauses) where
  -- hints of true clauses never lead from literals that are false to a clause that is
  never_shown : (marks : List Mark) (hints : List ℕ) → Agrees valuation marks → follow clauses marks hints ≡ Shown → ⊥
  unfolding claims
  never_shown marks [] agrees is = cc
  never_shown marks (hint ∷ hints) agrees is =
      let says = hint_claims valuation marks (slice_get clauses hint) agrees (λ it there. hinted_true valuation clauses hint it all there) in
      by_left (hint_left marks (slice_get clauses hint)) says
      (never_shown (marks_after marks (hint_left marks (slice_get clauses hint))) hints
      (after_agrees valuation marks (hint_left marks (slice_get clauses hint)) agrees says)) is
    where
      by_left : (left : Option Left) → LeftClaims valuation left
          → (follow clauses (marks_after marks (hint_left marks (slice_get clauses hint))) hints ≡ Shown → ⊥)
          → follow_at left (follow clauses (marks_after marks (hint_left marks (slice_get clauses hint))) hints) ≡ Shown → ⊥
      by_left None says rest is = cc
      by_left (Some Nothing) says rest is = cc
      by_left (Some (One literal)) says rest is = rest is
      by_left (Some Several) says rest is = cc

-- What hints show is true under each valuation under which their clauses are.
pub shown_true : (valuation : ℕ → Bool) (clauses : List (List Literal)) (variables : ℕ) (literals : List Literal) (hints : List ℕ)
    → AreTrue valuation clauses → shown_by clauses variables literals hints ≡ Shown → IsTrueUnder valuation literals
shown_true valuation clauses variables literals hints all shown = elim (cases_Bool (clause_true valuation literals)) [
  | inl holds ↦ holds
  | inr fails ↦ absurd (never_shown valuation clauses all (all_denied (replicate variables no_mark) literals) hints
      (agrees_all_denied valuation (replicate variables no_mark) literals (agrees_nothing valuation variables) fails) shown)
]

pub one_more_true : (valuation : ℕ → Bool) (clauses after : List (List Literal)) (clause : List Literal) → after ≡ clauses ++ clause ∷ []
    → AreTrue valuation clauses → IsTrueUnder valuation clause → AreTrue valuation after
one_more_true valuation clauses after clause is all holds = rw is (All-push (IsTrueUnder valuation) clauses clause all holds)
