-- Whether a search has conditions.
use Rattle.std.proofs.Common.{◌≡◌, ◌≢◌, ℕ, List, [], ◌∷◌, Bool, true, false, refl, sym, subst, arith}
use Rattle.std.specs.List.{Contains}
use Rattle.td_nets.specs.Netlist.{Netlist}
use Rattle.td_reading.specs.declared.reading.Reading.{Reading}
use Rattle.td_refutation.specs.declared.conditions.NamedCondition.{NamedCondition}
use Rattle.td_request.specs.declared.question.Question.{Question}
use Rattle.td_request.specs.declared.request.Search.{Search}
use Rattle.td_question.specs.Asking.{keep_quotes}
use Rattle.td_question.specs.KeepLines.{Quote}
use Rattle.td_question.specs.Keeping.{AreConditions}
use Rattle.td_answer.specs.declared.outcome.Outcome.{Outcome}
use Rattle.td_answer.specs.Certified.{IsCertified}
use Rattle.td_answer.specs.Conditions.{IsTrueBy, IsTrueSearch, IsCertifiedBy, IsCertifiedFor}
use Rattle.td_answer.specs.Kept.{has_some, has_conditions, IsTrueKept, IsCertifiedAmong}
use Rattle.td_answer.specs.Answered.{PrintsAnswer, PrintsKept, PrintsAnswerBy, IsPrintOfSearch}
use Rattle.td_answer.specs.Sentences.{IsTrueWorst}

none_in : {A : Type 0} (x : A) → Contains [] x → ⊥
none_in x there = omega (arith, there.1)

no_word : (netlist : Netlist) (quotes : List Quote) → AreConditions netlist quotes [] → has_some quotes ≡ false
no_word netlist [] are = refl
no_word netlist (quote ∷ quotes) are = let said = are.each quote (0, omega arith, refl) in absurd (none_in said.0 said.1)

some_word : (netlist : Netlist) (quotes : List Quote) (condition : NamedCondition) (keep : List NamedCondition) → AreConditions netlist quotes (condition ∷ keep)
    → has_some quotes ≡ true
some_word netlist [] condition keep are = let quote = are.said condition (0, omega arith, refl) in absurd (none_in quote.0 quote.1)
some_word netlist (quote ∷ quotes) condition keep are = refl

module _ (question : Question) (netlist : Netlist) where
  -- nothing is said of conditions where there is no condition
  pub without : (keep : List NamedCondition) → AreConditions netlist (keep_quotes question) keep → keep ≡ [] → has_conditions question ≡ false
  without keep are none = no_word netlist (keep_quotes question) (subst (AreConditions netlist (keep_quotes question)) none are)

  -- and something where there is one
  pub with_some : (keep : List NamedCondition) → AreConditions netlist (keep_quotes question) keep → keep ≢ [] → has_conditions question ≡ true
  with_some [] are some = absurd (some refl)
  with_some (condition ∷ keep) are some = some_word netlist (keep_quotes question) condition keep are

-- ---- what is true of the outcome

pub true_without : (text : List ℕ) (reading : Reading) (search : Search) (outcome : Outcome) → has_conditions search.question ≡ false
    → IsTrueWorst text reading search outcome → IsTrueSearch text reading search outcome
true_without text reading search outcome none is = subst (λ (b : Bool). IsTrueBy b text reading search outcome) (sym none) is

pub true_with : (text : List ℕ) (reading : Reading) (search : Search) (outcome : Outcome) → has_conditions search.question ≡ true
    → IsTrueKept text reading search outcome → IsTrueSearch text reading search outcome
true_with text reading search outcome some is = subst (λ (b : Bool). IsTrueBy b text reading search outcome) (sym some) is

pub certified_without : (text : List ℕ) (reading : Reading) (search : Search) (outcome : Outcome) → has_conditions search.question ≡ false
    → IsCertified text reading search outcome.report outcome.certificate
    → IsCertifiedFor text reading search outcome.report outcome.certificate
certified_without text reading search outcome none is =
    subst (λ (b : Bool). IsCertifiedBy b text reading search outcome.report outcome.certificate) (sym none) is

pub certified_with : (text : List ℕ) (reading : Reading) (search : Search) (outcome : Outcome) → has_conditions search.question ≡ true
    → IsCertifiedAmong text reading search outcome.report outcome.certificate
    → IsCertifiedFor text reading search outcome.report outcome.certificate
certified_with text reading search outcome some is =
    subst (λ (b : Bool). IsCertifiedBy b text reading search outcome.report outcome.certificate) (sym some) is

-- ---- what the report says of the search

pub printed_without : (can_stop : Bool) (text : List ℕ) (reading : Reading) (search : Search) (outcome : Outcome) → has_conditions search.question ≡ false
    → PrintsAnswer can_stop text reading search outcome → IsPrintOfSearch can_stop text reading search outcome
printed_without can_stop text reading search outcome none is = subst (λ (b : Bool). PrintsAnswerBy b can_stop text reading search outcome) (sym none) is

pub printed_with : (can_stop : Bool) (text : List ℕ) (reading : Reading) (search : Search) (outcome : Outcome) → has_conditions search.question ≡ true
    → PrintsKept can_stop text reading search outcome → IsPrintOfSearch can_stop text reading search outcome
printed_with can_stop text reading search outcome some is = subst (λ (b : Bool). PrintsAnswerBy b can_stop text reading search outcome) (sym some) is
