-- The words of conditions.
use Rattle.std.proofs.Common.{◌≡◌, ◌∙◌, ℕ, List, [], ◌∷◌, ◌++◌, sym, ap, append_assoc, append-nil}
use Rattle.std.specs.Prelude.{codes}
use Rattle.std.specs.List.{flat_map}
use Rattle.std.proofs.lemmas.List.Concat.{flat_map-cons}
use Rattle.td_refutation.specs.declared.conditions.NamedCondition.{NamedCondition}
use Rattle.td_certificate.specs.Text.{condition, behind_condition, conditions}

-- the first, and then each behind a space
pub kept : (c : NamedCondition) (cs : List NamedCondition) → condition c ++ flat_map behind_condition cs ≡ conditions (c ∷ cs)
kept c [] = append-nil (condition c)
kept c (d ∷ cs) =
    ap (λ (t : List ℕ). condition c ++ t)
    (flat_map-cons behind_condition d cs ∙ append_assoc (codes " ") (condition d) (flat_map behind_condition cs) ∙ ap (λ (t : List ℕ). codes " " ++ t) (kept d cs))
    ∙ sym (append_assoc (condition c) (codes " ") (conditions (d ∷ cs)))

pub some_pushed : (first : NamedCondition) (others : List NamedCondition) (old mid new : List ℕ) → mid ≡ old ++ condition first
    → new ≡ mid ++ flat_map behind_condition others → new ≡ old ++ conditions (first ∷ others)
some_pushed first others old mid new before after =
    after ∙ ap (λ (t : List ℕ). t ++ flat_map behind_condition others) before ∙ append_assoc old (condition first) (flat_map behind_condition others)
    ∙ ap (λ (t : List ℕ). old ++ t) (kept first others)
