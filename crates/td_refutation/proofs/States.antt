-- States: two with the same parts are the same.
use Rattle.std.proofs.Common.{◌≡◌, Bool, List, ap, ◌∙◌}
use Rattle.td_propagation.specs.declared.literal.Literal.{Literal}
use Rattle.td_spans.specs.declared.times.Times.{Times}
use Rattle.td_spans.specs.declared.variable.Variable.{Variable}
use Rattle.td_refutation.specs.Doing.{State}

abbrev pub state_with : List Variable → Bool → List Times → List (List Literal) → State
state_with variables begun times clauses = record { variables = variables; begun = begun; times = times; clauses = clauses }

pub same_state : (variables variables' : List Variable) (begun begun' : Bool) (times times' : List Times) (clauses clauses' : List (List Literal)) → variables ≡ variables'
    → begun ≡ begun' → times ≡ times' → clauses ≡ clauses' → state_with variables begun times clauses ≡ state_with variables' begun' times' clauses'
same_state variables variables' begun begun' times times' clauses clauses' v b t c =
    ap (λ x. state_with x begun times clauses) v ∙ ap (λ x. state_with variables' x times clauses) b ∙ ap (λ x. state_with variables' begun' x clauses) t
    ∙ ap (λ x. state_with variables' begun' times' x) c
