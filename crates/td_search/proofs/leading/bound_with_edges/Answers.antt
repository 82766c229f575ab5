use Rattle.std.proofs.Common.{◌≡◌, Some, sym, ap, subst, ◌∙◌}
use Rattle.std.specs.Prelude.{unwrap_or}
use Rattle.td_circuit.specs.Numbering.{setting}
use Rattle.td_certificate.specs.declared.tree.BoundedBy.TheVariants.{EdgesAndPossible}
use Rattle.td_certificate.specs.Accepts.{IsBoundBy}
use Rattle.td_search.specs.declared.strategy.Strategy.TheVariants.{Lead}
use Rattle.td_search.proofs.Bounded.{strongest_some}
use Rattle.td_search.proofs.leading.bound_with_edges.Goals as goal

pub returns-clause-bound : goal.returns-clause-bound
returns-clause-bound c =
    let some = strongest_some Lead (setting c.args.circuit.now) c.args.edges.now.cube c.bound_together.result c.bound_together.ensures.bound in
    let is : c.bound_together.result ≡ Some c.unwrap_or.result = some.1 ∙ sym (ap Some (c.unwrap_or.ensures ∙ ap (λ o. unwrap_or o 0) some.1)) in
    subst (IsBoundBy EdgesAndPossible (setting c.args.circuit.now) c.args.edges.now.cube) is c.bound_together.ensures.bound

pub returns-clause-sound : goal.returns-clause-sound
returns-clause-sound c =
    let some = strongest_some Lead (setting c.args.circuit.now) c.args.edges.now.cube c.bound_together.result c.bound_together.ensures.bound in
    let is : c.bound_together.result ≡ Some c.unwrap_or.result = some.1 ∙ sym (ap Some (c.unwrap_or.ensures ∙ ap (λ o. unwrap_or o 0) some.1)) in
    c.bound_together.ensures.sound c.unwrap_or.result is

pub returns-clause-small : goal.returns-clause-small
returns-clause-small c =
    let some = strongest_some Lead (setting c.args.circuit.now) c.args.edges.now.cube c.bound_together.result c.bound_together.ensures.bound in
    let is : c.bound_together.result ≡ Some c.unwrap_or.result = some.1 ∙ sym (ap Some (c.unwrap_or.ensures ∙ ap (λ o. unwrap_or o 0) some.1)) in
    c.bound_together.ensures.small c.unwrap_or.result is
