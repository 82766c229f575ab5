use Rattle.std.proofs.Common.{◌≡◌, ◌<◌, ◌*◌, false, List, Some, length, refl, sym, subst}
use Rattle.std.specs.Prelude.{slice_get, All}
use Rattle.std.proofs.lemmas.Option.{slice_get_read}
use Rattle.std.proofs.lemmas.Result.{err_from_is_err_and}
use Rattle.td_domain.specs.Admits.{Admitted}
use Rattle.td_certificate.specs.declared.certificate.Certificate.{Certificate}
use Rattle.td_join.specs.Faults.{IsInside}
use Rattle.td_join.specs.Joining.{pins_of, AreJoined, IsWholeClaim}
use Rattle.td_join.specs.Stacks.{IsTreeFault}
use Rattle.td_join.proofs.Acceptance.{joined_is_tree, accepted_together}
use Rattle.td_join.specs.Joining.{has_none}
use Rattle.td_join.specs.Steps.{certificates_of, IsFalseNoneIn}
use Rattle.td_join.proofs.Spelled.{spelled_together}
use Rattle.td_join.proofs.Within.{are_within}
use Rattle.td_join.proofs.Wholes.{is_joined, reported, false_none}
use Rattle.td_join.proofs.joining.join_alike.Goals as goal

pub joined_nodes-requires-clause-within : goal.joined_nodes-requires-clause-within
joined_nodes-requires-clause-within c =
    are_within c.admit-admit.result.now.pins c.in_ok-parts.parts.items
    (subst (λ (a : Admitted). All (λ d. IsInside a.pins (pins_of d)) (certificates_of c.in_ok-parts.parts.items)) (sym c.admit-admit.ensures)
    (subst (λ (cs : List Certificate). All (λ d. IsInside c.args.question.admit.pins (pins_of d)) cs) (sym c.in_ok-parts.ensures.all) c.requires.within))

pub from_nodes-requires : goal.from_nodes-requires
from_nodes-requires c =
    let joined = subst (λ (cs : List Certificate). AreJoined c.args.question.admit c.args.question.admit.pins cs c.in_ok-nodes.nodes.items) c.in_ok-parts.ensures.all
    (subst (λ (a : Admitted). AreJoined a a.pins (certificates_of c.in_ok-parts.parts.items) c.in_ok-nodes.nodes.items) c.admit-admit.ensures c.in_ok-nodes.ensures.tree) in
    joined_is_tree c.args.question.admit c.args.question.admit.pins c.args.certificates.items c.in_ok-nodes.nodes.items joined c.requires.trees

pub returns-clause-joined : goal.returns-clause-joined
returns-clause-joined c =
    let joined = subst (λ (cs : List Certificate). AreJoined c.args.question.admit c.args.question.admit.pins cs c.in_ok-nodes.nodes.items) c.in_ok-parts.ensures.all
    (subst (λ (a : Admitted). AreJoined a a.pins (certificates_of c.in_ok-parts.parts.items) c.in_ok-nodes.nodes.items) c.admit-admit.ensures c.in_ok-nodes.ensures.tree) in
    let claimed = subst (λ (cs : List Certificate). IsWholeClaim cs c.in_ok-claim.claim) c.deref-2.ensures.value c.in_ok-claim.ensures in
    is_joined c.args.certificates.items c.args.gates c.args.question c.in_ok-claim.claim c.in_ok-nodes.nodes.items
    c.from_nodes.result c.requires.alike claimed c.from_nodes.ensures joined c.requires.terms c.requires.told

pub returns-clause-accepted : goal.returns-clause-accepted
returns-clause-accepted c netlist all =
    accepted_together netlist c.args.certificates.items c.args.question.admit.pins _ (returns-clause-joined c) all

pub returns-in_err-nodes-clause-fault : goal.returns-in_err-nodes-clause-fault
returns-in_err-nodes-clause-fault c =
    let said = subst (λ (a : Admitted). IsTreeFault a (certificates_of c.in_ok-parts.parts.items) c.in_err-nodes.field-0.0) c.admit-admit.ensures c.in_err-nodes.ensures.fault in
    let seen = err_from_is_err_and c.from_residual-in_err-nodes.result c.from_residual-in_err-nodes.ensures.1 in
    rw (seen.1, seen.2)
    (reported c.args.certificates.items c.args.gates c.args.question c.requires.some c.requires.alike _
    (subst (λ (cs : List Certificate). IsTreeFault c.args.question.admit cs c.in_err-nodes.field-0.0) c.in_ok-parts.ensures.all said))

pub returns-clause-spelled : goal.returns-clause-spelled
returns-clause-spelled c all =
    spelled_together c.args.certificates.items c.args.question.admit.pins _ (returns-clause-joined c)
    (subst (λ (a : Admitted). length a.pins ≡ 2 * length a.held) c.admit-admit.ensures c.pins-fit.ensures.fit)
    (λ first. subst (λ (cs : List Certificate). All (λ d. has_none d.tree ≡ false) cs) c.deref.ensures.value (c.in_ok-without_false_none.ensures.ok first))
    (joined_is_tree c.args.question.admit c.args.question.admit.pins c.args.certificates.items c.from_nodes.result (returns-clause-joined c).tree c.requires.trees) all

pub returns-in_err-without_false_none-clause-fault : goal.returns-in_err-without_false_none-clause-fault
returns-in_err-without_false_none-clause-fault c =
    let said = subst (λ (cs : List Certificate). IsFalseNoneIn cs c.args.question c.in_err-without_false_none.field-0.0) c.deref.ensures.value
    c.in_err-without_false_none.ensures.fault in
    let seen = err_from_is_err_and c.from_residual.result c.from_residual.ensures.1 in
    rw (seen.1, seen.2) (false_none c.args.certificates.items c.args.gates c.args.question c.requires.some c.requires.alike c.requires.fit c.requires.terms _ said)
