use Rattle.std.proofs.Common.{ℕ, List, ◌∷◌, ◌∙◌, sym, subst, length}
use Rattle.std.specs.Prelude.{All, IsPermutation}
use Rattle.std.proofs.lemmas.List.Elements.{All-push}
use Rattle.td_circuit.specs.Numbering.{setting}
use Rattle.td_parts.specs.declared.part.Part.{Part}
use Rattle.td_parts.specs.Queues.{places_of, AreWaiting}
use Rattle.td_parts.specs.Splits.{IsTruePart}
use Rattle.td_parts.proofs.Waiting.{added_below, added_waits}
use Rattle.td_parts.proofs.cutting.Cutting.add.Goals as goal

pub returns-clause-splits : goal.returns-clause-splits
returns-clause-splits g c true =
    subst (λ (parts : List Part). All (IsTruePart c.args.task.now.problem.now.strategy (setting c.args.task.now.problem.now.circuit.now)) parts) (sym c.in_ok-push-2.ensures.items)
    (All-push (IsTruePart c.args.task.now.problem.now.strategy (setting c.args.task.now.problem.now.circuit.now)) c.args.self.now.parts.items c.in_ok-part.part true c.in_ok-part.ensures.split)

pub returns-clause-queued : goal.returns-clause-queued
returns-clause-queued g c below =
    added_below (length c.args.self.now.parts.items) c.args.self.now.queue c.push.new.self
    (subst (λ (place : ℕ). IsPermutation (place ∷ places_of c.args.self.now.queue) (places_of c.push.new.self)) (c.len.ensures ∙ c.args.self.now.parts.ok.0) c.in_ok-push.ensures) below

pub returns-clause-waiting : goal.returns-clause-waiting
returns-clause-waiting g c waiting =
    subst (λ (parts : List Part). AreWaiting parts c.push.new.self) (sym c.in_ok-push-2.ensures.items)
    (added_waits c.args.self.now.parts.items c.in_ok-part.part c.args.self.now.queue c.push.new.self waiting
    (subst (λ (place : ℕ). IsPermutation (place ∷ places_of c.args.self.now.queue) (places_of c.push.new.self)) (c.len.ensures ∙ c.args.self.now.parts.ok.0) c.in_ok-push.ensures))
