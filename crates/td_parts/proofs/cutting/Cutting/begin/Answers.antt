use Rattle.std.proofs.Common.{rules, ◌≡◌, ◌∙◌, ◌++◌, List, [], ◌∷◌, ap, length}
use Rattle.td_parts.specs.declared.part.Part.{Part}
use Rattle.td_parts.proofs.Waiting.{begun_below, begun_waits}
use Rattle.td_parts.proofs.cutting.Cutting.begin.Goals as goal

pub returns-clause-cutting : goal.returns-clause-cutting
returns-clause-cutting g c =
    let one : c.push-2.new.self.items ≡ c.in_ok-part.part ∷ [] =
    c.in_ok-push-2.ensures.items ∙ ap (λ (parts : List Part). parts ++ c.in_ok-part.part ∷ []) c.new-parts.ensures.items in
    record {
      shares = search rules;
      splits = search rules;
      queued = begun_below c.push-2.new.self.items c.new-queue.result c.push.new.self (ap length one) c.new-queue.ensures c.in_ok-push.ensures;
    }

pub returns-clause-waiting : goal.returns-clause-waiting
returns-clause-waiting g c =
    let one : c.push-2.new.self.items ≡ c.in_ok-part.part ∷ [] =
    c.in_ok-push-2.ensures.items ∙ ap (λ (parts : List Part). parts ++ c.in_ok-part.part ∷ []) c.new-parts.ensures.items in
    begun_waits c.push-2.new.self.items c.in_ok-part.part c.new-queue.result c.push.new.self one c.in_ok-push.ensures
