use Rattle.std.proofs.Common.{rules, ◌≡◌, ◌<◌, length, List, [], ◌∷◌, ◌++◌, subst, sym}
use Rattle.std.specs.Prelude.{All}
use Rattle.td_join.specs.declared.parts.Part.{Part}
use Rattle.td_join.specs.Steps.{AreInOrder}
use Rattle.td_join.proofs.Parting.{one_more, placed_more, order_more, below_more}
use Rattle.td_join.proofs.parts.numbered.Goals as goal

pub loop-certificate-preserved : goal.loop-certificate-preserved
loop-certificate-preserved c =
    let p : Part = record { place = c.len-place.result; certificate = c.in-Some.certificate } in
    let pushed : c.push.new.self.items ≡ c.loop-certificate.parts.items ++ p ∷ [] = search rules in
    let place : p.place ≡ length c.loop-certificate.parts.items = search rules in
    record {
      all = search (rules, one_more);
      placed = search (rules, placed_more);
      order = subst (λ (ps : List Part). AreInOrder ps) (sym pushed)
          (order_more c.loop-certificate.parts.items p place c.loop-certificate.invariant.below c.loop-certificate.invariant.order);
      below = subst (λ (ps : List Part). All (λ q. q.place < length ps) ps) (sym pushed)
          (below_more c.loop-certificate.parts.items p place c.loop-certificate.invariant.below);
    }
