use Rattle.std.proofs.Common.{◌≤◌, ◌+◌, ◌∙◌, ap, arith, length}
use Rattle.std.proofs.lemmas.List.{length_push}
use Rattle.std.proofs.lemmas.List.Elements.{All-push}
use Rattle.td_climb_rows.proofs.circuits.random_moments.Goals as goal

pub loop-preserved : goal.loop-preserved
loop-preserved c = record {
  count = ap length c.in_ok-push.ensures.items ∙ length_push c.loop.moments.items c.min.result ∙ ap (λ n. n + 1) c.loop.invariant.count;
  within = rw c.in_ok-push.ensures.items (All-push (λ moment. moment ≤ 1000000000) c.loop.moments.items c.min.result
      c.loop.invariant.within (omega (arith, c.min.ensures)));
}
