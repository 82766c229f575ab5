use Rattle.std.proofs.Common.{◌≤◌, ◌+◌, ◌∙◌, ap, arith, length}
use Rattle.std.proofs.lemmas.List.{length_push}
use Rattle.std.proofs.lemmas.List.Elements.{All-push}
use Rattle.td_domain_rows.proofs.circuits.moments_of.Goals as goal

pub loop-moment-preserved : goal.loop-moment-preserved
loop-moment-preserved c = record {
  count = ap length c.in_ok-push.ensures.items ∙ length_push c.loop-moment.own.items c.min.result ∙ ap (λ n. n + 1) c.loop-moment.invariant.count;
  within = rw c.in_ok-push.ensures.items (All-push (λ moment. moment ≤ 1000000000) c.loop-moment.own.items c.min.result
      c.loop-moment.invariant.within (omega (arith, c.min.ensures)));
}
