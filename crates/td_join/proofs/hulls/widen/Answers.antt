use Rattle.std.proofs.Common.{◌∙◌, ap, length}
use Rattle.std.proofs.lemmas.List.{length-set}
use Rattle.td_join.proofs.Widening.{widened}
use Rattle.td_join.proofs.hulls.widen.Goals as goal

pub loop-position-preserved : goal.loop-position-preserved
loop-position-preserved c = record {
  lengths = ap length c.set.ensures ∙ length-set c.loop-position.cube c.loop-position.position c.widest.result ∙ c.loop-position.invariant.lengths;
  widened = widened c.loop-position.cube c.args.other.now c.set.new.self _ c.loop-position.position c.trit.result c.trit-in-loop-position.result c.widest.result
      c.trit.ensures c.trit-in-loop-position.ensures c.widest.ensures c.set.ensures c.loop-position.invariant.widened;
}
