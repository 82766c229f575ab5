use Rattle.std.proofs.Common.{◌∙◌, get_or, arith}
use Rattle.std.proofs.lemmas.List.{length-set, take_all}
use Rattle.td_run.proofs.Dropping.{set_later, put_step}
use Rattle.td_run.proofs.kept.put_off.Goals as goal

pub loop-net-preserved : goal.loop-net-preserved
loop-net-preserved c =
    let net = get_or c.args.nets.now c.loop-net.net-index 0 in
    let there = c.requires c.loop-net.net-index 0 c.loop-net-test.true in
    record {
      count = length-set c.loop-net.ends net c.max.result ∙ c.loop-net.invariant.count;
      later = λ other.
          let low = c.loop-net.invariant.later other in
          let more = set_later c.loop-net.ends net c.max.result (omega (arith, c.max.ensures)) other in
          omega (arith, low, more);
      these = put_step c.loop-net.ends c.args.nets.now c.loop-net.net-index c.args.evaluated c.max.result c.loop-net-test.true
          (omega (arith, there, c.loop-net.invariant.count)) (omega (arith, c.max.ensures)) (omega (arith, c.max.ensures)) c.loop-net.invariant.these;
    }

pub returns-clause-these : goal.returns-clause-these
returns-clause-these c = rw (take_all c.loop-net.net-index c.args.nets.now c.loop-net-test.false) at c.loop-net.invariant.these
