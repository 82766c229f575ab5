use Rattle.std.proofs.Common.{◌∙◌, get_or, true, arith}
use Rattle.std.proofs.lemmas.List.{length-set, take_all}
use Rattle.td_answer.proofs.Keepings.{wanted_more}
use Rattle.td_answer.proofs.sim.wanted_of.Goals as goal

pub loop-net-preserved : goal.loop-net-preserved
loop-net-preserved c =
    let net = get_or c.args.chosen.now c.loop-net.net-index 0 in
    let there = c.requires c.loop-net.net-index 0 c.loop-net-test.true in
    record {
      count = length-set c.loop-net.wanted.items net true ∙ c.loop-net.invariant.count;
      these = wanted_more c.loop-net.wanted.items c.args.chosen.now c.loop-net.net-index c.loop-net-test.true
          (omega (arith, there, c.loop-net.invariant.count)) c.loop-net.invariant.these;
    }

pub returns-clause-these : goal.returns-clause-these
returns-clause-these c = rw (take_all c.loop-net.net-index c.args.chosen.now c.loop-net-test.false) at c.loop-net.invariant.these
