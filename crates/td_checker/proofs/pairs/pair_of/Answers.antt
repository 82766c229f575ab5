use Rattle.td_checker.proofs.Points.{more_bits}
use Rattle.td_checker.proofs.pairs.pair_of.Goals as goal

pub loop-input-preserved : goal.loop-input-preserved
loop-input-preserved c =
    more_bits c.loop-input.input c.args.cube.now c.loop-input.first.items c.loop-input.second.items
    c.push.new.self.items c.push-in-loop-input.new.self.items c.trit.result c.trit-in-loop-input.result
    c.bit_of.result c.bit_of-in-loop-input.result c.requires.point c.trit.ensures c.trit-in-loop-input.ensures
    c.bit_of.ensures c.bit_of-in-loop-input.ensures c.in_ok-push.ensures.items c.in_ok-push-2.ensures.items
    c.loop-input.invariant
