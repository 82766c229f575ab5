use Rattle.std.proofs.Common.{sym, ◌∙◌, arith, take_all}
use Rattle.td_refutation.proofs.Asking.{levels_more, few_levels}
use Rattle.td_refutation.proofs.settled.levels_in.Goals as goal

pub loop-input-preserved : goal.loop-input-preserved
loop-input-preserved c =
    rw (c.in_ok-push.ensures.items, c.level.ensures, c.loop-input.invariant)
    (sym (levels_more c.args.second c.args.cube.now c.loop-input.input c.trit.result (omega (arith, c.loop-input-test.true, c.len-input-end.ensures))
    (rw c.side.ensures at c.trit.ensures)))

pub returns : goal.returns
returns c =
    c.loop-input.invariant ∙ take_all c.loop-input.input _ (omega (arith, few_levels c.args.second c.args.cube.now, c.loop-input-test.false, c.len-input-end.ensures))
