use Rattle.std.proofs.Common.{get_or}
use Rattle.td_vcd.proofs.Choices.{kept_at, kept_is}
use Rattle.td_vcd.proofs.Steps.{refs_step, refs_end}
use Rattle.td_vcd.proofs.writing.chosen_waves.Goals as goal

pub loop-net-preserved : goal.loop-net-preserved
loop-net-preserved c =
    refs_step (kept_at c.args.kept.now) c.args.chosen.now c.loop-net.net-index c.loop-net.waves.items _ c.chosen_wave.result
    c.loop-net-test.true c.loop-net.invariant c.in_ok-push.ensures.items
    (kept_is c.args.kept.now (get_or c.args.chosen.now c.loop-net.net-index 0) c.chosen_wave.result.now c.chosen_wave.ensures)

pub returns : goal.returns
returns c =
    refs_end (kept_at c.args.kept.now) c.args.chosen.now c.loop-net.net-index c.loop-net.waves.items c.loop-net-test.false c.loop-net.invariant
