use Rattle.std.proofs.Common.{ℕ, get_or, sym}
use Rattle.td_gates.specs.declared.primitives.Level.TheVariants.{X}
use Rattle.td_gates.proofs.Places.{slice_get-get}
use Rattle.td_run.specs.Waves.{constant}
use Rattle.td_vcd.proofs.Steps.{refs_step, refs_end}
use Rattle.td_vcd.proofs.writing.run_waves.Goals as goal

pub loop-net-preserved : goal.loop-net-preserved
loop-net-preserved c =
    refs_step (λ (net : ℕ). get_or c.args.run.now.waves net (constant X)) c.args.nets.now c.loop-net.net-index c.loop-net.waves.items _ c.wave.result
    c.loop-net-test.true c.loop-net.invariant c.in_ok-push.ensures.items
    (sym (slice_get-get c.args.run.now.waves (get_or c.args.nets.now c.loop-net.net-index 0) c.wave.result.now (constant X) c.wave.ensures))

pub returns : goal.returns
returns c =
    refs_end (λ (net : ℕ). get_or c.args.run.now.waves net (constant X)) c.args.nets.now c.loop-net.net-index c.loop-net.waves.items
    c.loop-net-test.false c.loop-net.invariant
