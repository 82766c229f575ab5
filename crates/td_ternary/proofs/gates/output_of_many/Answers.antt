use Rattle.std.proofs.Common.{◌∙◌}
use Rattle.td_gates.specs.Wave.{before}
use Rattle.td_gates.specs.Schedule.{target_before}
use Rattle.td_run.specs.Waves.{waves_of}
use Rattle.td_ternary.proofs.Computing.{possible_after-same}
use Rattle.td_ternary.proofs.gates.output_of_many.Goals as goal

pub returns-clause-shows : goal.returns-clause-shows
returns-clause-shows c = λ n.
    c.in_ok-wave.ensures.shows n
    ∙ possible_after-same c.args.delay (before c.in_ok-target.target) (target_before c.args.kind (waves_of c.args.all.now c.args.ins.now)) c.in_ok-target.ensures.shows n
