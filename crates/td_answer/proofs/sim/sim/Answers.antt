use Rattle.std.proofs.lemmas.Result.{IfErr-weaker}
use Rattle.td_answer.proofs.Refused.{refused_run}
use Rattle.td_answer.proofs.sim.sim.Goals as goal

pub returns-then-is_whole-clause-refusal : goal.returns-then-is_whole-clause-refusal
returns-then-is_whole-clause-refusal c =
    IfErr-weaker c.whole.result _ _ (refused_run c.args.text.now c.args.reading.now c.args.asked.now) c.whole.ensures.refusal
