use Rattle.std.proofs.lemmas.Result.{on_ok_weaker}
use Rattle.td_answer.specs.Refusals.{refusal_text}
use Rattle.td_answer.proofs.Adding.{three_appended}
use Rattle.td_answer.proofs.refusal.Refusal.sentence.Goals as goal

pub returns : goal.returns
unfolding refusal_text
returns c =
    on_ok_weaker c.push-2.result (three_appended c.args.out.now _ _ _ _ _ _ c.in_ok-push.ensures.appended c.in_ok-reason.ensures) c.push-2.ensures.appended
