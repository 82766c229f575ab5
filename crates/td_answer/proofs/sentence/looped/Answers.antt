use Rattle.std.proofs.lemmas.Result.{on_ok_weaker}
use Rattle.td_answer.specs.Refusals.{loop_text}
use Rattle.td_answer.proofs.Adding.{two_appended}
use Rattle.td_answer.proofs.sentence.looped.Goals as goal

pub returns : goal.returns
unfolding loop_text
returns c = on_ok_weaker c.name.result (two_appended c.args.out.now _ _ _ _ c.in_ok-push.ensures.appended) c.name.ensures.appended
