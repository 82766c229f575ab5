use Rattle.std.proofs.lemmas.Result.{on_ok_weaker}
use Rattle.td_answer.specs.Refusals.{bad_text}
use Rattle.td_answer.proofs.Adding.{three_appended}
use Rattle.td_answer.proofs.words.bad.Goals as goal

pub returns : goal.returns
unfolding bad_text
returns c =
    on_ok_weaker c.push-3.result
    (three_appended c.args.out.now _ _ _ _ _ c.args.word.now c.in_ok-push.ensures.appended (rw c.called.ensures at c.in_ok-push-2.ensures.appended))
    c.push-3.ensures.appended
