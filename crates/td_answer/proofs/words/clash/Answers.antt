use Rattle.std.proofs.lemmas.Result.{on_ok_weaker}
use Rattle.td_answer.specs.Refusals.{clash_text}
use Rattle.td_answer.proofs.Adding.{four_appended}
use Rattle.td_answer.proofs.words.clash.Goals as goal

pub returns : goal.returns
unfolding clash_text
returns c =
    on_ok_weaker c.push-4.result
    (four_appended c.args.out.now _ _ _ _ _ c.args.word.now _ c.args.input.now (rw c.called.ensures at c.in_ok-push.ensures.appended)
    c.in_ok-push-2.ensures.appended c.in_ok-push-3.ensures.appended)
    c.push-4.ensures.appended
