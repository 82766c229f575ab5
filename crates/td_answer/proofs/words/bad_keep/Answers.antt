use Rattle.std.proofs.lemmas.Result.{on_ok_weaker}
use Rattle.td_answer.specs.Refusals.{bad_keep_text}
use Rattle.td_answer.proofs.Adding.{two_appended}
use Rattle.td_answer.proofs.words.bad_keep.Goals as goal

pub returns : goal.returns
unfolding bad_keep_text
returns c =
    on_ok_weaker c.quote.result (two_appended c.args.out.now _ _ _ _ c.in_ok-push.ensures.appended) c.quote.ensures
