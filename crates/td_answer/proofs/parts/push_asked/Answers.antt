use Rattle.std.proofs.lemmas.Result.{on_ok_weaker}
use Rattle.td_answer.proofs.Adding.{two_appended}
use Rattle.td_answer.proofs.parts.push_asked.Goals as goal

pub returns : goal.returns
returns c =
    on_ok_weaker c.push_count.result (two_appended c.args.words.now.items _ _ _ _ c.in_ok-push_question.ensures) c.push_count.ensures
