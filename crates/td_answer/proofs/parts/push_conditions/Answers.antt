use Rattle.std.proofs.lemmas.Result.{on_ok_weaker}
use Rattle.td_answer.proofs.Adding.{two_appended}
use Rattle.td_answer.proofs.Naming.{keep_told}
use Rattle.td_answer.proofs.parts.push_conditions.Goals as goal

pub returns : goal.returns
returns c =
    on_ok_weaker c.push_given.result (two_appended c.args.words.now.items _ _ _ _ (rw keep_told at c.in_ok-push_keep.ensures)) c.push_given.ensures
