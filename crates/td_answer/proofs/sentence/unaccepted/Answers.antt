use Rattle.std.proofs.lemmas.Result.{on_ok_weaker}
use Rattle.td_answer.specs.Refusals.{unaccepted_text}
use Rattle.td_answer.proofs.Adding.{two_appended}
use Rattle.td_answer.proofs.sentence.unaccepted.Goals as goal

pub returns : goal.returns
unfolding unaccepted_text
returns c = on_ok_weaker c.refusing.result (two_appended c.args.out.now _ _ _ _ c.in_ok-word_between.ensures) c.refusing.ensures
