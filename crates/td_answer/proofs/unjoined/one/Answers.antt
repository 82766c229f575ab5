use Rattle.std.proofs.lemmas.Result.{on_ok_weaker}
use Rattle.td_answer.specs.Refusals.{one_text}
use Rattle.td_answer.proofs.Adding.{two_appended}
use Rattle.td_answer.proofs.unjoined.one.Goals as goal

pub returns : goal.returns
unfolding one_text
returns c =
    on_ok_weaker c.push.result (two_appended c.args.out.now _ _ _ c.args.why.now c.in_ok-word_between.ensures) c.push.ensures.appended
