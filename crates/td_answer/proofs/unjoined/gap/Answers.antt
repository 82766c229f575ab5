use Rattle.std.proofs.lemmas.Result.{on_ok_weaker}
use Rattle.td_answer.specs.Refusals.{gap_text}
use Rattle.td_answer.proofs.Adding.{four_appended}
use Rattle.td_answer.proofs.unjoined.gap.Goals as goal

pub returns : goal.returns
unfolding gap_text
returns c =
    on_ok_weaker c.push_trits-2.result
    (four_appended c.args.out.now _ _ _ _ _ _ _ _ c.in_ok-push.ensures.appended c.in_ok-push_trits.ensures c.in_ok-push-2.ensures.appended)
    c.push_trits-2.ensures
