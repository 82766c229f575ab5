use Rattle.std.specs.Prelude.{codes}
use Rattle.std.proofs.lemmas.Result.{on_ok_weaker}
use Rattle.td_answer.specs.Refusals.{two_text}
use Rattle.td_answer.proofs.Adding.{two_told}
use Rattle.td_answer.proofs.unjoined.two.Goals as goal

pub returns : goal.returns
unfolding two_text
returns c =
    on_ok_weaker c.push.result
    (two_told c.args.out.now _ _ _ (codes "cannot join ") c.args.one.now (codes " and ") c.args.other.now (codes ": ") c.args.why.now
    c.in_ok-word_behind.ensures c.in_ok-word_between.ensures)
    c.push.ensures.appended
