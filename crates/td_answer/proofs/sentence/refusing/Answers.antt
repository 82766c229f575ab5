use Rattle.std.proofs.lemmas.Result.{on_ok_weaker}
use Rattle.td_answer.specs.Refusals.{refusing_text}
use Rattle.td_answer.proofs.Adding.{three_appended}
use Rattle.td_answer.proofs.sentence.refusing.Goals as goal

pub returns : goal.returns
unfolding refusing_text
returns c =
    on_ok_weaker c.place.result
    (three_appended c.args.out.now _ _ _ _ _ _ (rw (c.from.ensures, c.number.ensures) at c.in_ok-number_between.ensures)
    (rw c.name.ensures at c.in_ok-word.ensures.appended))
    (rw c.line.ensures at c.place.ensures)
