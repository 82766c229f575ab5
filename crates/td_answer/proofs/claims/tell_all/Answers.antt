use Rattle.std.proofs.lemmas.Result.{on_ok_weaker}
use Rattle.td_certificate.specs.Spelling.{DefaultField, OutputField}
use Rattle.td_answer.specs.Claims.{told_line}
use Rattle.td_answer.proofs.Adding.{seven_added}
use Rattle.td_answer.proofs.claims.tell_all.Goals as goal

pub returns : goal.returns
returns c =
    on_ok_weaker c.tell_keep.result
    (seven_added c.args.report.now _ _ _ _ _ _ _ (told_line c.args.question.now DefaultField) (told_line c.args.question.now OutputField) _ _ _ _ _ _
    c.in_ok-tell_terms.ensures c.in_ok-tell_first.ensures c.in_ok-tell_second.ensures c.in_ok-tell_held.ensures c.in_ok-tell_flips.ensures
    c.in_ok-tell_moments.ensures)
    c.tell_keep.ensures
