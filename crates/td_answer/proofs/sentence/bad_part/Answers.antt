use Rattle.std.proofs.lemmas.Result.{on_ok_weaker}
use Rattle.td_answer.specs.Refusals.{bad_part_text}
use Rattle.td_answer.proofs.Adding.{two_appended}
use Rattle.td_answer.proofs.sentence.bad_part.Goals as goal

pub returns : goal.returns
unfolding bad_part_text
returns c =
    on_ok_weaker c.certificate_fault.result (two_appended c.args.out.now _ _ _ _ c.in_ok-word_between.ensures) c.certificate_fault.ensures
