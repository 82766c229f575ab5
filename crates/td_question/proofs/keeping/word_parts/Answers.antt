use Rattle.std.proofs.Common.{◌-◌, length, arith}
use Rattle.td_question.proofs.KeepWords.{no_parts_in}
use Rattle.td_question.proofs.keeping.word_parts.Goals.{else-first-eq61-via-then-first-eq61+else-second-eq61, else-first-eq61-via-else-first-eq61}
use Rattle.td_question.proofs.keeping.word_parts.Goals as goal

pub returns-in_err-form-in-len3-up-clause-none : goal.returns-in_err-form-in-len3-up-clause-none
returns-in_err-form-in-len3-up-clause-none c =
    rw c.from_residual.ensures (no_parts_in c.args.word.now (length c.args.word.now - 2) (length c.args.word.now - 1) _ _
    (omega (arith, c.in-len3-up.len_at_least)) (omega (arith, c.in-len3-up.len_at_least)) c.in_err-form-in-len3-up.ensures.none
    (λ both. elim c.else-first-eq61.branch [
      | else-first-eq61-via-then-first-eq61+else-second-eq61 w ↦ w.if-second-eq61.false both.1
      | else-first-eq61-via-else-first-eq61 w ↦ w.if-first-eq61.false both.0
    ]))
