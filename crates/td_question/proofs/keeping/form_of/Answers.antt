use Rattle.td_question.proofs.KeepWords.{no_form, none_weaker}
use Rattle.td_question.proofs.keeping.form_of.Goals.{else-first-eq61-via-then-first-eq61+else-second-eq61, else-first-eq61-via-else-first-eq61}
use Rattle.td_question.proofs.keeping.form_of.Goals as goal

pub returns-clause-none : goal.returns-clause-none
returns-clause-none c =
    none_weaker c.levels_of.result
    (λ none. no_form c.args.first c.args.second none
    (λ both. elim c.else-first-eq61.branch [
      | else-first-eq61-via-then-first-eq61+else-second-eq61 w ↦ w.if-second-eq61.false both.1
      | else-first-eq61-via-else-first-eq61 w ↦ w.if-first-eq61.false both.0
    ]))
    c.levels_of.ensures.none
