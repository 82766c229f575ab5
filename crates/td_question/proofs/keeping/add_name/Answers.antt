use Rattle.td_question.specs.KeepLines.{quote_in}
use Rattle.td_question.proofs.KeepWords.{names_more, names_same}
use Rattle.td_question.proofs.keeping.add_name.Goals as goal

pub returns-in_default : goal.returns-in_default
returns-in_default c quotes are = names_same quotes c.args.names.now (quote_in c.args.quote) are (rw c.in_default.is at c.parts_of.ensures.none)

pub returns : goal.returns
returns c quotes are =
    names_more quotes c.args.names.now _ (quote_in c.args.quote) c.in-Some.parts.name.now c.in-Some.parts.form are
    (rw c.in-Some.is at c.parts_of.ensures.some) c.in_ok-add.ensures.added c.in_ok-add.ensures.kept
