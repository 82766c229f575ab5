use Rattle.std.proofs.Common.{sym}
use Rattle.td_question.proofs.Choices.{with_same, with_more}
use Rattle.td_question.proofs.chosen.push_new.Goals as goal

pub returns-then-contains : goal.returns-then-contains
returns-then-contains c =
    with_same c.args.nets.now.items c.deref.result.now c.args.net c.deref.ensures.value (sym c.if-contains.ensures.value)

pub returns : goal.returns
returns c =
    with_more c.args.nets.now.items c.deref.result.now _ c.args.net c.deref.ensures.value (sym c.if-contains.ensures.value) c.in_ok-push.ensures.items
