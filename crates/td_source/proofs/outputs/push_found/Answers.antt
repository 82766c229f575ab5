use Rattle.std.proofs.Common.{sym}
use Rattle.td_source.proofs.Keeping.{any_has, any_none, sorted_more, sorted_skip}
use Rattle.td_source.proofs.outputs.push_found.Goals as goal

pub returns-then-contains : goal.returns-then-contains
returns-then-contains c = λ are.
    sorted_more c.args.place c.args.found.now c.args.places.now.items _ (any_has c.args.found.now c.args.place (sym c.if-contains.ensures.value))
    c.in_ok-push.ensures.items are

pub returns : goal.returns
returns c = λ are.
    sorted_skip c.args.place c.args.found.now c.args.places.now.items (any_none c.args.found.now c.args.place (sym c.if-contains.ensures.value)) are
