use Rattle.td_answer.proofs.OutputNets.{named_number}
use Rattle.td_answer.proofs.Ways.{link_at, changes_more, changes_all}
use Rattle.td_answer.proofs.beside.changes_line.Goals as goal

pub change_of-requires-clause-constant : goal.change_of-requires-clause-constant
change_of-requires-clause-constant c =
    let at = link_at c.args.links.now c.loop-link.link-index c.loop-link-test.true in
    let named = c.requires c.loop-link.link-index _ at in
    (named_number c.args.circuit.now _ named.0 named.1).0

pub change_of-requires-clause-net : goal.change_of-requires-clause-net
change_of-requires-clause-net c =
    let at = link_at c.args.links.now c.loop-link.link-index c.loop-link-test.true in
    let named = c.requires c.loop-link.link-index _ at in
    (named_number c.args.circuit.now _ named.0 named.1).1

pub loop-link-preserved : goal.loop-link-preserved
loop-link-preserved c =
    changes_more c.args.circuit.now c.args.links.now c.loop-link.link-index _ c.loop-link.changes.items _ c.in_ok-change.change
    (link_at c.args.links.now c.loop-link.link-index c.loop-link-test.true) c.loop-link-test.true c.loop-link.invariant c.in_ok-change.ensures c.in_ok-push.ensures.items

pub returns : goal.returns
returns c = changes_all c.args.circuit.now c.args.links.now c.loop-link.link-index c.loop-link.changes.items c.loop-link-test.false c.loop-link.invariant
