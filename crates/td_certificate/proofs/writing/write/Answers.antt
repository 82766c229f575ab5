use Rattle.std.proofs.Common.{ap, length, arith, ◌≤◌, ◌+◌}
use Rattle.std.proofs.lemmas.Result.{err_from_is_err_and}
use Rattle.td_text.proofs.Outputs.{SentTo-then, SentTo-failed, SentTo-sent}
use Rattle.td_certificate.proofs.Batches.{head_begins, part_front, node_pushed, node_stopped, stopped_front, all_sent}
use Rattle.td_certificate.proofs.writing.write.Goals as goal

pub loop-node-init : goal.loop-node-init
loop-node-init g c = head_begins _ _ _ c.in_ok-batch.ensures

pub returns-in_err-make_room-clause-front : goal.returns-in_err-make_room-clause-front
returns-in_err-make_room-clause-front g c =
    let p = err_from_is_err_and c.from_residual-in_err-make_room.result c.from_residual-in_err-make_room.ensures.1 in
    rw p.1 (part_front _ _ c.args.certificate.now c.loop-node.node-index (SentTo-failed _ _ _ _ _ c.loop-node.invariant c.in_err-make_room.ensures.err))

pub returns-in_err-write_node-clause-front : goal.returns-in_err-write_node-clause-front
returns-in_err-write_node-clause-front g c =
    let p = err_from_is_err_and c.from_residual-in_err-write_node.result c.from_residual-in_err-write_node.ensures.1 in
    let stopped = node_stopped _ _ _ c.args.certificate.now c.loop-node.node-index _ c.node-item.result _ c.in_err-write_node.field-0.0 c.nodes-node-items.ensures.nodes c.loop-node-test.true c.node-item.is
    (SentTo-then _ _ _ _ _ _ c.loop-node.invariant c.in_ok-make_room.ensures.ok) c.in_err-write_node.ensures.err in
    rw p.1 (stopped_front _ _ c.args.certificate.now (c.loop-node.node-index + 1) c.in_err-write_node.field-0.0 stopped)

pub loop-node-preserved : goal.loop-node-preserved
loop-node-preserved g c =
    node_pushed _ _ _ c.args.certificate.now c.loop-node.node-index _ c.node-item.result _ _ c.nodes-node-items.ensures.nodes c.loop-node-test.true c.node-item.is
    (SentTo-then _ _ _ _ _ _ c.loop-node.invariant c.in_ok-make_room.ensures.ok) c.in_ok-write_node.ensures.ok

pub returns-in_err-write_all-clause-front : goal.returns-in_err-write_all-clause-front
returns-in_err-write_all-clause-front g c =
    let p = err_from_is_err_and c.from_residual-in_err-write_all.result c.from_residual-in_err-write_all.ensures.1 in
    rw p.1 (part_front _ _ c.args.certificate.now c.loop-node.node-index (SentTo-failed _ _ _ _ _ c.loop-node.invariant (rw c.as_bytes.ensures.value at c.in_err-write_all.ensures)))

pub returns-clause-written : goal.returns-clause-written
returns-clause-written g c =
    let le : length c.args.certificate.now.tree ≤ c.loop-node.node-index = omega (arith, ap length c.nodes-node-items.ensures.nodes) in
    all_sent _ _ c.args.certificate.now c.loop-node.node-index le (SentTo-sent _ _ _ _ _ c.loop-node.invariant (rw c.as_bytes.ensures.value at c.in_ok-write_all.ensures))
