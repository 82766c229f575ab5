use Rattle.std.proofs.lemmas.Result.{err_from_is_err_and}
use Rattle.td_text.proofs.Outputs.{SentTo-begins}
use Rattle.td_vcd.proofs.Batches.{turn, space, whole, refused_batch, refused_growth}
use Rattle.td_vcd.proofs.Steps.{lines_step, lines_end, event_origin}
use Rattle.td_vcd.proofs.writing.write_changes.Goals as goal

pub loop-event-init : goal.loop-event-init
loop-event-init g c = SentTo-begins _ _

pub loop-event-preserved : goal.loop-event-preserved
loop-event-preserved g c =
    turn _ _ _ _ _ _ _ _ _ _ c.loop-event.invariant c.in_ok-make_space.ensures.ok
    (lines_step c.loop-event.number c.args.events.now c.loop-event.event-index event_origin c.loop-event-test.true)
    c.in_ok-push_event.ensures

pub returns-in_err-make_space-clause-refused : goal.returns-in_err-make_space-clause-refused
returns-in_err-make_space-clause-refused g c =
    let p = err_from_is_err_and c.from_residual.result c.from_residual.ensures.1 in
    rw (p.1, p.2) (refused_batch _ _ _ _ _ _ c.loop-event.invariant c.in_err-make_space.ensures.err)

pub returns-in_err-push_event-clause-refused : goal.returns-in_err-push_event-clause-refused
returns-in_err-push_event-clause-refused g c =
    let p = err_from_is_err_and c.from_residual-in_err-push_event.result c.from_residual-in_err-push_event.ensures.1 in
    rw (p.1, p.2) (refused_growth _ _ _ _ (space _ _ _ _ _ _ _ c.loop-event.invariant c.in_ok-make_space.ensures.ok))

pub returns-clause-written : goal.returns-clause-written
returns-clause-written g c =
    whole _ _ _ _ _ c.loop-event.invariant (lines_end c.loop-event.number c.args.events.now c.loop-event.event-index c.loop-event-test.false)
