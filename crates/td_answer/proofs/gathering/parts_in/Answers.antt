use Rattle.std.proofs.lemmas.Result.{err_from_is_err_and}
use Rattle.td_answer.specs.Joins.{texts_of}
use Rattle.td_answer.proofs.Gathered.{text_at, part_more, lacks_part, memory_at}
use Rattle.td_answer.proofs.gathering.parts_in.Goals as goal

pub returns-in_err-part-clause-refusal : goal.returns-in_err-part-clause-refusal
returns-in_err-part-clause-refusal c =
    let reported = err_from_is_err_and c.from_residual.result c.from_residual.ensures.1 in
    rw (reported.1, reported.2)
    (lacks_part c.args.text.now c.args.reading.now c.args.circuit.now.netlist c.args.is_checked c.args.names.now (texts_of c.args.certificates.now)
    c.loop-place.place _ _ c.loop-place-test.true
    (rw (text_at c.args.certificates.now c.loop-place.place c.get.result c.get.ensures.lookup) at c.in_err-part.ensures.refusal))

pub returns-in_err-push-clause-refusal : goal.returns-in_err-push-clause-refusal
returns-in_err-push-clause-refusal c =
    let reported = err_from_is_err_and c.from_residual-in_err-push.result c.from_residual-in_err-push.ensures.1 in
    rw (reported.1, reported.2)
    (memory_at c.args.text.now c.args.reading.now c.args.circuit.now.netlist c.args.is_checked c.args.names.now (texts_of c.args.certificates.now)
    c.loop-place.place c.in_ok-part.part c.loop-place-test.true
    (rw (text_at c.args.certificates.now c.loop-place.place c.get.result c.get.ensures.lookup) at c.in_ok-part.ensures.part))

pub loop-place-preserved : goal.loop-place-preserved
loop-place-preserved c =
    rw c.in_ok-push.ensures.items
    (part_more c.args.text.now c.args.reading.now c.args.circuit.now.netlist c.args.is_checked (texts_of c.args.certificates.now)
    c.loop-place.place c.loop-place.parts.items c.in_ok-part.part
    (rw (text_at c.args.certificates.now c.loop-place.place c.get.result c.get.ensures.lookup) at c.in_ok-part.ensures.part) c.loop-place.invariant)
