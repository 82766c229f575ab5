use Rattle.td_question.proofs.Conditions.{now_has, names_one, said_next, fault_next}
use Rattle.td_question.proofs.keeping.said_by.Goals as goal

pub condition_of-requires : goal.condition_of-requires
condition_of-requires c =
    names_one _ c.args.names.now _ c.requires (now_has c.args.quotes.now c.loop-quote.quote-index _ c.loop-quote-test.true)

pub loop-quote-preserved : goal.loop-quote-preserved
loop-quote-preserved c netlist found =
    said_next netlist c.args.quotes.now c.loop-quote.said.items _ c.loop-quote.quote-index _ c.in-Ok.condition c.loop-quote-test.true
    (c.loop-quote.invariant netlist found) (c.in-Ok.ensures.said netlist found) c.in_ok-push-in-Ok.ensures.items

pub returns-in-Err-clause-fault : goal.returns-in-Err-clause-fault
returns-in-Err-clause-fault c netlist found =
    fault_next netlist c.args.quotes.now c.loop-quote.said.items c.loop-quote.quote-index _ c.in-Err.fault c.loop-quote-test.true
    (c.loop-quote.invariant netlist found) (c.in-Err.ensures.fault netlist found)
