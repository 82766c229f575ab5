use Rattle.td_question.proofs.Conditions.{names_next, names_all}
use Rattle.td_question.proofs.keeping.names_of.Goals as goal

pub loop-quote-preserved : goal.loop-quote-preserved
loop-quote-preserved c =
    names_next c.args.quotes.now c.loop-quote.names _ c.loop-quote.quote-index _ c.loop-quote-test.true c.in_ok-add_name.ensures c.loop-quote.invariant

pub returns : goal.returns
returns c = names_all c.args.quotes.now c.loop-quote.names c.loop-quote.quote-index c.loop-quote-test.false c.loop-quote.invariant
