use Rattle.td_search.proofs.AtStart.{nothing_between}
use Rattle.td_search.proofs.finishing.nothing_handled.Goals as goal

pub returns-clause-answer : goal.returns-clause-answer
returns-clause-answer c =
    nothing_between c.args.problem.now.strategy c.args.problem.now.circuit.now c.gates-numbering.ensures.numbering c.moments-moments.ensures.fit c.args.problem.now.admit.now c.args.budget c.requires.modest c.args.best.pair c.args.best.time
    c.args.root c.requires.best.0 c.requires.root c.requires.small c.args.problem.now.held c.pins-pins.ensures.fit c.time-low.result c.max.result c.into_pair.result
    c.cause_of.result c.time-low.ensures c.into_pair.ensures c.max.ensures c.cause_of.ensures.used c.cause_of.ensures.unused
