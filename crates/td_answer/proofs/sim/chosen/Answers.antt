use Rattle.td_answer.proofs.Refused.{kept_says}
use Rattle.td_answer.proofs.sim.chosen.Goals as goal

pub returns-in-Some-clause-says : goal.returns-in-Some-clause-says
returns-in-Some-clause-says c =
    kept_says c.args.text.now c.args.reading.now c.args.asked.now c.in_ok-pair.pair.circuit c.in_ok-pair.pair.first.items c.in_ok-pair.pair.second.items
    c.in-Some.outcome c.in_ok-pair.ensures.asked (rw c.in-Some.is at c.in_ok-outcome-in-Ok.ensures.says)
