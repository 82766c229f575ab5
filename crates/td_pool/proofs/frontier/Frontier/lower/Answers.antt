use Rattle.td_pool.proofs.Covers.{upper_min}
use Rattle.td_pool.proofs.frontier.Frontier.lower.Goals as goal

pub invariant_of-self-clause-greatest : goal.invariant_of-self-clause-greatest
invariant_of-self-clause-greatest g c = upper_min g.L.Subject.asked c.args.self.now.high c.args.high c.min-self.result c.min-self.ensures c.args.self.now.greatest c.requires
