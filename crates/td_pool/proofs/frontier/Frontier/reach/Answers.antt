use Rattle.td_pool.proofs.Covers.{found_max}
use Rattle.td_pool.proofs.frontier.Frontier.reach.Goals as goal

pub invariant_of-self-clause-found : goal.invariant_of-self-clause-found
invariant_of-self-clause-found g c = found_max g.L.Subject.asked c.args.self.now.low c.args.delay c.max-self.result c.max-self.ensures c.args.self.now.found c.requires
