use Rattle.td_pool.proofs.Covers.{cover_halved}
use Rattle.td_pool.proofs.frontier.Frontier.halve_last.Goals as goal

pub invariant_of-self-clause-cover : goal.invariant_of-self-clause-cover
invariant_of-self-clause-cover g c =
    cover_halved g.L.Subject.asked c.args.self.now.closed c.split_last-done.result c.requires.0 c.requires.1 c.args.position c.args.bound
    c.args.self.now.leaves.items c.split_last-done.new.leaves.items c.split_last-done.ensures.ok c.split_last-done.ensures.err
    c.requires.2 c.requires.3 c.requires.4 c.args.self.now.cover
