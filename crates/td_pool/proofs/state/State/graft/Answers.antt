use Rattle.std.proofs.Common.{sym, subst}
use Rattle.td_search.specs.Problems.{Problem}
use Rattle.td_pool.specs.Watched.{IsFound}
use Rattle.td_pool.proofs.state.State.graft.Goals as goal

pub reach-requires : goal.reach-requires
reach-requires g c = subst (λ (a : Problem). IsFound a c.args.work.best) (sym c.requires.asked) c.requires.work.best
