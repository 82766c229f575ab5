use Rattle.std.proofs.Common.{ℕ, ap, ◌∙◌}
use Rattle.td_search.specs.CutShort.{greatest_of}
use Rattle.td_pool.proofs.Covers.{greatest_max}
use Rattle.td_pool.proofs.frontier.greater_bound.Goals as goal

pub returns : goal.returns
returns c = λ others. ap (λ (n : ℕ). greatest_of n others) c.max.ensures ∙ greatest_max c.args.low c.args.leaf.now.bound others
