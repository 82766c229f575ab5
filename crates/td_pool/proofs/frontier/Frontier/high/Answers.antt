use Rattle.std.proofs.Common.{ℕ, List, sym, ap, subst, ◌∙◌}
use Rattle.td_domain.specs.Worst.{IsUpperBound}
use Rattle.td_search.specs.CutShort.{greatest_of}
use Rattle.td_pool.specs.declared.leaf.OpenLeaf.{OpenLeaf}
use Rattle.td_pool.specs.Frontiers.{bounds_of}
use Rattle.td_pool.proofs.Covers.{cover_within}
use Rattle.td_pool.proofs.frontier.Frontier.high.Goals as goal

pub lower-requires : goal.lower-requires
lower-requires g c =
    subst (λ (n : ℕ). IsUpperBound g.L.Subject.asked.setting g.L.Subject.asked.admit n)
    (sym (c.greatest_bound-high.ensures ∙ ap (λ (l : List OpenLeaf). greatest_of c.args.self.now.closed (bounds_of l)) c.deref.ensures.value))
    (cover_within g.L.Subject.asked c.args.self.now.closed c.args.self.now.leaves.items c.args.self.now.cover)
