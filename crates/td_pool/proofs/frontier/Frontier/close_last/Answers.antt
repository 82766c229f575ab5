use Rattle.std.proofs.Common.{◌≡◌, ℕ, List, [], ◌∷◌, ◌++◌, sym, subst}
use Rattle.td_pool.specs.declared.leaf.OpenLeaf.{OpenLeaf}
use Rattle.td_pool.specs.Frontiers.{IsCover}
use Rattle.td_pool.proofs.Covers.{cover_closed}
use Rattle.td_pool.proofs.frontier.Frontier.close_last.Goals as goal

pub invariant_of-self-clause-cover : goal.invariant_of-self-clause-cover
invariant_of-self-clause-cover g c =
    let rest : List OpenLeaf = c.requires.0 in
    let leaf : OpenLeaf = c.requires.1 in
    let is : c.args.self.now.leaves.items ≡ rest ++ leaf ∷ [] = c.requires.2 in
    let same : c.drop_last.new.leaves.items ≡ rest = c.drop_last.ensures rest leaf is in
    let closed : ℕ = c.args.self.now.closed in
    subst (λ (l : List OpenLeaf). IsCover g.L.Subject.asked c.max-self.result l) (sym same)
    (subst (λ (n : ℕ). IsCover g.L.Subject.asked n rest) (sym c.max-self.ensures)
    (cover_closed g.L.Subject.asked closed rest leaf c.args.bound c.requires.3 (subst (IsCover g.L.Subject.asked closed) is c.args.self.now.cover)))
