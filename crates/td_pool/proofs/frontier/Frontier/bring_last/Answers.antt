use Rattle.std.proofs.Common.{◌≡◌, ◌+◌, List, [], ◌∷◌, ◌++◌, take, drop, sym, ap, subst, ◌∙◌}
use Rattle.std.specs.Prelude.{slice_get, Some}
use Rattle.td_pool.specs.declared.leaf.OpenLeaf.{OpenLeaf}
use Rattle.td_pool.specs.Frontiers.{IsCover}
use Rattle.td_pool.proofs.Covers.{cover_moved, read_at}
use Rattle.td_pool.proofs.frontier.Frontier.bring_last.Goals as goal

pub invariant_of-self-clause-cover : goal.invariant_of-self-clause-cover
invariant_of-self-clause-cover g c =
    let old : List OpenLeaf = c.args.self.now.leaves.items in
    let leaf : OpenLeaf = c.remove-leaf.result in
    let at : slice_get old c.args.place ≡ Some leaf = read_at old c.args.place leaf c.requires c.remove-leaf.ensures.value in
    let same : c.push_reserved.new.self.items ≡ (take c.args.place old ++ drop (c.args.place + 1) old) ++ leaf ∷ [] =
    c.push_reserved.ensures.items ∙ ap (λ (l : List OpenLeaf). l ++ leaf ∷ []) c.remove-leaf.ensures.by_index.2 in
    subst (IsCover g.L.Subject.asked c.args.self.now.closed) (sym same) (cover_moved g.L.Subject.asked c.args.self.now.closed old c.args.place leaf at c.args.self.now.cover)

pub returns : goal.returns
returns g c = λ other is.
    let old : List OpenLeaf = c.args.self.now.leaves.items in
    let leaf : OpenLeaf = c.remove-leaf.result in
    let at : slice_get old c.args.place ≡ Some leaf = read_at old c.args.place leaf c.requires c.remove-leaf.ensures.value in
    let one : leaf ≡ other = cc in
    let same : c.push_reserved.new.self.items ≡ (take c.args.place old ++ drop (c.args.place + 1) old) ++ leaf ∷ [] =
    c.push_reserved.ensures.items ∙ ap (λ (l : List OpenLeaf). l ++ leaf ∷ []) c.remove-leaf.ensures.by_index.2 in
    same ∙ ap (λ (x : OpenLeaf). (take c.args.place old ++ drop (c.args.place + 1) old) ++ x ∷ []) one
