use Rattle.std.proofs.Common.{refl, subst}
use Rattle.td_book.specs.declared.node.Node.{Node}
use Rattle.td_search.specs.Redone.{RedoesRoot}
use Rattle.td_search.proofs.Rooted.{first_read, on_any, root_later}
use Rattle.td_search.proofs.progress.Search.replay.Goals as goal

pub returns-clause-root : goal.returns-clause-root
returns-clause-root g c = λ first is.
    let best = c.args.self.now.best.time in
    let before = c.args.self.now.book in
    let held = c.replay_node.new.self.book in
    on_any c.replay_all.result (root_later c.args.trail.now best first.number first.state before held c.replay_all.new.self.book
    (subst (λ (x : Node). RedoesRoot c.args.trail.now best x.number x.state before held) (first_read c.args.nodes.now first _ is) (c.in_ok-count.ensures.root refl)) c.replay_all.ensures.later)
