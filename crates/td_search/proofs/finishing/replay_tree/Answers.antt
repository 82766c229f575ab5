use Rattle.std.proofs.Common.{◌≡◌, length, ap, ◌∙◌, arith}
use Rattle.td_search.proofs.Rooted.{tree_redone, when_ok}
use Rattle.td_search.proofs.finishing.replay_tree.Goals as goal

pub returns-clause-root : goal.returns-clause-root
returns-clause-root g c =
    let s = c.args.search.now in
    let trail = c.in_ok-trail.trail in
    let nodes = c.deref-2.result.now in
    let after = c.replay.new.self.book in
    let size : c.len.result ≡ length c.args.partial.nodes =
    (let long = c.len.ensures in let kept = ap length c.in_ok-nodes.ensures.nodes in let same = ap length c.deref-2.ensures.value in let len = c.deref-2.ensures.len in omega arith) in
    when_ok c.replay.result nodes trail s.best.time s.book after _ c.replay.ensures.root (λ all n shows opened.
    tree_redone c.args.task.now.problem.now.admit.now.pins c.args.budget s.best.time n c.len.result c.args.partial c.args.evidence.items nodes trail s.book after
    (c.deref-2.ensures.value ∙ c.in_ok-nodes.ensures.nodes) size c.in_ok-trail.ensures.items c.in_ok-trail.ensures.places all shows opened)
