use Rattle.std.proofs.Common.{◌≡◌, ℕ, length, List, ◌++◌, sym, ap, subst, ◌∙◌, length-append, arith}
use Rattle.std.proofs.lemmas.List.Elements.{recursion_from_All}
use Rattle.td_search.specs.Findings.{side_bounds}
use Rattle.td_search.specs.Problems.{problem_of}
use Rattle.td_search.specs.Progress.{IsSearch}
use Rattle.td_search.proofs.Found.{side_long}
use Rattle.td_search.proofs.Going.{grafts}
use Rattle.td_search.proofs.Later.{grafted_more}
use Rattle.td_search.proofs.progress.Search.graft.Goals as goal

pub returns-in-Ok-graft-clause-search : goal.returns-in-Ok-graft-clause-search
returns-in-Ok-graft-clause-search c =
    let s = c.args.self.now in
    let findings = c.args.findings.now in
    let items : c.push_side_bounds.new.bounds.items ≡ s.bounds.items ++ side_bounds findings =
    c.push_side_bounds.ensures ∙ ap (λ (l : List ℕ). l ++ side_bounds findings) c.reserve.ensures.items in
    let space = c.in-Ok-reserve.ensures.ok (length s.bounds.items) c.requires.search.1 in
    let long = length-append s.bounds.items (side_bounds findings) in
    let size = ap length items in
    let few = side_long findings in
    let len = c.len.ensures in
    let for_nodes = space.for_nodes in
    let for_lines = space.for_lines in
    let kept = ap length c.reserve.ensures.items in (
      subst (λ (l : List ℕ). IsSearch (problem_of c.args.problem.now) s.book.budget c.graft.new.self s.best.time s.best.pair l) (sym items)
          (grafts (problem_of c.args.problem.now) s.book.budget s.book c.graft.new.self s.best.time s.best.pair s.bounds.items c.requires.search.0 c.args.lease c.args.subtree
          c.in-Ok-graft.left.items findings c.requires.states c.requires.found (recursion_from_All _ findings c.requires.usable) c.in-Ok-graft.ensures.ok),
      record { no_nodes = space.no_nodes; no_lines = space.no_lines; for_nodes = omega arith; for_lines = omega arith },
      c.requires.search.2,
    )

pub returns-in-Ok-graft-clause-more : goal.returns-in-Ok-graft-clause-more
returns-in-Ok-graft-clause-more c =
    let s = c.args.self.now in
    grafted_more (problem_of c.args.problem.now) s.best.time s.book c.args.lease c.args.subtree c.in-Ok-graft.left.items c.graft.new.self c.args.findings.now c.requires.cube c.requires.states
    c.requires.found (recursion_from_All _ c.args.findings.now c.requires.usable) c.in-Ok-graft.ensures.ok

pub returns-in-Ok-graft-clause-later : goal.returns-in-Ok-graft-clause-later
returns-in-Ok-graft-clause-later c = let more = returns-in-Ok-graft-clause-more c in omega arith
