use Rattle.std.proofs.Common.{◌≡◌, ◌+◌, List, [], ◌∷◌, ◌++◌, take, drop, sym, subst, inl, arith}
use Rattle.std.specs.Prelude.{slice_get, slice_index_or, Some}
use Rattle.td_search.specs.declared.findings.Finding.{Finding}
use Rattle.td_search.specs.Findings.{AreTrueFindings}
use Rattle.td_search.specs.Problems.{Problem, problem_by}
use Rattle.td_search.proofs.Found.{nothing}
use Rattle.td_pool.specs.declared.leaf.OpenLeaf.{OpenLeaf}
use Rattle.td_pool.specs.Frontiers.{AreSettled}
use Rattle.td_pool.proofs.Covers.{IsAt, walk_begins, finding_at, settled_more, settled_none}
use Rattle.td_pool.proofs.frontier.Frontier.settle.Goals as goal

pub loop-finding-init : goal.loop-finding-init
loop-finding-init g c =
    let asked : Problem = problem_by c.args.problem.now.strategy c.args.problem.now.circuit.now c.args.problem.now.admit.now in
    let leaf : OpenLeaf = c.in-Some.ensures.0 in
    let old : List OpenLeaf = c.args.self.now.leaves.items in
    let at : slice_get old c.in-Some.place ≡ Some leaf = subst (λ (l : List OpenLeaf). slice_get l c.in-Some.place ≡ Some leaf) c.deref.ensures.value c.in-Some.ensures.1 in
    let found : AreTrueFindings asked (c.args.evidence.now.cube ∷ []) c.deref-finding-items.result.now =
    subst (λ (l : List Finding). AreTrueFindings asked (c.args.evidence.now.cube ∷ []) l) (sym c.deref-finding-items.ensures.value) c.requires.evidence in
    record {
      walk = walk_begins asked (take c.in-Some.place old ++ drop (c.in-Some.place + 1) old) leaf c.args.evidence.now.cube c.deref-finding-items.result.now c.bring_last.new.self.leaves.items
          (c.bring_last.ensures leaf at) c.in-Some.ensures.2.1 found;
      goes_on = λ after settled. settled;
    }

pub settle_last-requires-clause-last : goal.settle_last-requires-clause-last
settle_last-requires-clause-last g c =
    let asked : Problem = problem_by c.args.problem.now.strategy c.args.problem.now.circuit.now c.args.problem.now.admit.now in
    let here : IsAt asked c.loop-finding.self.leaves.items (slice_index_or c.deref-finding-items.result.now c.loop-finding.finding-index nothing) (drop (c.loop-finding.finding-index + 1) c.deref-finding-items.result.now) =
    finding_at asked c.loop-finding.self.leaves.items c.deref-finding-items.result.now c.loop-finding.finding-index c.loop-finding-test.true c.loop-finding.invariant.walk in
    (here.rest, here.leaf, here.is, here.holds)

pub loop-finding-preserved : goal.loop-finding-preserved
loop-finding-preserved g c =
    let asked : Problem = problem_by c.args.problem.now.strategy c.args.problem.now.circuit.now c.args.problem.now.admit.now in
    let here : IsAt asked c.loop-finding.self.leaves.items (slice_index_or c.deref-finding-items.result.now c.loop-finding.finding-index nothing) (drop (c.loop-finding.finding-index + 1) c.deref-finding-items.result.now) =
    finding_at asked c.loop-finding.self.leaves.items c.deref-finding-items.result.now c.loop-finding.finding-index c.loop-finding-test.true c.loop-finding.invariant.walk in
    let done = c.in_ok-settle_last.ensures here.rest here.leaf here.is in
    record {
      walk = here.goes_on c.settle_last.new.self.leaves.items done;
      goes_on = λ after others. c.loop-finding.invariant.goes_on after
          (settled_more c.loop-finding.self.leaves.items c.settle_last.new.self.leaves.items after c.deref-finding-items.result.now c.loop-finding.finding-index here.rest here.leaf
          c.loop-finding-test.true here.is done others);
    }

pub returns : goal.returns
returns g c =
    let old : List OpenLeaf = c.args.self.now.leaves.items in
    let leaf : OpenLeaf = c.in-Some.ensures.0 in
    let at : slice_get old c.in-Some.place ≡ Some leaf = subst (λ (l : List OpenLeaf). slice_get l c.in-Some.place ≡ Some leaf) c.deref.ensures.value c.in-Some.ensures.1 in
    let ended = c.loop-finding.invariant.goes_on c.loop-finding.self.leaves.items
    (settled_none c.loop-finding.self.leaves.items c.deref-finding-items.result.now c.loop-finding.finding-index (omega (arith, c.loop-finding-test.false))) in
    inl (record {
      place = c.in-Some.place;
      leaf = leaf;
      at = at;
      begins = c.in-Some.ensures.2;
      settled = subst (λ (l : List OpenLeaf). AreSettled l c.args.evidence.now.findings.items c.loop-finding.self.leaves.items) (c.bring_last.ensures leaf at)
          (subst (λ (l : List Finding). AreSettled c.bring_last.new.self.leaves.items l c.loop-finding.self.leaves.items) c.deref-finding-items.ensures.value ended);
    })
