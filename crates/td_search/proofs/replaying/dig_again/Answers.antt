use Rattle.std.proofs.Common.{◌≡◌, ℕ, ◌<◌, ◌≤◌, false, length, ◌+◌, ◌∷◌, ◌++◌, [], List, get_or, map, take, refl, sym, ap, ◌∙◌, arith}
use Rattle.std.specs.Prelude.{slice_get, Some, IsTrue}
use Rattle.std.proofs.lemmas.Option.{slice_get-get_or}
use Rattle.td_book.specs.declared.node.State.{State}
use Rattle.td_search.specs.declared.findings.Finding.{Finding}
use Rattle.std.proofs.Math.Nat.{lt_of_not-le}
use Rattle.std.proofs.lemmas.List.{length-map, length-take-le}
use Rattle.td_book.specs.Grafting.{PrivateTree, cubes_left}
use Rattle.td_search.specs.Findings.{state_of}
use Rattle.td_search.specs.Problems.{problem_of}
use Rattle.td_search.proofs.Found.{nothing, next_of, states_more, usable_more}
use Rattle.td_search.proofs.replaying.dig_again.Goals as goal

pub dig_by-requires-clause-next : goal.dig_by-requires-clause-next
dig_by-requires-clause-next c =
    let findings = c.args.findings.now in
    let at = slice_get-get_or findings c.loop-finding.finding-index nothing c.loop-finding-test.true in
    let cubes = c.args.subtree.now.cube ∷ [] in
    let next = next_of (problem_of c.args.problem.now) c.args.best cubes findings c.loop-finding.finding-index _ c.requires.found at in
    let left : cubes_left c.loop-finding.subtree.states (c.loop-finding.subtree.cube ∷ []) ≡ cubes_left (map (state_of c.args.best) (take c.loop-finding.finding-index findings)) cubes =
    ap (λ (t : PrivateTree). cubes_left t.states (t.cube ∷ [])) c.loop-finding.invariant.subtree in
    (next.cube, next.rest, left ∙ next.is, next.holds)

pub loop-finding-preserved : goal.loop-finding-preserved
loop-finding-preserved c =
    let findings = c.args.findings.now in
    let i : ℕ = c.loop-finding.finding-index in
    let f : Finding = get_or findings i nothing in
    let at : slice_get findings i ≡ Some f = slice_get-get_or findings i nothing c.loop-finding-test.true in
    let was = c.loop-finding.invariant in
    let best : ℕ = c.args.best in
    let tree : PrivateTree = c.args.subtree.now in
    let same : c.dig_by.new.subtree ≡ with_states tree (map (state_of best) (take (i + 1) findings)) =
    c.if-not-dig_by.ensures.done refl ∙ (ap (λ (t : PrivateTree). with_states t (t.states ++ state_of best f ∷ [])) was.subtree
    ∙ ap (with_states tree) (sym (states_more best findings i f at))) in
    let allowance : c.loop-finding.subtree.allowance ≡ tree.allowance = ap (λ (t : PrivateTree). t.allowance) was.subtree in
    let states : length c.loop-finding.subtree.states ≡ i =
    ap (λ (t : PrivateTree). length t.states) was.subtree ∙ (length-map (take i findings) (state_of best) ∙ length-take-le i findings c.loop-finding.auto.finding-index-end) in
    let count : c.loop-finding.count ≡ i = was.count in
    let space : length c.loop-finding.subtree.states < c.loop-finding.subtree.allowance = not_full _ _ c.if-is_full.ensures in
    record {
      count = omega arith;
      subtree = same;
      usable = usable_more best findings i f at was.usable (c.if-not-dig_by.ensures.usable.0 refl);
      few = omega (arith, space, allowance, states, count);
    }
  where
    with_states : PrivateTree → List State → PrivateTree
    with_states t states = record t { states = states }

    not_full : (a b : ℕ) → ((IsTrue false → b ≤ a) × (b ≤ a → IsTrue false)) → a < b
    not_full a b h = lt_of_not-le (λ le. let full = h.1 le in cc)
