use Rattle.std.proofs.Common.{◌≡◌, ℕ, Option, List, [], ◌∷◌, ◌++◌, length, map, refl, sym, ap, subst, ◌∙◌, length-append, arith}
use Rattle.std.specs.List.{AllByRecursion}
use Rattle.std.proofs.lemmas.List.{map-append}
use Rattle.td_domain.specs.declared.cubes.Trit.{Trit}
use Rattle.td_certificate.specs.Cubes.{cubes_past}
use Rattle.td_book.specs.declared.node.State.{State}
use Rattle.td_book.specs.Board.{position_of}
use Rattle.td_book.specs.Grafting.{PrivateTree, cubes_left}
use Rattle.td_search.specs.declared.findings.Finding.{Finding}
use Rattle.td_search.specs.Below.{IsWithin}
use Rattle.td_search.specs.Findings.{AreTrueFindings, split_at, state_of}
use Rattle.td_search.specs.Problems.{Problem, problem_by}
use Rattle.td_search.proofs.Found.{state_splits}
use Rattle.td_search.proofs.Digs.{true_more, left_more, within_past}
use Rattle.td_search.proofs.below.Below.settle.Goals as goal

pub returns-clause-below : goal.returns-clause-below
returns-clause-below c =
    let asked : Problem = problem_by c.args.problem.now.strategy c.args.problem.now.circuit.now c.args.problem.now.admit.now in
    let old = c.args.self.now in
    let was = c.requires.below in
    let f : Finding = c.args.finding in
    let cut : ℕ = c.args.cut in
    let cube : List Trit = c.requires.next.0 in
    let coming = c.requires.next.1 in
    let holds = c.requires.next.2 in
    let s : State = state_of cut f in
    let tree : c.dig_by.new.subtree ≡ with_states old.subtree (old.subtree.states ++ s ∷ []) = c.if-not-dig_by.ensures.done refl in
    let findings : c.push_reserved.new.self.items ≡ old.findings.items ++ f ∷ [] = c.push_reserved.ensures.items in
    let states : c.dig_by.new.subtree.states ≡ old.subtree.states ++ s ∷ [] = ap (λ (t : PrivateTree). t.states) tree in
    let same_cube : c.dig_by.new.subtree.cube ≡ old.subtree.cube = ap (λ (t : PrivateTree). t.cube) tree in
    let left : cubes_left c.dig_by.new.subtree.states (c.dig_by.new.subtree.cube ∷ []) ≡ cubes_past cube (split_at f) coming.rest =
    ap (λ (t : PrivateTree). cubes_left t.states (t.cube ∷ [])) tree
    ∙ (left_more old.subtree.states s (old.subtree.cube ∷ []) cube coming.rest coming.is ∙ ap (λ (p : Option ℕ). cubes_past cube p coming.rest) (state_splits cut f)) in
    let before : AllByRecursion (IsWithin asked) (cube ∷ coming.rest) = subst (AllByRecursion (IsWithin asked)) coming.is was.coming in
    let count = ap length states in
    let one = length-append old.subtree.states (s ∷ []) in
    let space = coming.allowed in
    record {
      cube = same_cube ∙ was.cube;
      allowance = ap (λ (t : PrivateTree). t.allowance) tree ∙ was.allowance;
      positions = ap (λ (l : List State). map position_of l) states
          ∙ (map-append position_of old.subtree.states (s ∷ [])
          ∙ (joined was.positions (state_splits cut f)
          ∙ (sym (map-append split_at old.findings.items (f ∷ [])) ∙ sym (ap (λ (l : List Finding). map split_at l) findings))));
      found = subst (λ (l : List Finding). AreTrueFindings asked (c.args.lease.now.cube ∷ []) l) (sym findings)
          (true_more asked old.subtree.states old.findings.items (c.args.lease.now.cube ∷ []) cube coming.rest f was.positions was.found
          (subst (λ (q : List Trit). cubes_left old.subtree.states (q ∷ []) ≡ cube ∷ coming.rest) was.cube coming.is) holds);
      coming = subst (AllByRecursion (IsWithin asked)) (sym left) (within_past asked cube coming.rest f holds before);
      few = omega (arith, count, one, space);
      space = let r = was.space in let k = c.push_reserved.ensures.capacity in omega (arith, r, k);
    }
  where
    with_states : PrivateTree → List State → PrivateTree
    with_states t states = record t { states = states }

    joined : {xs ys : List (Option ℕ)} {x y : Option ℕ} → xs ≡ ys → x ≡ y → xs ++ x ∷ [] ≡ ys ++ y ∷ []
    joined e f = λ z. e z ++ f z ∷ []
