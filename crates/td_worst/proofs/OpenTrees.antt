-- Trees that show that no admitted pair is later than a moment.
use Rattle.std.proofs.Common.{ℕ, ◌≤◌, List, [], ◌∷◌, Option, Some, None, refl, arith}
use Rattle.std.specs.List.{AllByRecursion}
use Rattle.td_circuit.specs.Settings.{Setting}
use Rattle.td_domain.specs.declared.cubes.Trit.{Trit}
use Rattle.td_domain.specs.Admits.{Admitted, IsAdmitted}
use Rattle.td_domain.specs.Pairs.{Pair}
use Rattle.td_refutation.specs.declared.conditions.NamedCondition.{NamedCondition}
use Rattle.td_refutation.specs.Asking.{Asking, all_admitted}
use Rattle.td_certificate.specs.declared.tree.Node.{Node}
use Rattle.td_certificate.specs.declared.tree.Node.TheVariants as node
use Rattle.td_certificate.specs.declared.question.Version.TheVariants.{Fourth}
use Rattle.td_certificate.specs.Accepts.{IsGood, IsOfCube, IsBoundWithin, IsWithin}
use Rattle.td_certificate.specs.Cubes.{cubes_past}
use Rattle.td_certificate.specs.Lengths.{IsShort}
use Rattle.td_certificate.specs.Spelling.{IsNode}
use Rattle.td_certificate.specs.Walks.{position_of, lines_from}
use Rattle.td_search.proofs.Capped.{capped}
use Rattle.td_search.specs.Opened.{ShowsHigh}

-- short lines are lines of a text of the fourth version
node_of : (x : Node) → IsShort x → IsNode Fourth x
node_of (node.Split position) short = omega (arith, short)
node_of (node.Bound domain bound) short = (omega (arith, short), λ other. absurd (other refl))
node_of (node.Point time) short = omega (arith, short)
node_of node.Empty short = λ e. cc
node_of (node.Refuted refuted) short = absurd short

pub nodes_of : (tree : List Node) → AllByRecursion IsShort tree → AllByRecursion (IsNode Fourth) tree
nodes_of [] short = tt
nodes_of (x ∷ tree) short = (node_of x short.0, nodes_of tree short.1)

-- what is good of all admitted pairs is good of those that keep conditions, where no more inputs may
-- differ than there are
module _ (given : Setting) (admit : Admitted) (keep : List NamedCondition) (high : ℕ) where
  uncapped : (pair : Pair) → IsAdmitted (capped admit) pair → IsAdmitted admit pair
  uncapped pair is = let few = is.few in record { pinned = is.pinned; held = is.held; few = omega arith }

  of_cube : (cube : List Trit) (x : Node) → IsShort x → IsOfCube given (all_admitted admit) cube x
      → IsOfCube given (record { admit = capped admit; keep = keep }) cube x
  of_cube cube (node.Split position) short is = is
  of_cube cube (node.Bound domain bound) short is = is
  of_cube cube (node.Point time) short is = is
  of_cube cube node.Empty short is = λ may. is ((may.0.0, uncapped may.0.0 may.0.1, may.0.2), λ broken. let e = broken.stands in cc)
  of_cube cube (node.Refuted refuted) short is = absurd short

  pub good_among : (cubes : List (List Trit)) (tree : List Node) → AllByRecursion IsShort tree
      → AllByRecursion (IsGood given (all_admitted admit) (Some high)) (lines_from cubes tree)
      → AllByRecursion (IsGood given (record { admit = capped admit; keep = keep }) (Some high)) (lines_from cubes tree)
  good_among [] tree short good = tt
  good_among (cube ∷ cubes) [] short good = tt
  good_among (cube ∷ cubes) (x ∷ tree) short good = (
    record { splits = good.0.splits; enough = tt; one_pair = good.0.one_pair; of_cube = of_cube cube x short.0 good.0.of_cube; within = good.0.within },
    good_among (cubes_past cube (position_of x) cubes) tree short.1 good.1,
  )

-- ---- a later moment

within_more : (most high : ℕ) (x : Node) → most ≤ high → IsWithin (Some most) x → IsWithin (Some high) x
within_more most high (node.Split position) le is = tt
within_more most high (node.Bound domain bound) le is = omega (arith, le, is)
within_more most high (node.Point time) le is = omega (arith, le, is)
within_more most high node.Empty le is = tt
within_more most high (node.Refuted refuted) le is = of_bound refuted.bound is
  where
    of_bound : (bound : Option ℕ) → IsBoundWithin (Some most) bound → IsBoundWithin (Some high) bound
    of_bound None within = tt
    of_bound (Some bound) within = omega (arith, le, within)

good_more : (given : Setting) (asking : Asking) (most high : ℕ) → most ≤ high → (cubes : List (List Trit)) (tree : List Node)
    → AllByRecursion (IsGood given asking (Some most)) (lines_from cubes tree) → AllByRecursion (IsGood given asking (Some high)) (lines_from cubes tree)
good_more given asking most high le [] tree good = tt
good_more given asking most high le (cube ∷ cubes) [] good = tt
good_more given asking most high le (cube ∷ cubes) (x ∷ tree) good = (
  record {
    splits = good.0.splits;
    enough = tt;
    one_pair = good.0.one_pair;
    of_cube = good.0.of_cube;
    within = within_more most high x le good.0.within;
  },
  good_more given asking most high le (cubes_past cube (position_of x) cubes) tree good.1,
)

pub shows_more : (given : Setting) (admit : Admitted) (most high : ℕ) (tree : List Node) → most ≤ high → ShowsHigh given admit most tree → ShowsHigh given admit high tree
shows_more given admit most high tree le is = record {
  whole = is.whole;
  good = good_more given (all_admitted admit) most high le (admit.pins ∷ []) tree is.good;
  short = is.short;
  few = is.few;
}
