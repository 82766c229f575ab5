-- What may show the upper figure of an answer that stays open.
use Rattle.std.specs.Prelude.{ℕ, ◌≤◌, nat_lt, Option, Some, None, IfSome, if◌then◌else◌}
use Rattle.td_circuit.specs.Settings.{Setting}
use Rattle.td_domain.specs.Admits.{Admitted}
use Rattle.td_refutation.specs.Asking.{Asking}
use Rattle.td_refute.specs.Answers.{IsShown}
use Rattle.td_refute.specs.declared.refuting.Refuted.{Refuted}
use Rattle.td_refute.specs.Kept.{IsShownAmong}
use Rattle.td_search.specs.Opened.{ShowsHigh}
use Rattle.td_worst.specs.declared.support.HighTree.{HighTree}
use Rattle.td_worst.specs.declared.support.Support.{Support}

-- the tree shows that no admitted pair is later than its moment
abbrev pub IsHighTree : Setting → Admitted → HighTree → Type 0
IsHighTree given admit it = ShowsHigh given admit it.high it.tree

-- so does the tree, if there is one
abbrev pub IsSupportOf : Setting → Admitted → Option HighTree → Type 0
IsSupportOf given admit tree = IfSome tree (IsHighTree given admit)

-- the steps show their bound, and the tree its moment
pub record IsSupport (given : Setting) (admit : Admitted) (support : Support) : Type 0 where
  pub steps : IfSome support.steps (IsShown given admit)
  pub tree : IsSupportOf given admit support.tree

-- The steps show their bound of the pairs that keep conditions. The tree shows its moment of all that
-- are admitted.
pub record IsSupportAmong (given : Setting) (asking : Asking) (support : Support) : Type 0 where
  pub steps : IfSome support.steps (IsShownAmong given asking)
  pub tree : IsSupportOf given asking.admit support.tree

-- Of the trees of two searches: the later one's where its moment is below what was known before, so
-- the earlier one's where they are equal.
abbrev pub earlier_tree : ℕ → Option HighTree → Option HighTree → Option HighTree
earlier_tree known first None = first
earlier_tree known first (Some tree) = if nat_lt tree.high known then Some tree else first

-- an upper figure is at most the bound that steps show
abbrev pub IsWithinSteps : ℕ → Refuted → Type 0
IsWithinSteps high refuted = high ≤ refuted.bound

-- it is at most the moment that a tree shows
abbrev pub IsWithinTree : ℕ → HighTree → Type 0
IsWithinTree high it = high ≤ it.high

-- it is at most all that the support shows
pub record IsWithinSupport (high : ℕ) (support : Support) : Type 0 where
  pub steps : IfSome support.steps (IsWithinSteps high)
  pub tree : IfSome support.tree (IsWithinTree high)
