-- An upper figure, and what may show it.
use Rattle.std.proofs.Common.{ℕ, ◌≤◌, arith}
use Rattle.std.specs.Prelude.{Option, Some, None, IfSome}
use Rattle.td_refute.specs.declared.refuting.Refuted.{Refuted}
use Rattle.td_worst.specs.declared.support.HighTree.{HighTree}
use Rattle.td_worst.specs.Supports.{IsWithinSteps, IsWithinTree}

-- a lesser figure is within it too
pub less_within_tree : (less high : ℕ) (tree : Option HighTree) → less ≤ high → IfSome tree (IsWithinTree high) → IfSome tree (IsWithinTree less)
less_within_tree less high None le is = tt
less_within_tree less high (Some tree) le is = omega (arith, le, is)

pub less_within_steps : (less high : ℕ) (steps : Option Refuted) → less ≤ high → IfSome steps (IsWithinSteps high) → IfSome steps (IsWithinSteps less)
less_within_steps less high None le is = tt
less_within_steps less high (Some steps) le is = omega (arith, le, is)
