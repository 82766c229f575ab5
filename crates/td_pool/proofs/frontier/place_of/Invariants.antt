use Rattle.std.proofs.Common.{◌≡◌, ℕ, ◌+◌, ◌≤◌, length}
use Rattle.std.specs.Prelude.{Some, slice_get}
use Rattle.td_pool.specs.declared.leaf.OpenLeaf.{OpenLeaf}
use Rattle.td_pool.specs.Frontiers.{BeginsAt}
use Rattle.td_pool.proofs.frontier.place_of.Given as goal

abbrev pub invariant-loop-behind : goal.invariant-loop-behind
invariant-loop-behind l = (place : ℕ) (leaf : OpenLeaf) → slice_get l.leaves place ≡ Some leaf → length l.leaves ≤ place + l.behind → ¬ BeginsAt l.evidence leaf
