use Rattle.std.proofs.Common.{◌≡◌, ◌+◌, length}
use Rattle.std.specs.List.{AllByRecursion}
use Rattle.std.specs.Vec.Iter.{into_iter_items}
use Rattle.td_search.specs.Problems.{problem_of}
use Rattle.td_pool.specs.Truth.{IsFresh, IsStarting}
use Rattle.td_pool.proofs.starting.fresh_of.Given as goal

abbrev pub invariant-loop-seat : goal.invariant-loop-seat
invariant-loop-seat l = record {
  left : AllByRecursion (IsFresh l.fn.incumbent) (into_iter_items l.seat-iterator);
  done : AllByRecursion (IsStarting (problem_of l.fn.problem) l.fn.incumbent) l.all.items;
  count : length l.all.items + length (into_iter_items l.seat-iterator) ≡ length l.fn.seats.items;
}
