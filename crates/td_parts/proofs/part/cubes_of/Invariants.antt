use Rattle.std.proofs.Common.{◌≡◌, ◌++◌}
use Rattle.std.specs.Vec.Iter.{into_iter_items}
use Rattle.td_parts.specs.Splits.{cubes_of}
use Rattle.td_parts.proofs.part.cubes_of.Given as goal

abbrev pub invariant-loop-part : goal.invariant-loop-part
invariant-loop-part l = l.cubes.items ++ cubes_of (into_iter_items l.part-iterator) ≡ cubes_of l.fn.parts.items
