use Rattle.std.proofs.Common.{◌≡◌, ◌++◌}
use Rattle.std.specs.Vec.Iter.{into_iter_items}
use Rattle.td_join.specs.Steps.{zero_parts, one_parts}
use Rattle.td_join.proofs.parts.sides.Given as goal

abbrev pub invariant-loop-part : goal.invariant-loop-part
invariant-loop-part l = record {
  zeros : l.zeros.items ++ zero_parts l.position (into_iter_items l.part-iterator) ≡ zero_parts l.position l.fn.parts.items;
  ones : l.ones.items ++ one_parts l.position (into_iter_items l.part-iterator) ≡ one_parts l.position l.fn.parts.items;
}
