use Rattle.std.proofs.Common.{◌≡◌, ◌++◌, length, take, map}
use Rattle.td_propagation.specs.Literals.{literal_at}
use Rattle.td_propagation.proofs.arena.put.Given as goal

abbrev pub invariant-loop-literal : goal.invariant-loop-literal
invariant-loop-literal l = record {
  is : map literal_at l.numbers.items ≡ map literal_at l.initial.numbers.items ++ take l.literal-index l.clause;
  kept : take (length l.initial.numbers.items) l.numbers.items ≡ l.initial.numbers.items;
}
