use Rattle.std.proofs.Common.{◌≡◌, drop, map}
use Rattle.td_propagation.specs.Literals.{literal_at}
use Rattle.td_propagation.specs.Propagating.{left_from, left_of}
use Rattle.td_propagation.proofs.denied.Denied.left.Given as goal

abbrev pub invariant-loop-number : goal.invariant-loop-number
invariant-loop-number l = left_from l.self.marks.items l.left (map literal_at (drop l.number-index l.clause)) ≡ left_of l.self.marks.items (map literal_at l.clause)
