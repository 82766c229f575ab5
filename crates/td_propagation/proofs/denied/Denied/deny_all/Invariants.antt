use Rattle.std.proofs.Common.{◌≡◌, length, drop}
use Rattle.td_propagation.specs.Marks.{all_denied}
use Rattle.td_propagation.proofs.denied.Denied.deny_all.Given as goal

abbrev pub invariant-loop-literal : goal.invariant-loop-literal
invariant-loop-literal l =
    (all_denied l.self.marks.items (drop l.literal-index l.clause) ≡ all_denied l.initial.self.marks.items l.clause)
    × (length l.self.marks.items ≡ length l.initial.self.marks.items)
