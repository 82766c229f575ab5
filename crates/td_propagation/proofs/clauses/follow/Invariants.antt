use Rattle.std.proofs.Common.{◌≡◌, length, drop}
use Rattle.td_propagation.specs.Following.{follow}
use Rattle.td_propagation.proofs.clauses.follow.Given as goal

abbrev pub invariant-loop-hint : goal.invariant-loop-hint
invariant-loop-hint l =
    (follow l.clauses l.denied.marks.items (drop l.hint-index l.hints) ≡ follow l.clauses l.initial.denied.marks.items l.hints)
    × (length l.denied.marks.items ≡ length l.initial.denied.marks.items)
