use Rattle.std.proofs.Common.{◌≡◌}
use Rattle.td_book_rows.proofs.steps.dig.Given as goal

abbrev pub invariant-loop : goal.invariant-loop
invariant-loop l = record { cube : l.tree.cube ≡ l.initial.tree.cube }
