use Rattle.std.proofs.Common.{drop}
use Rattle.td_ternary.specs.Tracks.{outlook_of}
use Rattle.td_ternary.proofs.Passing.{IsKept}
use Rattle.td_ternary.proofs.gates.possible_after.Given as goal

abbrev pub invariant-loop-change : goal.invariant-loop-change
invariant-loop-change l = IsKept l.delay l.reversed l.target (drop l.change-index l.change-items) l.changes.items (outlook_of l.now)
