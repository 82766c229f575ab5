use Rattle.std.proofs.Common.{◌-◌, length}
use Rattle.td_path.specs.Walks.{AreKept}
use Rattle.td_path.proofs.terminals.first_change.Given as goal

abbrev pub invariant-loop-terminal : goal.invariant-loop-terminal
invariant-loop-terminal l = AreKept l.run.waves l.nets l.moment l.terminal

abbrev pub decreases-loop-terminal : goal.decreases-loop-terminal
decreases-loop-terminal l = length l.nets - l.terminal
