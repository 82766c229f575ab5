use Rattle.std.proofs.Common.{◌≤◌, length}
use Rattle.std.specs.Prelude.{max}
use Rattle.td_circuit.specs.Numbering.{setting}
use Rattle.td_parts.specs.Queues.{AreWaiting}
use Rattle.td_parts.specs.Splits.{cubes_of}
use Rattle.td_parts.specs.Sharing.{IsCutting, weight}
use Rattle.td_parts.proofs.cutting.Cutting.halve_until.Given as goal

abbrev pub invariant-loop-self : goal.invariant-loop-self
invariant-loop-self g l = record {
  cutting : IsCutting l.fn.task.problem.now.strategy (setting l.fn.task.problem.now.circuit.now) l.fn.task.problem.now.admit.now l.self;
  waiting : AreWaiting l.self.parts.items l.self.queue;
  few : length l.self.parts.items ≤ max 1 l.fn.parts;
  scratch : g.R.Rule.is_for l.scratch l.fn.task.problem.now.circuit.now;
}

abbrev pub decreases-loop-self : goal.decreases-loop-self
decreases-loop-self g l = weight (cubes_of l.self.parts.items)
