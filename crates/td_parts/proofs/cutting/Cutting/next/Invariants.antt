use Rattle.std.proofs.Common.{◌≡◌, length}
use Rattle.td_parts.specs.Queues.{places_of, AreBelow, AreWaiting}
use Rattle.td_parts.proofs.cutting.Cutting.next.Given as goal

abbrev pub invariant-loop-place : goal.invariant-loop-place
invariant-loop-place l = record {
  parts : l.self.parts ≡ l.fn.self.parts;
  queued : AreBelow (length l.self.parts.items) l.self.queue;
  waiting : AreWaiting l.self.parts.items l.self.queue;
}

abbrev pub decreases-loop-place : goal.decreases-loop-place
decreases-loop-place l = length (places_of l.self.queue)
