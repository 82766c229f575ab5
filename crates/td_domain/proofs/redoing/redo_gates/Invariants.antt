use Rattle.std.proofs.Common.{◌≡◌, ◌+◌, ◌≤◌, length, take, vec_len}
use Rattle.std.specs.Prelude.{vec_capacity}
use Rattle.td_domain.specs.Redoing.{AreAllRedone, AreSettled}
use Rattle.td_domain.specs.Undoing.{undone, AreWithin}
use Rattle.td_domain.proofs.redoing.redo_gates.Given as goal

abbrev pub invariant-loop-output : goal.invariant-loop-output
invariant-loop-output g l = record {
  redone : AreAllRedone g.D.Domain.functions g.D.Domain.reach l.circuit (take l.output-index l.cone) l.initial.signals l.signals;
  settled : AreSettled g.D.Domain.functions l.circuit l.changed l.signals;
  marks : length l.changed ≡ length l.initial.signals;
  undone : undone l.signals l.replaced.items ≡ undone l.initial.signals l.initial.replaced.items;
  within : AreWithin (length l.initial.signals) l.replaced.items;
  space : vec_len l.replaced + length l.cone ≤ vec_capacity l.replaced + l.output-index;
}
