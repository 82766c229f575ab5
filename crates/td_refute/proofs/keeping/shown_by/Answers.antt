use Rattle.td_circuit.specs.Numbering.{setting}
use Rattle.td_refute.proofs.Among.{bound_among}
use Rattle.td_refute.proofs.keeping.shown_by.Goals as goal

pub returns-in-Ok : goal.returns-in-Ok
returns-in-Ok c = record {
  steps = rw (c.deref.ensures.value, c.pins-pins.ensures.pins) at c.in-Ok.ensures.shown;
  bound = bound_among (setting c.args.circuit.now) (record { admit = c.args.admit.now; keep = c.args.keep.now }) c.in-Ok.shown.bound
      (rw c.pins-pins.ensures.pins at c.in-Ok.ensures.bound);
}
