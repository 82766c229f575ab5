use Rattle.td_circuit.specs.Numbering.{setting}
use Rattle.td_refute.proofs.Worst.{bounded, worst_is}
use Rattle.td_refute.proofs.refuting.show.Goals as goal

pub returns-in-Ok-clause-shown : goal.returns-in-Ok-clause-shown
returns-in-Ok-clause-shown c = record {
  steps = rw (c.pins-pins.ensures.pins, c.deref.ensures.value) at c.in-Ok.ensures.shown;
  bound = bounded (setting c.args.circuit.now) c.args.admit.now c.in-Ok.bound (rw c.pins-pins.ensures.pins at c.in-Ok.ensures.bound);
}

pub returns-in-Ok-clause-worst : goal.returns-in-Ok-clause-worst
returns-in-Ok-clause-worst c =
    worst_is (setting c.args.circuit.now) c.args.admit.now c.args.best.now c.in-Ok.bound c.requires.best
    (bounded (setting c.args.circuit.now) c.args.admit.now c.in-Ok.bound (rw c.pins-pins.ensures.pins at c.in-Ok.ensures.bound))
