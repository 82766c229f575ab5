use Rattle.std.proofs.Common.{◌∙◌, arith, refl}
use Rattle.td_domain.proofs.Redoings.{redo-none, redo-next-at, numbered}
use Rattle.td_domain.proofs.redoing.redo_gates.Goals as goal

pub loop-output-init : goal.loop-output-init
loop-output-init g c = record {
  redone = redo-none g.D.Domain.functions g.D.Domain.reach c.args.circuit.now c.gates-numbering.ensures.numbering c.args.signals.now c.requires.can.near;
  settled = c.requires.settled;
  marks = c.requires.marks;
  undone = refl;
  within = c.requires.within;
  space = omega (arith, c.requires.space);
}

pub overflow_sub-net : goal.overflow_sub-net
overflow_sub-net g c =
    (numbered g.D.Domain.functions g.D.Domain.reach c.args.circuit.now c.gates-numbering.ensures.numbering c.args.cone.now c.args.signals.now
    c.loop-output.output-index _ c.requires.can c.loop-output-test.true c.first_gate-first.ensures).0

pub redo_gate-requires-clause-place : goal.redo_gate-requires-clause-place
redo_gate-requires-clause-place g c =
    (numbered g.D.Domain.functions g.D.Domain.reach c.args.circuit.now c.gates-numbering.ensures.numbering c.args.cone.now c.args.signals.now
    c.loop-output.output-index _ c.requires.can c.loop-output-test.true c.first_gate-first.ensures).1

pub loop-output-preserved : goal.loop-output-preserved
loop-output-preserved g c = record {
  redone = redo-next-at g.D.Domain.functions g.D.Domain.reach c.args.circuit.now c.gates-numbering.ensures.numbering
      g.met.D.Domain.reach_gate c.args.cone.now c.loop-output.output-index _ c.args.signals.now c.loop-output.signals _
      c.requires.can c.loop-output-test.true c.first_gate-first.ensures c.loop-output.invariant.redone c.in_ok-redo_gate.ensures.gate;
  settled = c.in_ok-redo_gate.ensures.settled;
  marks = c.redo_gate.ensures.marks ∙ c.loop-output.invariant.marks;
  undone = c.redo_gate.ensures.undone ∙ c.loop-output.invariant.undone;
  within = rw (← c.loop-output.invariant.redone.count) (c.redo_gate.ensures.within);
  space = omega (arith, c.loop-output.invariant.space, c.redo_gate.ensures.space, c.redo_gate.ensures.capacity);
}
