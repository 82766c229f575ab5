use Rattle.std.proofs.Common.{refl}
use Rattle.td_circuit.specs.Views.{gate_of}
use Rattle.td_spans.specs.Clauses.{is_known}
use Rattle.td_spans.proofs.Stretches.{before_next_place, stretch_by, all_sure, none_sure, way_on, gets_less}
use Rattle.td_spans.proofs.gate_clauses.is_sure.Goals as goal

pub returns-then-is_covered : goal.returns-then-is_covered
returns-then-is_covered c =
    let before = before_next_place c.args.variables.now c.args.times.now c.args.body.now c.loop-saying.place c.stretch_last.result c.next_after-next.result
    c.stretch_last.ensures c.next_after-next.ensures.next in
    let stretch = stretch_by c.args.variables.now c.args.times.now (gate_of c.args.gate.now) c.args.body.now c.args.saying.level c.loop-saying.place c.stretch_last.result
    c.next_after-next.result c.is_known-passes.result c.stretch_last.ensures c.next_after-next.ensures.next c.is_known-passes.ensures in (
      λ _. all_sure (is_known c.args.variables.now c.args.times.now (gate_of c.args.gate.now) c.args.body.now c.args.saying.level) c.args.gate.now.delay c.args.saying
          c.steps_to-coming.result c.steps_to-going.result c.loop-saying.place c.loop-saying.walk c.walked-walk.result c.is_known-passes.result c.is_covered.result c.is_by.result
          c.next_after-next.result c.steps_to-coming.ensures.steps c.steps_to-going.ensures.steps c.steps_to-coming.ensures.some c.steps_to-going.ensures.some before stretch
          c.walked-walk.ensures c.loop-saying.invariant c.is_covered.ensures c.is_by.ensures c.if-not-is_by.false c.if-is_covered.true,
      λ all. refl,
    )

pub returns-in-None : goal.returns-in-None
returns-in-None c =
    let before = before_next_place c.args.variables.now c.args.times.now c.args.body.now c.loop-saying.place c.stretch_last.result c.next_after-next.result
    c.stretch_last.ensures c.next_after-next.ensures.next in
    let stretch = stretch_by c.args.variables.now c.args.times.now (gate_of c.args.gate.now) c.args.body.now c.args.saying.level c.loop-saying.place c.stretch_last.result
    c.next_after-next.result c.is_known-passes.result c.stretch_last.ensures c.next_after-next.ensures.next c.is_known-passes.ensures in (
      λ e. cc,
      λ all. absurd (none_sure (is_known c.args.variables.now c.args.times.now (gate_of c.args.gate.now) c.args.body.now c.args.saying.level) c.args.gate.now.delay c.args.saying
          c.steps_to-coming.result c.steps_to-going.result c.loop-saying.place c.loop-saying.walk c.walked-walk.result c.is_known-passes.result c.is_covered.result c.is_by.result
          c.next_after-next.result c.steps_to-coming.ensures.steps c.steps_to-going.ensures.steps c.steps_to-coming.ensures.some c.steps_to-going.ensures.some before stretch
          c.walked-walk.ensures c.loop-saying.invariant c.is_covered.ensures c.is_by.ensures c.if-not-is_by.false c.if-is_covered.false c.in-None.is all),
    )

pub loop-saying-smaller : goal.loop-saying-smaller
loop-saying-smaller c =
    let before = before_next_place c.args.variables.now c.args.times.now c.args.body.now c.loop-saying.place c.stretch_last.result c.next_after-next.result
    c.stretch_last.ensures c.next_after-next.ensures.next in
    let stretch = stretch_by c.args.variables.now c.args.times.now (gate_of c.args.gate.now) c.args.body.now c.args.saying.level c.loop-saying.place c.stretch_last.result
    c.next_after-next.result c.is_known-passes.result c.stretch_last.ensures c.next_after-next.ensures.next c.is_known-passes.ensures in
    gets_less (is_known c.args.variables.now c.args.times.now (gate_of c.args.gate.now) c.args.body.now c.args.saying.level) c.args.gate.now.delay c.args.saying
    c.steps_to-coming.result c.steps_to-going.result c.loop-saying.place c.loop-saying.walk c.walked-walk.result c.is_known-passes.result c.is_covered.result c.is_by.result
    c.next_after-next.result c.steps_to-coming.ensures.steps c.steps_to-going.ensures.steps c.steps_to-coming.ensures.some c.steps_to-going.ensures.some before stretch
    c.walked-walk.ensures c.loop-saying.invariant c.is_covered.ensures c.is_by.ensures c.if-not-is_by.false c.in-Some.later c.in-Some.is c.in-Some.ensures.few

pub loop-saying-preserved : goal.loop-saying-preserved
loop-saying-preserved c =
    let before = before_next_place c.args.variables.now c.args.times.now c.args.body.now c.loop-saying.place c.stretch_last.result c.next_after-next.result
    c.stretch_last.ensures c.next_after-next.ensures.next in
    let stretch = stretch_by c.args.variables.now c.args.times.now (gate_of c.args.gate.now) c.args.body.now c.args.saying.level c.loop-saying.place c.stretch_last.result
    c.next_after-next.result c.is_known-passes.result c.stretch_last.ensures c.next_after-next.ensures.next c.is_known-passes.ensures in
    way_on (is_known c.args.variables.now c.args.times.now (gate_of c.args.gate.now) c.args.body.now c.args.saying.level) c.args.gate.now.delay c.args.saying
    c.steps_to-coming.result c.steps_to-going.result c.loop-saying.place c.loop-saying.walk c.walked-walk.result c.is_known-passes.result c.is_covered.result c.is_by.result
    c.next_after-next.result c.steps_to-coming.ensures.steps c.steps_to-going.ensures.steps c.steps_to-coming.ensures.some c.steps_to-going.ensures.some before stretch
    c.walked-walk.ensures c.loop-saying.invariant c.is_covered.ensures c.is_by.ensures c.if-not-is_by.false c.if-is_covered.false c.in-Some.later c.in-Some.is c.in-Some.ensures.few
