use Rattle.std.proofs.Common.{◌+◌, ◌≤◌, arith}
use Rattle.td_circuit.specs.Numbering.{nets}
use Rattle.td_circuit.proofs.Nets.{numbers-below}
use Rattle.td_event_sim.specs.declared.state.State.{State}
use Rattle.td_event_sim.proofs.Ending.{come-to, delay-is, only-delay}
use Rattle.td_event_sim.proofs.state.State.simulate.Goals as goal

pub loop-moment-init : goal.loop-moment-init
loop-moment-init c = record {
  first = c.first-moment.ensures.least;
  earliest = c.first-moment.ensures.earliest;
  waiting = c.in_ok-start.ensures.waiting;
  counted = c.in_ok-start.ensures.counted;
  fits = c.start.ensures.fits;
  reached = λ waves outs run. (let was = c.in_ok-start.ensures.reached waves outs run in (was.0, was.1, was.2, omega (arith, was.3), was.4));
}

pub loop-moment-preserved : goal.loop-moment-preserved
loop-moment-preserved c =
    let rises : c.loop-moment.moment + 1 ≤ c.first_from-moment.result =
    c.first_from-moment.ensures.greatest (c.loop-moment.moment + 1) c.in_ok-advance.ensures.from in
    record {
      first = c.first_from-moment.ensures.least;
      earliest = c.first_from-moment.ensures.earliest;
      waiting = c.in_ok-advance.ensures.waiting;
      counted = c.in_ok-advance.ensures.counted;
      fits = c.advance.ensures.fits;
      reached = λ waves outs run.
          let was = c.loop-moment.invariant.reached waves outs run in
          let here = come-to c.args.circuit.now waves was.0 c.loop-moment.self.events.queue was.2 c.loop-moment.moment
          c.loop-moment.self.logic.levels.items c.loop-moment.self.events.whens.items c.loop-moment.self.latest.items was.1
          was.3 c.loop-moment.invariant.waiting c.loop-moment.invariant.earliest was.4 in
          (was.0, was.1, c.loop-moment.moment + 1, rises, c.in_ok-advance.ensures.state waves was.0 was.1 here);
    }

pub greatest-requires : goal.greatest-requires
greatest-requires c =
    rw (c.outputs.ensures, c.deref-2.ensures.value, c.loop-moment.invariant.fits.latest)
    (numbers-below (nets c.args.circuit.now) c.args.circuit.now.outputs _ c.gates-gates.ensures.numbering.outputs)

pub returns-clause-delay : goal.returns-clause-delay
returns-clause-delay c =
    let state : State = c.loop-moment.self in
    let greatest_is = rw (c.outputs.ensures, c.deref-2.ensures.value) at c.greatest.ensures in
    record {
      is = delay-is c.args.circuit.now c.args.pair.now c.gates-gates.ensures.numbering c.moments-moments.ensures.fit c.requires.first_fits c.requires.second_fits
          state.events.queue c.loop-moment.moment state.logic.levels.items state.events.whens.items state.latest.items (omega (arith, c.loop-moment-test.false))
          c.loop-moment.invariant.waiting c.loop-moment.invariant.earliest c.loop-moment.invariant.reached c.greatest.result greatest_is;
      only = only-delay c.args.circuit.now c.args.pair.now c.gates-gates.ensures.numbering c.moments-moments.ensures.fit c.requires.first_fits c.requires.second_fits
          state.events.queue c.loop-moment.moment state.logic.levels.items state.events.whens.items state.latest.items (omega (arith, c.loop-moment-test.false))
          c.loop-moment.invariant.waiting c.loop-moment.invariant.earliest c.loop-moment.invariant.reached c.greatest.result greatest_is;
    }
