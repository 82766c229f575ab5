use Rattle.std.proofs.Common.{sym, ◌∙◌}
use Rattle.td_circuit.specs.Numbering.{nets}
use Rattle.td_circuit.proofs.Nets.{numbers-below}
use Rattle.td_domain.proofs.Limits.{small}
use Rattle.td_domain.proofs.Soundness.{no_later, front-bound, one_bound}
use Rattle.td_domain.proofs.Reaches.{within_reach}
use Rattle.td_domain.proofs.bounding.bound.Goals as goal

pub greatest_last-requires : goal.greatest_last-requires
greatest_last-requires g c =
    rw (c.outputs.ensures, c.deref.ensures.value, c.in_ok-signals.ensures.all)
    (numbers-below (nets c.args.circuit.now) c.args.circuit.now.outputs _ c.in_ok-signals.ensures.numbering.outputs)

pub returns-clause-bound : goal.returns-clause-bound
returns-clause-bound g c =
    front-bound g.D.Domain.functions g.D.Domain.reach c.args.circuit.now c.in_ok-signals.ensures.numbering c.args.cube.now
    c.in_ok-signals.signals.items c.in_ok-signals.ensures.all c.in_ok-signals.ensures.front _
    (rw (c.deref.ensures.value, c.outputs.ensures) at c.greatest_last.ensures)

pub returns-clause-sound : goal.returns-clause-sound
returns-clause-sound g c = λ moment is pair delay is_in is_delay.
    let bound = returns-clause-bound g c in
    let latest = no_later g.D.Domain.covers g.D.Domain.functions
    g.met.D.Domain.covers_input g.met.D.Domain.covers_constant g.met.D.Domain.covers_gate
    c.args.circuit.now c.in_ok-signals.ensures.numbering c.in_ok-signals.ensures.fit c.args.cube.now c.requires bound.signals bound.are_signals pair is_in is_delay.waves is_delay.runs
    g.met.D.Domain.quiet_after_last moment (sym bound.is_greatest ∙ is) in
    rw is_delay.is_latest latest

pub returns-clause-only : goal.returns-clause-only
returns-clause-only g c = λ other is.
    one_bound g.D.Domain.functions c.args.circuit.now c.in_ok-signals.ensures.numbering c.in_ok-signals.ensures.fit c.args.cube.now c.requires
    other _ is (returns-clause-bound g c)

pub returns-clause-small : goal.returns-clause-small
returns-clause-small g c = λ moment is.
    small g.D.Domain.functions.last_of g.D.Domain.reach (within_reach g.D.Domain.functions.last_of g.D.Domain.has_moment g.D.Domain.reach g.met.D.Domain.last_is_moment g.met.D.Domain.reach_each) c.args.circuit.now c.in_ok-signals.ensures.numbering c.in_ok-signals.signals.items
    c.in_ok-signals.ensures.all c.in_ok-signals.ensures.front.reaches c.args.circuit.now.outputs moment
    (sym (rw (c.deref.ensures.value, c.outputs.ensures) at c.greatest_last.ensures) ∙ is)
