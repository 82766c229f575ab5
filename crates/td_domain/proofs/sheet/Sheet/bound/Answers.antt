use Rattle.std.proofs.Common.{◌≡◌, ◌∙◌, map, sym}
use Rattle.std.specs.Prelude.{slice_get, filter_map}
use Rattle.td_domain.specs.Bounds.{greatest_bound}
use Rattle.td_domain.proofs.Limits.{small}
use Rattle.td_domain.proofs.Soundness.{no_later, front-bound, one_bound}
use Rattle.td_domain.proofs.Reaches.{within_reach}
use Rattle.td_domain.proofs.sheet.Sheet.bound.Goals as goal

pub returns-clause-bound : goal.returns-clause-bound
returns-clause-bound g c = λ circuit is.
    let reported : c.greatest_last.result ≡ greatest_bound (map g.D.Domain.functions.last_of (filter_map (slice_get c.args.self.now.signals) c.args.self.now.outputs)) =
    rw (← c.self.view_is) (rw (c.deref.ensures.value, c.deref-2.ensures.value) at c.greatest_last.ensures) in
    front-bound g.D.Domain.functions g.D.Domain.reach circuit is.numbering c.args.self.now.cube
    c.args.self.now.signals is.page.count is.page.front c.greatest_last.result (rw is.outputs at reported)

pub returns-clause-only : goal.returns-clause-only
returns-clause-only g c = λ circuit is other bounds.
    one_bound g.D.Domain.functions circuit is.numbering is.fit c.args.self.now.cube is.page.positions
    other _ bounds (returns-clause-bound g c circuit is)

pub returns-clause-sound : goal.returns-clause-sound
returns-clause-sound g c = λ circuit is moment at pair delay is_in is_delay.
    let bound = returns-clause-bound g c circuit is in
    let latest = no_later g.D.Domain.covers g.D.Domain.functions
    g.met.D.Domain.covers_input g.met.D.Domain.covers_constant g.met.D.Domain.covers_gate
    circuit is.numbering is.fit c.args.self.now.cube is.page.positions bound.signals bound.are_signals pair is_in is_delay.waves is_delay.runs
    g.met.D.Domain.quiet_after_last moment (sym bound.is_greatest ∙ at) in
    rw is_delay.is_latest latest

pub returns-clause-small : goal.returns-clause-small
returns-clause-small g c = λ circuit is moment at.
    let reported : c.greatest_last.result ≡ greatest_bound (map g.D.Domain.functions.last_of (filter_map (slice_get c.args.self.now.signals) c.args.self.now.outputs)) =
    rw (← c.self.view_is) (rw (c.deref.ensures.value, c.deref-2.ensures.value) at c.greatest_last.ensures) in
    small g.D.Domain.functions.last_of g.D.Domain.reach
    (within_reach g.D.Domain.functions.last_of g.D.Domain.has_moment g.D.Domain.reach g.met.D.Domain.last_is_moment g.met.D.Domain.reach_each)
    circuit is.numbering c.args.self.now.signals is.page.count is.page.front.reaches c.args.self.now.outputs moment (sym reported ∙ at)
