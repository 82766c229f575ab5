use Rattle.std.proofs.Common.{◌≡◌, ◌∙◌, ◌⊎◌, length, max, sym}
use Rattle.td_circuit.specs.Numbering.{nets}
use Rattle.td_circuit.proofs.Nets.{numbers-below}
use Rattle.td_domain.specs.Together.{both_functions, pairs}
use Rattle.td_domain.specs.BothLaws.{both_covers_gate, both_quiet, both_last_is_moment, both_reach_each}
use Rattle.td_domain.proofs.Pairing.{pairs-front, length-pairs}
use Rattle.td_domain.proofs.Limits.{small}
use Rattle.td_domain.proofs.Reaches.{within_reach}
use Rattle.td_domain.proofs.Soundness.{no_later, front-bound, one_bound}
use Rattle.td_domain.proofs.together.bound_together.Goals as goal

pub greatest_of_both-requires-clause-within : goal.greatest_of_both-requires-clause-within
greatest_of_both-requires-clause-within g c =
    rw (c.outputs.ensures, c.signals.ensures.numbered, c.requires.first.page.count)
    (numbers-below (nets c.args.circuit.now) c.args.circuit.now.outputs _ c.requires.first.numbering.outputs)

pub greatest_of_both-requires-clause-len : goal.greatest_of_both-requires-clause-len
greatest_of_both-requires-clause-len g c =
    rw (c.signals.ensures.numbered, c.signals-2.ensures.numbered) (c.requires.second.page.count ∙ sym c.requires.first.page.count)

pub returns-clause-bound : goal.returns-clause-bound
returns-clause-bound g c =
    let same : length c.args.second.now.signals ≡ length c.args.first.now.signals = c.requires.second.page.count ∙ sym c.requires.first.page.count in
    front-bound (both_functions g.A.Domain.functions g.B.Domain.functions) (λ signal. max (g.A.Domain.reach signal.0) (g.B.Domain.reach signal.1))
    c.args.circuit.now c.requires.first.numbering c.args.first.now.cube (pairs c.args.first.now.signals c.args.second.now.signals)
    (length-pairs c.args.first.now.signals c.args.second.now.signals same ∙ c.requires.first.page.count)
    (pairs-front g.A.Domain.functions g.B.Domain.functions g.A.Domain.reach g.B.Domain.reach
    c.args.circuit.now c.requires.first.numbering c.args.first.now.cube c.args.first.now.signals c.args.second.now.signals
    same c.requires.first.page.front (rw c.requires.cube at c.requires.second.page.front))
    c.greatest_of_both.result
    (rw (c.signals.ensures.numbered, c.signals-2.ensures.numbered, c.outputs.ensures) at c.greatest_of_both.ensures)

pub returns-clause-only : goal.returns-clause-only
returns-clause-only g c = λ other bounds.
    one_bound (both_functions g.A.Domain.functions g.B.Domain.functions)
    c.args.circuit.now c.requires.first.numbering c.requires.first.fit c.args.first.now.cube c.requires.first.page.positions other _ bounds (returns-clause-bound g c)

pub returns-clause-sound : goal.returns-clause-sound
returns-clause-sound g c = λ moment at pair delay is_in is_delay.
    let bound = returns-clause-bound g c in
    let latest = no_later (λ signal wave. g.A.Domain.covers signal.0 wave × g.B.Domain.covers signal.1 wave)
    (both_functions g.A.Domain.functions g.B.Domain.functions)
    (λ first second own wave is. (g.met.A.Domain.covers_input first second own wave is, g.met.B.Domain.covers_input first second own wave is))
    (λ one wave is. (g.met.A.Domain.covers_constant one wave is, g.met.B.Domain.covers_constant one wave is))
    (both_covers_gate g.A.Domain.covers g.B.Domain.covers g.A.Domain.functions.gate_of g.B.Domain.functions.gate_of g.met.A.Domain.covers_gate g.met.B.Domain.covers_gate)
    c.args.circuit.now c.requires.first.numbering c.requires.first.fit c.args.first.now.cube c.requires.first.page.positions bound.signals bound.are_signals pair is_in
    is_delay.waves is_delay.runs
    (both_quiet g.A.Domain.covers g.B.Domain.covers g.A.Domain.functions.last_of g.B.Domain.functions.last_of g.met.A.Domain.quiet_after_last g.met.B.Domain.quiet_after_last)
    moment (sym bound.is_greatest ∙ at) in
    rw is_delay.is_latest latest

pub returns-clause-small : goal.returns-clause-small
returns-clause-small g c = λ moment at.
    let same : length c.args.second.now.signals ≡ length c.args.first.now.signals = c.requires.second.page.count ∙ sym c.requires.first.page.count in
    let front = pairs-front g.A.Domain.functions g.B.Domain.functions g.A.Domain.reach g.B.Domain.reach
    c.args.circuit.now c.requires.first.numbering c.args.first.now.cube c.args.first.now.signals c.args.second.now.signals
    same c.requires.first.page.front (rw c.requires.cube at c.requires.second.page.front) in
    small (both_functions g.A.Domain.functions g.B.Domain.functions).last_of (λ signal. max (g.A.Domain.reach signal.0) (g.B.Domain.reach signal.1))
    (within_reach (both_functions g.A.Domain.functions g.B.Domain.functions).last_of (λ signal at_moment. g.A.Domain.has_moment signal.0 at_moment ⊎ g.B.Domain.has_moment signal.1 at_moment)
    (λ signal. max (g.A.Domain.reach signal.0) (g.B.Domain.reach signal.1))
    (both_last_is_moment g.A.Domain.has_moment g.B.Domain.has_moment g.A.Domain.functions.last_of g.B.Domain.functions.last_of g.met.A.Domain.last_is_moment g.met.B.Domain.last_is_moment)
    (both_reach_each g.A.Domain.reach g.B.Domain.reach g.A.Domain.has_moment g.B.Domain.has_moment g.met.A.Domain.reach_each g.met.B.Domain.reach_each))
    c.args.circuit.now c.requires.first.numbering (pairs c.args.first.now.signals c.args.second.now.signals)
    (length-pairs c.args.first.now.signals c.args.second.now.signals same ∙ c.requires.first.page.count) front.reaches c.args.circuit.now.outputs moment
    (sym (rw (c.signals.ensures.numbered, c.signals-2.ensures.numbered, c.outputs.ensures) at c.greatest_of_both.ensures) ∙ at)
