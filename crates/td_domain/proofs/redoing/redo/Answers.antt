use Rattle.std.proofs.Common.{◌≡◌, ◌+◌, ◌*◌, ◌/◌, ◌<◌, ◌∙◌, ℕ, true, List, length, set, arith, ap}
use Rattle.std.proofs.lemmas.List.{length-set}
use Rattle.td_domain.specs.declared.cubes.Trit.{Trit}
use Rattle.td_domain.specs.declared.cubes.Trit.TheVariants.{Free}
use Rattle.td_domain.proofs.Moments.{moment_at, moment_early}
use Rattle.td_domain.proofs.Redoings.{can-redo, near-input, redone-page}
use Rattle.td_domain.proofs.Settling.{settled-first}
use Rattle.td_gates.proofs.Places.{slice_get-set_same}
use Rattle.td_circuit.proofs.Nets.{length-nets}
use Rattle.td_domain.proofs.redoing.redo.Goals as goal

-- there is a moment for the input of a position
below_here : (moments items : List ℕ) (cube : List Trit) (position inputs : ℕ) → items ≡ moments → length moments ≡ inputs
    → position < length cube → length (set cube position Free) ≡ 2 * inputs → position / 2 < length items
below_here moments items cube position inputs same each within positions =
    rw same (omega (arith, each, within, positions, length-set cube position Free))

pub bounds-moments-input : goal.bounds-moments-input
bounds-moments-input g c =
    below_here c.args.circuit.now.moments c.moments-moments.result.now c.args.narrower.cube.now c.args.narrower.position _
    c.moments-moments.ensures.moments c.moments-moments.ensures.fit.count c.requires.position c.requires.page.positions

pub input-requires : goal.input-requires
input-requires g c =
    moment_early c.args.circuit.now.moments c.moments-moments.result.now (c.args.narrower.position / 2) 0 c.moments-moments.ensures.moments
    (below_here c.args.circuit.now.moments c.moments-moments.result.now c.args.narrower.cube.now c.args.narrower.position _
    c.moments-moments.ensures.moments c.moments-moments.ensures.fit.count c.requires.position c.requires.page.positions)
    c.moments-moments.ensures.fit.within

pub redo_gates-requires-clause-can : goal.redo_gates-requires-clause-can
redo_gates-requires-clause-can g c =
    rw (c.put.ensures.signals, c.net_of_input-net.ensures) (can-redo g.D.Domain.functions g.D.Domain.reach c.args.circuit.now c.gates-numbering.ensures.numbering
    _ c.args.narrower.cone.now _ c.requires.cone (length-set c.args.signals.now _ c.in_ok-signal.signal ∙ c.requires.page.count)
    (near-input g.D.Domain.functions g.D.Domain.reach c.args.circuit.now c.gates-numbering.ensures.numbering
    g.met.D.Domain.reach_input c.args.signals.now _ _ _ _ c.in_ok-signal.signal
    (moment_early c.args.circuit.now.moments c.moments-moments.result.now (c.args.narrower.position / 2) 0 c.moments-moments.ensures.moments
    (below_here c.args.circuit.now.moments c.moments-moments.result.now c.args.narrower.cube.now c.args.narrower.position _
    c.moments-moments.ensures.moments c.moments-moments.ensures.fit.count c.requires.position c.requires.page.positions)
    c.moments-moments.ensures.fit.within) c.in_ok-signal.ensures c.requires.page.front.reaches))

pub redo_gates-requires-clause-settled : goal.redo_gates-requires-clause-settled
redo_gates-requires-clause-settled g c =
    let early : c.args.narrower.position / 2 < length c.args.circuit.now.netlist.inputs =
    omega (arith, c.requires.position, length-set c.args.narrower.cube.now c.args.narrower.position Free, c.requires.page.positions) in
    rw (c.put.ensures.signals, c.net_of_input-net.ensures) (settled-first g.D.Domain.functions c.args.circuit.now c.gates-numbering.ensures.numbering g.D.Domain.reach
    _ c.args.signals.now (c.args.narrower.position / 2) c.in_ok-signal.signal _ c.requires.page.count c.requires.page.front early
    (slice_get-set_same c.fill.new.self (2 + c.args.narrower.position / 2) true
    (omega (arith, early, c.fill.ensures.len, c.requires.marks, c.requires.page.count, length-nets c.args.circuit.now c.gates-numbering.ensures.numbering))))

pub returns-in-Ok-clause-page : goal.returns-in-Ok-clause-page
returns-in-Ok-clause-page g c =
    redone-page g.D.Domain.functions g.D.Domain.reach c.args.circuit.now c.gates-numbering.ensures.numbering
    c.args.narrower.cube.now c.args.narrower.position _ _ _ c.in_ok-signal.signal c.args.signals.now _ _ c.args.narrower.cone.now c.requires.position c.requires.page c.requires.cone
    c.trit.ensures c.trit-2.ensures
    (moment_at c.args.circuit.now.moments c.moments-moments.result.now (c.args.narrower.position / 2) 0 c.moments-moments.ensures.moments
    (below_here c.args.circuit.now.moments c.moments-moments.result.now c.args.narrower.cube.now c.args.narrower.position _
    c.moments-moments.ensures.moments c.moments-moments.ensures.fit.count c.requires.position c.requires.page.positions))
    c.in_ok-signal.ensures
    (c.put.ensures.signals ∙ ap (λ n. set c.args.signals.now n c.in_ok-signal.signal) c.net_of_input-net.ensures) c.in-Ok.ensures.redone
