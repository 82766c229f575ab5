use Rattle.std.proofs.Common.{◌≡◌, ◌∙◌, ◌+◌, ◌<◌, ℕ, List, length, map, set, Some, arith, sym, ap, refl}
use Rattle.std.specs.Prelude.{slice_get, filter_map}
use Rattle.std.proofs.lemmas.List.{length-map}
use Rattle.std.proofs.lemmas.Option.{slice_get_read}
use Rattle.td_gates.proofs.Places.{some-same}
use Rattle.td_circuit.specs.declared.circuit.Gate as code
use Rattle.td_circuit.specs.Views.{gate_of}
use Rattle.td_circuit.specs.Numbering.{NumberedGate, first_output}
use Rattle.td_circuit.proofs.Nets.{lower-at, length-nets, takes-at}
use Rattle.td_domain.proofs.Coning.{at_place}
use Rattle.td_domain.proofs.FrontLemmas.{terminals-at}
use Rattle.td_domain.proofs.Redoings.{reads-small}
use Rattle.td_domain.proofs.Settling.{set-known, settled-next}
use Rattle.td_domain.proofs.redoing.evaluate.Goals as goal

-- the gate that stands at the place
releasable : (gates : List code.Gate) (of_circuit : List NumberedGate) (place : ℕ) (gate : code.Gate) → map gate_of gates ≡ of_circuit
    → place < length of_circuit → (place < length gates → slice_get of_circuit place ≡ Some (gate_of gate)) → slice_get of_circuit place ≡ Some (gate_of gate)
releasable gates of_circuit place gate same within at = at (omega (arith, sym (length-map gates gate_of) ∙ ap length same))

pub gate-requires-clause-places : goal.gate-requires-clause-places
gate-requires-clause-places g c =
    let stands = releasable _ _ _ c.index-gates-place.result c.gates-gates.ensures.gates c.requires.place (λ h. at_place _ _ _ _ c.gates-gates.ensures.gates h c.index-gates-place.is) in
    rw c.deref.ensures.value (λ k d less.
    let lower = lower-at c.args.circuit.now c.gates-gates.ensures.numbering _ _ stands k d less in
    omega (arith, lower, c.requires.place, c.requires.count, length-nets c.args.circuit.now c.gates-gates.ensures.numbering))

pub gate-requires-clause-takes : goal.gate-requires-clause-takes
gate-requires-clause-takes g c =
    let stands = releasable _ _ _ c.index-gates-place.result c.gates-gates.ensures.gates c.requires.place (λ h. at_place _ _ _ _ c.gates-gates.ensures.gates h c.index-gates-place.is) in
    rw c.deref.ensures.value (takes-at c.args.circuit.now c.gates-gates.ensures.numbering _ _ stands)

pub gate-requires-clause-few : goal.gate-requires-clause-few
gate-requires-clause-few g c =
    let stands = releasable _ _ _ c.index-gates-place.result c.gates-gates.ensures.gates c.requires.place (λ h. at_place _ _ _ _ c.gates-gates.ensures.gates h c.index-gates-place.is) in
    rw c.deref.ensures.value (terminals-at c.args.circuit.now c.gates-gates.ensures.numbering _ _ stands)

pub gate-requires-clause-within : goal.gate-requires-clause-within
gate-requires-clause-within g c =
    let stands = releasable _ _ _ c.index-gates-place.result c.gates-gates.ensures.gates c.requires.place (λ h. at_place _ _ _ _ c.gates-gates.ensures.gates h c.index-gates-place.is) in
    rw c.deref.ensures.value (reads-small g.D.Domain.functions g.D.Domain.reach c.args.circuit.now c.gates-gates.ensures.numbering
    c.args.signals.now _ _ stands c.requires.count c.requires.near)

pub returns-then-is_same-clause-gate : goal.returns-then-is_same-clause-gate
returns-then-is_same-clause-gate g c = λ gate at.
    let stands = releasable _ _ _ c.index-gates-place.result c.gates-gates.ensures.gates c.requires.place (λ h. at_place _ _ _ _ c.gates-gates.ensures.gates h c.index-gates-place.is) in
    let same : gate_of c.index-gates-place.result ≡ gate = some-same (gate_of c.index-gates-place.result) gate (sym stands ∙ at) in
    let net : c.net_of_gate-net.result ≡ first_output c.args.circuit.now + c.args.place = c.net_of_gate-net.ensures in
    let there : slice_get c.args.signals.now c.net_of_gate-net.result ≡ Some c.index-signals-net.result =
    slice_get_read c.args.signals.now (length c.args.signals.now) c.net_of_gate-net.result c.index-signals-net.result refl
    (omega (arith, c.net_of_gate-net.ensures, c.requires.place, c.requires.count, length-nets c.args.circuit.now c.gates-gates.ensures.numbering)) c.index-signals-net.is in
    let equal : c.in_ok-signal.signal ≡ c.index-signals-net.result = c.is_same.ensures.0 c.if-is_same.true ∙ sym c.index-signals-net.is in
    let is = (rw c.deref.ensures.value at c.in_ok-signal.ensures)
    ∙ ap (λ (it : NumberedGate). g.D.Domain.functions.gate_of it.kind it.delay (filter_map (slice_get c.args.signals.now) it.inputs)) same in
    sym (set-known c.args.signals.now (first_output c.args.circuit.now + c.args.place) _
    (ap (λ n. slice_get c.args.signals.now n) (sym net) ∙ there ∙ ap (λ x. Some x) (sym equal ∙ is)))

pub returns-clause-gate : goal.returns-clause-gate
returns-clause-gate g c = λ gate at.
    let stands = releasable _ _ _ c.index-gates-place.result c.gates-gates.ensures.gates c.requires.place (λ h. at_place _ _ _ _ c.gates-gates.ensures.gates h c.index-gates-place.is) in
    let same : gate_of c.index-gates-place.result ≡ gate = some-same (gate_of c.index-gates-place.result) gate (sym stands ∙ at) in
    let net : c.net_of_gate-net.result ≡ first_output c.args.circuit.now + c.args.place = c.net_of_gate-net.ensures in
    let is = (rw c.deref.ensures.value at c.in_ok-signal.ensures)
    ∙ ap (λ (it : NumberedGate). g.D.Domain.functions.gate_of it.kind it.delay (filter_map (slice_get c.args.signals.now) it.inputs)) same in
    c.put.ensures.signals ∙ ap (λ n. set c.args.signals.now n c.in_ok-signal.signal) net
    ∙ ap (λ x. set c.args.signals.now (first_output c.args.circuit.now + c.args.place) x) is

pub returns-clause-settled : goal.returns-clause-settled
returns-clause-settled g c =
    let stands = releasable _ _ _ c.index-gates-place.result c.gates-gates.ensures.gates c.requires.place (λ h. at_place _ _ _ _ c.gates-gates.ensures.gates h c.index-gates-place.is) in
    let net : c.net_of_gate-net.result ≡ first_output c.args.circuit.now + c.args.place = c.net_of_gate-net.ensures in
    rw (c.put.ensures.signals, net) (settled-next g.D.Domain.functions c.args.circuit.now c.gates-gates.ensures.numbering
    c.args.place (gate_of c.index-gates-place.result) c.args.signals.now c.args.changed.now c.in_ok-signal.signal stands
    c.requires.count c.requires.marks (rw c.deref.ensures.value at c.in_ok-signal.ensures) c.requires.settled)
