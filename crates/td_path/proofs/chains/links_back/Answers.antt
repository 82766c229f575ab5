use Rattle.std.proofs.Common.{◌≡◌, List, length, map, arith, sym, ap, ◌∙◌, refl}
use Rattle.std.proofs.lemmas.List.{length-map}
use Rattle.std.proofs.lemmas.Option.{slice_get_read, slice_get-get_or}
use Rattle.td_gates.proofs.Places.{slice_get-some, slice_get-get}
use Rattle.td_circuit.specs.declared.circuit.Gate as code
use Rattle.td_circuit.specs.Numbering.{NumberedGate}
use Rattle.td_circuit.specs.Views.{gate_of}
use Rattle.td_circuit.proofs.Nets.{lower-at, length-nets}
use Rattle.td_circuit.proofs.Gates.{numbered-at}
use Rattle.td_path.proofs.Walking.{steps_are, back_far, step_back, ends_back}
use Rattle.td_path.proofs.chains.links_back.Goals as goal

same_length : (gates : List code.Gate) (of_circuit : List NumberedGate) → map gate_of gates ≡ of_circuit → length gates ≡ length of_circuit
same_length gates of_circuit same = sym (length-map gates gate_of) ∙ ap length same

pub overflow_sub-earlier : goal.overflow_sub-earlier
overflow_sub-earlier c =
    let below = c.loop-net.invariant.below in
    let nets = length-nets c.args.circuit.now c.requires.numbering in
    let long = same_length _ _ c.gates-gates.ensures.gates in
    let stands = numbered-at c.gates-gates.result.now c.args.circuit.now.gates _ c.index-gates-place.result c.gates-gates.ensures.gates
    (omega (arith, below, nets, long, c.loop-net-test.true, c.first_gate-first.ensures)) c.index-gates-place.is in
    let steps = steps_are c.args.run.now.waves c.loop-net.net c.loop-net.moment c.to-delay.result c.wave.result.now c.at.result c.index-gates-place.result.delay
    c.wave.ensures c.at.ensures c.to-delay.ensures.delay in
    let far = back_far c.args.circuit.now c.args.run.now c.requires.numbering c.requires.run _ c.loop-net.net c.loop-net.moment c.to-delay.result
    (gate_of c.index-gates-place.result) stands (omega (arith, c.loop-net-test.true, c.first_gate-first.ensures)) c.loop-net.invariant.changes steps in
    far.0

pub first_change-terminal-requires-clause-nets : goal.first_change-terminal-requires-clause-nets
first_change-terminal-requires-clause-nets c =
    let below = c.loop-net.invariant.below in
    let nets = length-nets c.args.circuit.now c.requires.numbering in
    let long = same_length _ _ c.gates-gates.ensures.gates in
    let stands = numbered-at c.gates-gates.result.now c.args.circuit.now.gates _ c.index-gates-place.result c.gates-gates.ensures.gates
    (omega (arith, below, nets, long, c.loop-net-test.true, c.first_gate-first.ensures)) c.index-gates-place.is in
    rw c.deref.ensures.value (λ k d less.
    let lower = lower-at c.args.circuit.now c.requires.numbering _ (gate_of c.index-gates-place.result) stands k d less in
    omega (arith, lower, below, c.requires.run.count, c.loop-net-test.true, c.first_gate-first.ensures))

pub first_change-terminal-requires-clause-some : goal.first_change-terminal-requires-clause-some
first_change-terminal-requires-clause-some c =
    let below = c.loop-net.invariant.below in
    let nets = length-nets c.args.circuit.now c.requires.numbering in
    let long = same_length _ _ c.gates-gates.ensures.gates in
    let stands = numbered-at c.gates-gates.result.now c.args.circuit.now.gates _ c.index-gates-place.result c.gates-gates.ensures.gates
    (omega (arith, below, nets, long, c.loop-net-test.true, c.first_gate-first.ensures)) c.index-gates-place.is in
    let steps = steps_are c.args.run.now.waves c.loop-net.net c.loop-net.moment c.to-delay.result c.wave.result.now c.at.result c.index-gates-place.result.delay
    c.wave.ensures c.at.ensures c.to-delay.ensures.delay in
    let far = back_far c.args.circuit.now c.args.run.now c.requires.numbering c.requires.run _ c.loop-net.net c.loop-net.moment c.to-delay.result
    (gate_of c.index-gates-place.result) stands (omega (arith, c.loop-net-test.true, c.first_gate-first.ensures)) c.loop-net.invariant.changes steps in
    rw c.deref.ensures.value far.1

pub index-net-requires : goal.index-net-requires
index-net-requires c =
    let first = c.first_change-terminal.ensures in
    let short = slice_get-some c.deref.result.now c.first_change-terminal.result first.number first.is_number in
    omega (arith, short, c.deref.ensures.len)

pub loop-net-smaller : goal.loop-net-smaller
loop-net-smaller c =
    let below = c.loop-net.invariant.below in
    let nets = length-nets c.args.circuit.now c.requires.numbering in
    let long = same_length _ _ c.gates-gates.ensures.gates in
    let stands = numbered-at c.gates-gates.result.now c.args.circuit.now.gates _ c.index-gates-place.result c.gates-gates.ensures.gates
    (omega (arith, below, nets, long, c.loop-net-test.true, c.first_gate-first.ensures)) c.index-gates-place.is in
    let first = rw c.deref.ensures.value at c.first_change-terminal.ensures in
    let terminal = slice_get-some c.index-gates-place.result.inputs.items c.first_change-terminal.result first.number first.is_number in
    let next = slice_get_read c.index-gates-place.result.inputs.items (length c.index-gates-place.result.inputs.items) c.first_change-terminal.result
    c.index-net.result.now refl terminal c.index-net.ensures in
    let lower = lower-at c.args.circuit.now c.requires.numbering _ (gate_of c.index-gates-place.result) stands c.first_change-terminal.result 0 terminal in
    let same = slice_get-get c.index-gates-place.result.inputs.items c.first_change-terminal.result c.index-net.result.now 0 next in
    omega (arith, lower, same, c.loop-net-test.true, c.first_gate-first.ensures)

pub loop-net-preserved : goal.loop-net-preserved
loop-net-preserved c =
    let below = c.loop-net.invariant.below in
    let nets = length-nets c.args.circuit.now c.requires.numbering in
    let long = same_length _ _ c.gates-gates.ensures.gates in
    let stands = numbered-at c.gates-gates.result.now c.args.circuit.now.gates _ c.index-gates-place.result c.gates-gates.ensures.gates
    (omega (arith, below, nets, long, c.loop-net-test.true, c.first_gate-first.ensures)) c.index-gates-place.is in
    let steps = steps_are c.args.run.now.waves c.loop-net.net c.loop-net.moment c.to-delay.result c.wave.result.now c.at.result c.index-gates-place.result.delay
    c.wave.ensures c.at.ensures c.to-delay.ensures.delay in
    let first = rw c.deref.ensures.value at c.first_change-terminal.ensures in
    let terminal = slice_get-some c.index-gates-place.result.inputs.items c.first_change-terminal.result first.number first.is_number in
    let next = slice_get_read c.index-gates-place.result.inputs.items (length c.index-gates-place.result.inputs.items) c.first_change-terminal.result
    c.index-net.result.now refl terminal c.index-net.ensures in
    rw (c.in_ok-push.ensures.items, c.link_at.ensures)
    (step_back c.args.circuit.now c.args.run.now c.requires.numbering c.requires.run c.args.places.now c.requires.places
    c.args.last c.args.last_moment c.loop-net.net c.loop-net.moment _ _ _ c.first_change-terminal.result c.to-delay.result
    (gate_of c.index-gates-place.result) c.loop-net.links.items c.loop-net.invariant
    (omega (arith, c.loop-net-test.true, c.first_gate-first.ensures)) stands
    (slice_get-get_or c.args.places.now _ 0 (omega (arith, below, nets, c.requires.places.count, c.loop-net-test.true, c.first_gate-first.ensures)))
    steps refl first c.index-net.result.now next)

pub returns : goal.returns
returns c = rw (c.in_ok-push-2.ensures.items, c.link_at-2.ensures)
    (ends_back c.args.circuit.now c.args.run.now c.requires.numbering c.requires.run c.args.last c.args.last_moment c.loop-net.net c.loop-net.moment
    c.loop-net.links.items c.loop-net.invariant (omega (arith, c.loop-net-test.false, c.first_gate-first.ensures)))
