use Rattle.std.proofs.Common.{◌≡◌, ◌≤◌, ◌++◌, ◌+◌, ◌∙◌, ℕ, List, ap, sym, subst, arith, take, drop, length}
use Rattle.std.specs.Prelude.{slice_index_or}
use Rattle.std.specs.List.{All}
use Rattle.td_circuit.specs.Views.{gate_of}
use Rattle.td_circuit.proofs.Nets.{lower-at, length-nets}
use Rattle.td_run.specs.Keeping.{AreEndsUpTo}
use Rattle.td_run.proofs.Placed.{count_same, gate_at_place}
use Rattle.td_run.proofs.Dropping.{written, ends_step, ends_end}
use Rattle.td_run.proofs.kept.ends_of.Goals as goal

pub put_off-requires : goal.put_off-requires
put_off-requires c =
    let count = count_same c.gates-gates.result.now c.args.circuit.now.gates c.gates-gates.ensures.gates in
    let placed = gate_at_place c.gates-gates.result.now c.args.circuit.now.gates c.loop-place.place c.index-gates-place.result c.gates-gates.ensures.gates (omega (arith, count, c.loop-place-test.true)) c.index-gates-place.is in
    let all = length-nets c.args.circuit.now c.gates-gates.ensures.numbering in
    rw (c.deref.ensures.value, c.deref_mut.ensures.value)
    (λ k d h. let low = lower-at c.args.circuit.now c.gates-gates.ensures.numbering c.loop-place.place (gate_of c.index-gates-place.result) placed k d h in
    omega (arith, low, all, count, c.loop-place-test.true, c.loop-place.invariant.count))

pub loop-place-preserved : goal.loop-place-preserved
loop-place-preserved c =
    let count = count_same c.gates-gates.result.now c.args.circuit.now.gates c.gates-gates.ensures.gates in
    let placed = gate_at_place c.gates-gates.result.now c.args.circuit.now.gates c.loop-place.place c.index-gates-place.result c.gates-gates.ensures.gates (omega (arith, count, c.loop-place-test.true)) c.index-gates-place.is in
    let long : length c.put_off.new.ends ≡ length c.loop-place.ends.items = c.put_off.ensures.count ∙ ap length c.deref_mut.ensures.value in
    let some : take c.loop-place.ends.len (c.put_off.new.ends ++ drop (length c.put_off.new.ends) c.loop-place.ends.items) ≡ c.put_off.new.ends =
    written c.put_off.new.ends c.loop-place.ends.items c.loop-place.ends.len long (omega (arith, c.deref_mut.ensures.len, ap length c.deref_mut.ensures.value)) in
    let these : All (λ net. c.loop-place.place + 1 ≤ slice_index_or c.put_off.new.ends net 0) c.index-gates-place.result.inputs.items =
    rw c.deref.ensures.value at c.put_off.ensures.these in
    let later : (net : ℕ) → slice_index_or c.loop-place.ends.items net 0 ≤ slice_index_or c.put_off.new.ends net 0 =
    λ net. rw c.deref_mut.ensures.value at (c.put_off.ensures.later net) in
    subst (λ (es : List ℕ). AreEndsUpTo c.args.circuit.now c.args.wanted.now (c.loop-place.place + 1) es) (sym some)
    (ends_step c.args.circuit.now c.args.wanted.now c.loop-place.place (c.loop-place.place + 1) (gate_of c.index-gates-place.result)
    c.loop-place.ends.items c.put_off.new.ends (omega arith) placed c.loop-place.invariant long later these)

pub returns-clause-ends : goal.returns-clause-ends
returns-clause-ends c =
    let count = count_same c.gates-gates.result.now c.args.circuit.now.gates c.gates-gates.ensures.gates in
    ends_end c.args.circuit.now c.args.wanted.now c.loop-place.place c.loop-place.ends.items (omega (arith, count, c.loop-place-test.false)) c.loop-place.invariant
