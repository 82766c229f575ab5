use Rattle.std.proofs.Common.{◌+◌, length, arith, sym, ap, ◌∙◌}
use Rattle.std.specs.Prelude.{slice_get}
use Rattle.std.proofs.lemmas.List.{length-set}
use Rattle.std.proofs.lemmas.Option.{slice_get-get_or}
use Rattle.td_path.proofs.Placing.{placed_at, placed_next, placed_all}
use Rattle.td_path.proofs.places.places_of.Goals as goal

pub overflow_sub-net : goal.overflow_sub-net
overflow_sub-net c =
    let at_place = ap (λ xs. slice_get xs c.loop-place.place) (sym c.gate_outputs-net-items.ensures)
    ∙ slice_get-get_or c.gate_outputs-net-items.result.now c.loop-place.place 0 c.loop-place-test.true in
    let placed = placed_at c.args.circuit.now c.gates-gates.ensures.numbering c.loop-place.place _ at_place in
    omega (arith, placed.number, c.first_gate-first.ensures)

pub index_mut-requires : goal.index_mut-requires
index_mut-requires c =
    let at_place = ap (λ xs. slice_get xs c.loop-place.place) (sym c.gate_outputs-net-items.ensures)
    ∙ slice_get-get_or c.gate_outputs-net-items.result.now c.loop-place.place 0 c.loop-place-test.true in
    let placed = placed_at c.args.circuit.now c.gates-gates.ensures.numbering c.loop-place.place _ at_place in
    omega (arith, placed.number, placed.below, c.first_gate-first.ensures, c.loop-place.invariant.count, c.loop-place.places.ok.0)

pub loop-place-preserved : goal.loop-place-preserved
loop-place-preserved c =
    let at_place = ap (λ xs. slice_get xs c.loop-place.place) (sym c.gate_outputs-net-items.ensures)
    ∙ slice_get-get_or c.gate_outputs-net-items.result.now c.loop-place.place 0 c.loop-place-test.true in
    record {
      count = length-set c.loop-place.places.items _ _ ∙ c.loop-place.invariant.count;
      placed = placed_next c.args.circuit.now c.gates-gates.ensures.numbering c.loop-place.places.items c.loop-place.place _
          c.first_gate-first.result (c.loop-place.place + 1) c.first_gate-first.ensures (omega arith)
          c.loop-place.invariant.count at_place c.loop-place.invariant.placed;
    }

pub returns-clause-places : goal.returns-clause-places
returns-clause-places c =
    let long = ap length c.gate_outputs-net-items.ensures in
    placed_all c.args.circuit.now c.gates-gates.ensures.numbering c.loop-place.places.items c.loop-place.place c.loop-place.invariant.count
    (omega (arith, long, c.loop-place-test.false)) c.loop-place.invariant.placed
