use Rattle.std.proofs.Common.{◌≡◌, ◌∙◌, ◌+◌, suc, ap, arith}
use Rattle.std.proofs.lemmas.List.{length_push}
use Rattle.td_gates.proofs.Places.{Each-push}
use Rattle.td_vcd.proofs.Nets.{variables_are}
use Rattle.td_vcd.proofs.writing.variable_nets.Goals as goal

pub loop-place-preserved : goal.loop-place-preserved
loop-place-preserved c = rw c.in_ok-push.ensures.items (record {
  count = length_push c.loop-place.nets.items _ ∙ ap (λ n. n + 1) c.loop-place.invariant.count;
  each = Each-push (λ i number. number ≡ suc (suc i)) c.loop-place.nets.items _ c.loop-place.place c.loop-place.invariant.count c.loop-place.invariant.each (omega arith);
})

pub returns-clause-nets : goal.returns-clause-nets
returns-clause-nets c =
    rw (c.in_ok-extend_from_slice.ensures.items, c.gate_outputs.ensures)
    (variables_are c.args.circuit.now c.loop-place.nets.items c.gates-gates.ensures.numbering (omega (arith, c.loop-place.invariant.count, c.loop-place-test.false)) c.loop-place.invariant.each)
