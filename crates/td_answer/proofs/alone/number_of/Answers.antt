use Rattle.std.proofs.Common.{◌≡◌, ◌∙◌, ◌<◌, ◌+◌, ℕ, List, inl, inr, sym, ap, subst, arith}
use Rattle.std.proofs.lemmas.Bool.{cases_lt}
use Rattle.std.specs.Prelude.{slice_get, Some}
use Rattle.td_gates.proofs.Places.{slice_get-some, slice_get-get, get-slice_get}
use Rattle.td_circuit.specs.Numbering.{first_output}
use Rattle.td_answer.proofs.OutputNumbers.{placed, named_low, named_high}
use Rattle.td_answer.proofs.alone.number_of.Goals as goal

pub returns-then-net-first : goal.returns-then-net-first
returns-then-net-first c = λ name at.
    rw c.from.ensures (named_low c.args.circuit.now c.gates-gates.ensures.numbering c.args.net name (omega (arith, c.if-net-first.true, c.first_gate-first.ensures)) at)

pub returns-then-outputs-place : goal.returns-then-outputs-place
returns-then-outputs-place c = λ name at.
    let stands : slice_get c.gate_outputs-outputs.result.now c.loop-place.place ≡ Some c.args.net =
    get-slice_get c.gate_outputs-outputs.result.now c.loop-place.place 0 c.args.net c.loop-place-test.true c.if-outputs-place.true in
    named_high c.args.circuit.now c.gates-gates.ensures.numbering c.loop-place.place c.args.net (c.from-then-outputs-place.result + c.loop-place.place) name
    (ap (λ (os : List ℕ). slice_get os c.loop-place.place) (sym c.gate_outputs-outputs.ensures) ∙ stands)
    (omega (arith, c.from-then-outputs-place.ensures, c.first_gate-first.ensures)) at

pub loop-place-preserved : goal.loop-place-preserved
loop-place-preserved c = λ i low stands. elim (cases_lt i c.loop-place.place) [
  | inl less ↦ c.loop-place.invariant i less stands
  | inr high ↦
      (let here : i ≡ c.loop-place.place = omega (arith, low, high) in
      c.if-outputs-place.false (slice_get-get c.gate_outputs-outputs.result.now c.loop-place.place c.args.net 0
      (ap (λ (n : ℕ). slice_get c.gate_outputs-outputs.result.now n) (sym here) ∙ stands)))
]

pub unreachable-requires : goal.unreachable-requires
unreachable-requires c =
    let there = placed c.args.circuit.now c.gates-gates.ensures.numbering c.args.net (omega (arith, c.if-net-first.false, c.first_gate-first.ensures)) c.requires.net in
    let stands : slice_get c.gate_outputs-outputs.result.now there.0 ≡ Some c.args.net =
    ap (λ (os : List ℕ). slice_get os there.0) c.gate_outputs-outputs.ensures ∙ there.1 in
    c.loop-place.invariant there.0 (omega (arith, slice_get-some c.gate_outputs-outputs.result.now there.0 c.args.net stands, c.loop-place-test.false)) stands
