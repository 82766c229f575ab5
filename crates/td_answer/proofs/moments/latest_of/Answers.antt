use Rattle.std.proofs.Common.{arith}
use Rattle.td_gates.proofs.Places.{slice_get-some}
use Rattle.td_answer.proofs.Lasting.{untold, told_none, told_some}
use Rattle.td_answer.proofs.moments.latest_of.Goals as goal

pub returns-then-not-outputs : goal.returns-then-not-outputs
returns-then-not-outputs c = untold c.args.outputs c.args.circuit.now c.args.rows.now c.if-not-outputs.true

pub line_at-requires : goal.line_at-requires
line_at-requires c =
    let found = rw c.in-Some.is at c.place_of.ensures in
    omega (arith, c.requires, slice_get-some c.args.rows.now c.in-Some.place found.0.0 found.0.1)

pub returns-in_ok-told-in-Some : goal.returns-in_ok-told-in-Some
returns-in_ok-told-in-Some c =
    told_some c.args.outputs c.args.circuit.now c.args.rows.now _ c.in-Some.place c.in_ok-told-in-Some.told c.if-not-outputs.false c.latest_in.ensures
    (rw c.in-Some.is at c.place_of.ensures) c.in_ok-told-in-Some.ensures

pub returns-in-None : goal.returns-in-None
returns-in-None c =
    told_none c.args.outputs c.args.circuit.now c.args.rows.now _ c.if-not-outputs.false c.latest_in.ensures (rw c.in-None.is at c.place_of.ensures)
