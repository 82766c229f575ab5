use Rattle.std.proofs.Common.{refl, inl, inr}
use Rattle.std.proofs.lemmas.Result.{IfOk-weaker}
use Rattle.td_answer.specs.Additions.{waves_in}
use Rattle.td_answer.proofs.Ways.{chain_named, tells_chain}
use Rattle.td_answer.proofs.beside.latest_line.Goals as goal

pub changes_line-requires : goal.changes_line-requires
changes_line-requires c = rw c.deref.ensures.value
    (let found = rw c.in-Some.is at c.in_ok-links.ensures in
    chain_named c.args.circuit.now (waves_in c.args.circuit.now c.args.run.now) _ c.in-Some.links.items found.2)

pub returns-in-Some : goal.returns-in-Some
returns-in-Some c =
    let found = rw c.in-Some.is at c.in_ok-links.ensures in
    IfOk-weaker c.changes_line.result _ _
    (λ told has. inr (found.0, found.1, tells_chain c.args.circuit.now (waves_in c.args.circuit.now c.args.run.now) found.0 c.in-Some.links.items told found.2 has))
    (rw c.deref.ensures.value at c.changes_line.ensures)

pub returns-in-None : goal.returns-in-None
returns-in-None c = inl (rw c.in-None.is at c.in_ok-links.ensures, refl)
