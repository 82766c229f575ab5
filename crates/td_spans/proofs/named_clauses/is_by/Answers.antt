use Rattle.std.proofs.Common.{sym, subst}
use Rattle.std.specs.Prelude.{IsTrue, IfOk, ◌↔◌}
use Rattle.td_spans.specs.declared.reason.Reason.{Reason}
use Rattle.td_spans.specs.Named.{IsBy}
use Rattle.td_spans.proofs.named_clauses.is_by.Goals as goal

pub returns-in-Gate : goal.returns-in-Gate
returns-in-Gate c =
    subst (λ (reason : Reason). IfOk c.is_by_gate.result (λ answer. IsTrue answer ↔ IsBy c.args.circuit.now c.args.question.now c.args.cube.now c.args.variables.now c.args.times.now reason c.args.clause.now))
    (sym c.in-Gate.is) c.is_by_gate.ensures
