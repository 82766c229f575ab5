use Rattle.std.proofs.Common.{Bool, sym, subst}
use Rattle.std.specs.Prelude.{IfOk, IsTrue, ◌↔◌}
use Rattle.td_circuit.specs.Numbering.{setting}
use Rattle.td_certificate.specs.Accepts.{IsOfCube}
use Rattle.td_certificate.specs.Questions.{asking_of}
use Rattle.td_certificate.specs.declared.tree.Node.{Node}
use Rattle.td_checker.proofs.judging.is_of_cube.Goals as goal

pub returns-in_ok-is_bounded-in-Bound-clause-is : goal.returns-in_ok-is_bounded-in-Bound-clause-is
returns-in_ok-is_bounded-in-Bound-clause-is c =
    subst (λ (node : Node). IsTrue c.in_ok-is_bounded-in-Bound.field-0 ↔ IsOfCube (setting c.args.circuit.now) (asking_of c.args.question.now) c.args.cube.now node)
    (sym c.in-Bound.is) c.in_ok-is_bounded-in-Bound.ensures

pub returns-in-Point-clause-is : goal.returns-in-Point-clause-is
returns-in-Point-clause-is c =
    subst (λ (node : Node). IfOk c.has_delay.result (λ (is : Bool). IsTrue is ↔ IsOfCube (setting c.args.circuit.now) (asking_of c.args.question.now) c.args.cube.now node))
    (sym c.in-Point.is) c.has_delay.ensures.has
