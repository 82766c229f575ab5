use Rattle.std.proofs.Common.{sym, subst}
use Rattle.td_question.specs.Found.{AreFound}
use Rattle.td_question.proofs.Conditions.{are_conditions}
use Rattle.td_question.proofs.keeping.conditions_by.Goals as goal

pub returns-in-Ok-clause-keep : goal.returns-in-Ok-clause-keep
returns-in-Ok-clause-keep c =
    are_conditions c.args.circuit.now.netlist _ c.in-Ok.said.items c.in_ok-keep-in-Ok.keep.items
    ((rw c.in-Ok.is at c.in_ok-said.ensures.said) c.args.circuit.now.netlist
    (subst (AreFound c.args.circuit.now.netlist _) (sym c.deref.ensures.value) c.in_ok-numbers.ensures)) c.in_ok-keep-in-Ok.ensures
