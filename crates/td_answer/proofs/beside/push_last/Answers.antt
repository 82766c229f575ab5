use Rattle.std.proofs.Common.{refl, false}
use Rattle.td_answer.specs.Runs.{TellsLast}
use Rattle.td_answer.specs.Additions.{waves_in}
use Rattle.td_answer.proofs.Adding.{nothing}
use Rattle.td_answer.proofs.beside.push_last.Goals as goal

pub returns-else-outputs : goal.returns-else-outputs
returns-else-outputs c = rw c.if-outputs.false (nothing (TellsLast false c.args.circuit.now.netlist (waves_in c.args.circuit.now c.args.run.now)) c.args.report.now refl)

pub returns-then-outputs : goal.returns-then-outputs
returns-then-outputs c = rw c.if-outputs.true c.push_output.ensures
