use Rattle.std.proofs.Common.{refl, false}
use Rattle.td_circuit.specs.Numbering.{setting}
use Rattle.td_answer.specs.Runs.{TellsWay}
use Rattle.td_answer.specs.Additions.{waves_in}
use Rattle.td_answer.proofs.Adding.{nothing}
use Rattle.td_answer.proofs.beside.push_way.Goals as goal

pub returns-else-path : goal.returns-else-path
returns-else-path c = rw c.if-path.false (nothing (TellsWay false (setting c.args.circuit.now) (waves_in c.args.circuit.now c.args.run.now)) c.args.report.now refl)

pub returns-then-path : goal.returns-then-path
returns-then-path c = rw c.if-path.true c.push_latest.ensures
