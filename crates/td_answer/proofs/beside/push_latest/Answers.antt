use Rattle.std.proofs.Common.{refl, true}
use Rattle.std.proofs.lemmas.Result.{on_ok_weaker}
use Rattle.td_circuit.specs.Numbering.{setting}
use Rattle.std.proofs.Common.{[], ◌∷◌}
use Rattle.td_answer.specs.Runs.{TellsWay}
use Rattle.td_answer.specs.Additions.{waves_in}
use Rattle.td_answer.proofs.Adding.{some}
use Rattle.td_answer.proofs.beside.push_latest.Goals as goal

pub returns : goal.returns
returns c =
    on_ok_weaker c.add.result
    (λ added. some (TellsWay true (setting c.args.circuit.now) (waves_in c.args.circuit.now c.args.run.now)) c.args.report.now c.add.new.self
    (c.in_ok-line.line ∷ []) added (c.in_ok-line.line, c.in_ok-line.ensures, refl))
    c.add.ensures
