use Rattle.std.proofs.Common.{List, ap, subst, ◌++◌}
use Rattle.std.specs.Prelude.{OnOk}
use Rattle.std.proofs.lemmas.Result.{on_ok_weaker}
use Rattle.td_answer.proofs.Adding.{three_appended}
use Rattle.td_answer.proofs.Naming.{outputs_told}
use Rattle.td_answer.proofs.parts.push_reading.Goals as goal

pub returns : goal.returns
returns c =
    rw (← c.reading.view_is) (on_ok_weaker c.push_outputs.result
    (three_appended c.args.words.now.items _ _ _ _ _ _ c.in_ok-push_default.ensures c.in_ok-push_default-2.ensures)
    (rw (outputs_told c.names.result.now, c.names.ensures) at c.push_outputs.ensures))
