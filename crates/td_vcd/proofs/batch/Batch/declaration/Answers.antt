use Rattle.std.proofs.Common.{[], ◌∷◌}
use Rattle.std.specs.Prelude.{codes}
use Rattle.std.proofs.lemmas.Result.{on_ok_weaker}
use Rattle.td_vcd.proofs.Steps.{line_made}
use Rattle.td_vcd.proofs.batch.Batch.declaration.Goals as goal

pub returns : goal.returns
returns c = on_ok_weaker c.push-3.result
    (line_made _ _ _ _ _ _ (codes "$var wire 1 ") _ (codes " ") _ (codes " $end") (10 ∷ []) c.in_ok-push.ensures c.in_ok-code.ensures c.in_ok-push-2.ensures c.in_ok-name.ensures)
    c.push-3.ensures
