use Rattle.std.proofs.Common.{[], ◌∷◌}
use Rattle.std.specs.Prelude.{codes}
use Rattle.std.proofs.lemmas.Result.{on_ok_weaker}
use Rattle.td_vcd.proofs.Steps.{line_made}
use Rattle.td_vcd.proofs.batch.Batch.timescale.Goals as goal

pub returns : goal.returns
returns c = on_ok_weaker c.push-4.result
    (line_made _ _ _ _ _ _ (codes "$timescale ") _ (codes " ") _ (codes " $end") (10 ∷ []) c.in_ok-push.ensures (rw c.from.ensures at c.in_ok-digits.ensures) c.in_ok-push-2.ensures (rw c.word.ensures at c.in_ok-push-3.ensures))
    c.push-4.ensures
