use Rattle.std.proofs.Common.{[], ◌∷◌}
use Rattle.std.specs.Prelude.{codes}
use Rattle.std.proofs.lemmas.Result.{on_ok_weaker}
use Rattle.td_vcd.proofs.Steps.{short_line_made}
use Rattle.td_vcd.proofs.batch.Batch.scope.Goals as goal

pub returns : goal.returns
returns c = on_ok_weaker c.push-2.result
    (short_line_made _ _ _ _ (codes "$scope module ") _ (codes " $end") (10 ∷ []) c.in_ok-push.ensures (rw (c.in_ok-extend_from_slice.ensures.items, c.new-text.ensures.items) at c.in_ok-name.ensures))
    c.push-2.ensures
