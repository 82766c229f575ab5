use Rattle.std.specs.Prelude.{codes}
use Rattle.std.proofs.lemmas.Result.{on_ok_weaker}
use Rattle.td_vcd.proofs.Steps.{head_made}
use Rattle.td_vcd.proofs.writing.push_head.Goals as goal

pub returns : goal.returns
returns c = on_ok_weaker c.scope.result
    (head_made _ _ _ _ (codes "$version tdelay 1 $end\n") _ _ c.in_ok-push.ensures (rw c.unit.ensures at c.in_ok-timescale.ensures))
    (rw c.module.ensures at c.scope.ensures)
