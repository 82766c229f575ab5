use Rattle.std.proofs.Common.{arith}
use Rattle.std.proofs.lemmas.Result.{on_ok_weaker}
use Rattle.td_vcd.proofs.Codes.{code-step, code-end}
use Rattle.td_vcd.proofs.batch.Batch.code.Goals as goal

pub loop-rest-preserved : goal.loop-rest-preserved
loop-rest-preserved c = code-step _ _ _ c.loop-rest.rest _ (omega arith) (omega arith) c.loop-rest.invariant c.in_ok-byte.ensures

pub returns : goal.returns
returns c = on_ok_weaker c.byte-2.result (code-end _ _ _ c.loop-rest.rest _ (omega (arith, c.loop-rest-test.false)) (omega arith) c.loop-rest.invariant) c.byte-2.ensures
