use Rattle.std.proofs.Common.{arith}
use Rattle.td_answer.proofs.hazards.below.Goals as goal

pub returns-then-high-eq0 : goal.returns-then-high-eq0
returns-then-high-eq0 c = λ given asking bound pair delay asked has. omega (arith, bound pair delay asked has, c.if-high-eq0.true)
