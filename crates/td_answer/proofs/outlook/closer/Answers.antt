use Rattle.std.proofs.Common.{arith}
use Rattle.td_answer.proofs.Outlooks.{exact, between}
use Rattle.td_answer.proofs.outlook.closer.Goals as goal

pub returns-then-high-low-clause-found : goal.returns-then-high-low-clause-found
returns-then-high-low-clause-found c = λ given admit bound low. exact given admit c.args.high bound c.args.low low (omega (arith, c.if-high-low.true))

pub returns-then-high-low-clause-pair : goal.returns-then-high-low-clause-pair
returns-then-high-low-clause-pair c = λ given asking pair has. has

pub returns-clause-found : goal.returns-clause-found
returns-clause-found c = λ given admit bound low. between given admit c.args.high bound c.args.low low (omega (arith, c.if-high-low.false))

pub returns-clause-pair : goal.returns-clause-pair
returns-clause-pair c = λ given asking pair has. has
