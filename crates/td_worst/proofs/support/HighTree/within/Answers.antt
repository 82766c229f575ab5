use Rattle.std.proofs.Common.{arith}
use Rattle.td_worst.proofs.OpenTrees.{shows_more}
use Rattle.td_worst.proofs.support.HighTree.within.Goals as goal

pub returns : goal.returns
returns c = λ given admit is. shows_more given admit c.args.self.high c.args.high c.args.self.tree (omega (arith, c.if-most-high.false)) is
