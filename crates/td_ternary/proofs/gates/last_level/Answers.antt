use Rattle.std.proofs.Common.{sym}
use Rattle.td_ternary.proofs.Capping.{last_level-last}
use Rattle.td_ternary.proofs.gates.last_level.Goals as goal

pub returns-in-Some : goal.returns-in-Some
returns-in-Some c = sym (last_level-last c.args.start c.args.changes.now c.in-Some.change.now (sym c.in-Some.ensures.value))
