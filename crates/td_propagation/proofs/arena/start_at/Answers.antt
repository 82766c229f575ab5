use Rattle.std.proofs.Common.{sym}
use Rattle.td_propagation.proofs.Parts.{start_before}
use Rattle.td_propagation.proofs.arena.start_at.Goals as goal

pub returns-else-number-eq0 : goal.returns-else-number-eq0
returns-else-number-eq0 c = sym (start_before 0 c.args.ends.now c.args.number c.if-number-eq0.false c.requires)
