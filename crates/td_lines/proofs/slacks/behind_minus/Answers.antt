use Rattle.std.proofs.Common.{rules}
use Rattle.td_lines.proofs.Negatives.{negative_number}
use Rattle.td_lines.proofs.slacks.behind_minus.Goals as goal

pub number-requires : goal.number-requires
number-requires c = rw (c.deref.ensures, c.in_ok-text.ensures) (negative_number c.args.count (search rules))
