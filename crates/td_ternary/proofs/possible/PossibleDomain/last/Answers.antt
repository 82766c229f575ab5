use Rattle.std.proofs.Common.{sym, ◌∙◌}
use Rattle.td_ternary.proofs.Capping.{last_of-last}
use Rattle.td_ternary.proofs.possible.PossibleDomain.last.Goals as goal

pub returns-in-Some : goal.returns-in-Some
returns-in-Some c =
    c.moment_of-in-Some.ensures
    ∙ sym (last_of-last c.args.signal.now c.in-Some.change.now c.changes.ensures.rising (rw c.changes.ensures.changes at (sym c.in-Some.ensures.value)))
