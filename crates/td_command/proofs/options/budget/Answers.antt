use Rattle.std.proofs.Common.{rules, ◌<◌, ◌≤◌}
use Rattle.td_command.proofs.options.budget.Goals as goal

pub returns-in_err-budget : goal.returns-in_err-budget
returns-in_err-budget c = rw c.from_residual.ensures (λ budget has.
    let most : budget ≤ 10000000 = has.1 in
    let less : budget < 4294967296 = search rules in
    c.in_err-budget.ensures.none budget less has.0)
