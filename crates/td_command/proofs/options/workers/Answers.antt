use Rattle.std.proofs.Common.{rules, ◌<◌, ◌≤◌}
use Rattle.td_command.proofs.options.workers.Goals as goal

pub returns-in_err-workers : goal.returns-in_err-workers
returns-in_err-workers c = rw c.from_residual.ensures (λ workers has.
    let most : workers ≤ 64 = has.2 in
    let less : workers < 4294967296 = search rules in
    c.in_err-workers.ensures.none workers less has.0)
