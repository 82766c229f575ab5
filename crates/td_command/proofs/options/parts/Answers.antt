use Rattle.std.proofs.Common.{rules, ◌<◌, ◌≤◌}
use Rattle.td_command.proofs.options.parts.Goals as goal

pub returns-in_err-parts : goal.returns-in_err-parts
returns-in_err-parts c = rw c.from_residual.ensures (λ parts has.
    let most : parts ≤ 65536 = has.2 in
    let less : parts < 4294967296 = search rules in
    c.in_err-parts.ensures.none parts less has.0)
