use Rattle.std.proofs.Common.{rules, ◌<◌}
use Rattle.td_command.proofs.options.default.Goals as goal

pub returns-in_err-rise : goal.returns-in_err-rise
returns-in_err-rise c = rw c.from_residual.ensures (λ delays has.
    let range = has.in_range in
    let less : delays.rise < 4294967296 = search rules in
    c.in_err-rise.ensures.none delays.rise less has.rise)

pub returns-in_err-fall : goal.returns-in_err-fall
returns-in_err-fall c = rw c.from_residual-in_err-fall.ensures (λ delays has.
    let range = has.in_range in
    let less : delays.fall < 4294967296 = search rules in
    c.in_err-fall.ensures.none delays.fall less has.fall)
