use Rattle.std.proofs.Common.{ℕ, nat_eq, sym, ap}
use Rattle.td_inputs.proofs.Loops.{no_bits}
use Rattle.td_inputs.proofs.value.fits.Goals as goal

pub returns-then-width-ge64 : goal.returns-then-width-ge64
returns-then-width-ge64 c = sym (ap (λ (high : ℕ). nat_eq high 0) (no_bits c.args.number c.args.width c.ranges.number.fits c.if-width-ge64.true))
