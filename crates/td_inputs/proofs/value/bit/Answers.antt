use Rattle.std.proofs.Common.{ℕ, ◌%◌, sym, ap}
use Rattle.td_inputs.proofs.Loops.{no_bits}
use Rattle.td_inputs.proofs.value.bit.Goals as goal

pub returns-then-place-ge64 : goal.returns-then-place-ge64
returns-then-place-ge64 c = sym (ap (λ (high : ℕ). high % 2) (no_bits c.args.number c.args.place c.ranges.number.fits c.if-place-ge64.true))
