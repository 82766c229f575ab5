use Rattle.std.proofs.Common.{◌∙◌, sym, ap, length, arith}
use Rattle.td_domain.proofs.Changing.{vectors_in}
use Rattle.td_domain.proofs.pair_bits.Bits.of.Goals as goal

pub flips_of-flips-requires-clause-fit : goal.flips_of-flips-requires-clause-fit
flips_of-flips-requires-clause-fit c =
    let fit = vectors_in _ c.args.admit.now.pins c.args.pair.first c.args.pair.second c.pins-pins.ensures.fit c.requires.admitted.pinned in
    rw (c.first.ensures, c.second.ensures) (fit.1 ∙ sym fit.0)

pub flips_of-flips-requires-clause-few : goal.flips_of-flips-requires-clause-few
flips_of-flips-requires-clause-few c =
    let fit = vectors_in _ c.args.admit.now.pins c.args.pair.first c.args.pair.second c.pins-pins.ensures.fit c.requires.admitted.pinned in
    rw c.first.ensures (omega (arith, fit.0, c.requires.few))

pub returns-clause-bits : goal.returns-clause-bits
returns-clause-bits c =
    let fit = vectors_in _ c.args.admit.now.pins c.args.pair.first c.args.pair.second c.pins-pins.ensures.fit c.requires.admitted.pinned in
    let first = c.into_vectors-first.ensures.first in
    let second = c.into_vectors-first.ensures.second in
    record {
      admitted = rw (first, second) c.requires.admitted;
      flips = rw (first, second) (rw (c.first.ensures, c.second.ensures) at c.flips_of-flips.ensures);
      firsts = ap length first ∙ fit.0;
      seconds = ap length second ∙ fit.1;
    }
