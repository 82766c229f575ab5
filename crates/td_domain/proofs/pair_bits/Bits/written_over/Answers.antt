use Rattle.std.proofs.Common.{◌≡◌, ◌∙◌, sym, ap, length, arith}
use Rattle.td_domain.proofs.Changing.{vectors_in}
use Rattle.td_domain.proofs.pair_bits.Bits.written_over.Goals as goal

pub flips_of-flips-requires-clause-fit : goal.flips_of-flips-requires-clause-fit
flips_of-flips-requires-clause-fit c =
    let fit = vectors_in _ c.args.admit.now.pins c.args.pair.now.first c.args.pair.now.second c.pins-pins.ensures.fit c.requires.admitted.pinned in
    rw (c.first.ensures, c.second.ensures) (fit.1 ∙ sym fit.0)

pub flips_of-flips-requires-clause-few : goal.flips_of-flips-requires-clause-few
flips_of-flips-requires-clause-few c =
    let fit = vectors_in _ c.args.admit.now.pins c.args.pair.now.first c.args.pair.now.second c.pins-pins.ensures.fit c.requires.admitted.pinned in
    rw c.first.ensures (omega (arith, fit.0, c.requires.few))

pub copy_from_slice-requires : goal.copy_from_slice-requires
copy_from_slice-requires c =
    let fit = vectors_in _ c.args.admit.now.pins c.args.pair.now.first c.args.pair.now.second c.pins-pins.ensures.fit c.requires.admitted.pinned in
    let others = vectors_in _ c.args.admit.now.pins c.args.other.first c.args.other.second c.pins-pins.ensures.fit c.requires.other.pinned in
    omega (arith, fit.0, others.0, ap length c.first-2.ensures, ap length c.into_vectors-first.ensures.first, c.into_vectors-first.result.0.ok)

pub copy_from_slice-requires-2 : goal.copy_from_slice-requires-2
copy_from_slice-requires-2 c =
    let fit = vectors_in _ c.args.admit.now.pins c.args.pair.now.first c.args.pair.now.second c.pins-pins.ensures.fit c.requires.admitted.pinned in
    let others = vectors_in _ c.args.admit.now.pins c.args.other.first c.args.other.second c.pins-pins.ensures.fit c.requires.other.pinned in
    omega (arith, fit.1, others.1, ap length c.second-2.ensures, ap length c.into_vectors-first.ensures.second, c.into_vectors-first.result.1.ok)

pub returns-clause-bits : goal.returns-clause-bits
returns-clause-bits c =
    let fit = vectors_in _ c.args.admit.now.pins c.args.pair.now.first c.args.pair.now.second c.pins-pins.ensures.fit c.requires.admitted.pinned in
    let first : c.copy_from_slice.new.self.items ≡ c.args.pair.now.first = c.copy_from_slice.ensures.items ∙ c.first-2.ensures in
    let second : c.copy_from_slice-2.new.self.items ≡ c.args.pair.now.second = c.copy_from_slice-2.ensures.items ∙ c.second-2.ensures in
    record {
      admitted = rw (first, second) c.requires.admitted;
      flips = rw (first, second) (rw (c.first.ensures, c.second.ensures) at c.flips_of-flips.ensures);
      firsts = ap length first ∙ fit.0;
      seconds = ap length second ∙ fit.1;
    }
