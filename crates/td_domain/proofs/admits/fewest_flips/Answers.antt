use Rattle.std.proofs.Common.{◌∙◌, sym, arith, add-one, refl, false}
use Rattle.td_domain.proofs.Flips.{one_more, no_more, all_left}
use Rattle.td_domain.proofs.admits.fewest_flips.Goals as goal

pub loop-input-preserved : goal.loop-input-preserved
loop-input-preserved c = record {
  few = omega (arith, c.loop-input.invariant.few, c.in_ok-flips.ensures.few);
  whole = rw add-one (one_more c.args.held.now c.args.pins.now c.args.cube.now c.loop-input.input c.loop-input.fewest
      _ _ _ _ _ false c.loop-input-test.true refl
      c.trit-pin.ensures c.trit-next_pin.ensures c.trit-bit.ensures c.trit-next_bit.ensures
      c.loop-input.invariant.whole c.in_ok-flips.flips (sym c.in_ok-flips.ensures.flips));
}

pub returns-in_err-flips : goal.returns-in_err-flips
returns-in_err-flips c =
    c.from_residual.ensures ∙ sym (no_more c.args.held.now c.args.pins.now c.args.cube.now c.loop-input.input c.loop-input.fewest
    _ _ _ _ _ false c.loop-input-test.true refl
    c.trit-pin.ensures c.trit-next_pin.ensures c.trit-bit.ensures c.trit-next_bit.ensures
    c.loop-input.invariant.whole (sym c.in_err-flips.ensures.flips))

pub returns : goal.returns
returns c = sym (all_left c.args.held.now c.args.pins.now c.args.cube.now c.loop-input.input c.loop-input.fewest
    c.requires.pins c.requires.cube c.loop-input-test.false c.loop-input.invariant.whole)
