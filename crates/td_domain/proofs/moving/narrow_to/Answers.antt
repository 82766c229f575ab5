use Rattle.std.proofs.Common.{◌≡◌, ◌<◌, length, take, arith, true}
use Rattle.td_domain.proofs.Same.{set_more_same}
use Rattle.td_domain.proofs.moving.narrow_to.Goals as goal

pub loop-preserved : goal.loop-preserved
loop-preserved g c =
    let reached : c.in_ok-narrow_at.field-0 ≡ true = cc in
    let within : c.agreeing-position.result < length c.loop.sheet.cube =
    omega (arith, c.if-position-len.false, c.len.ensures, c.requires.positions, c.loop.invariant.sheet.page.positions) in
    let same : take c.agreeing-position.result c.loop.sheet.cube ≡ take c.agreeing-position.result c.args.cube.now =
    rw c.cube.ensures at (c.agreeing-position.ensures (rw c.cube.ensures c.loop.invariant.same)) in
    record {
      sheet = c.narrow_at.ensures.sheet;
      same = rw (c.in_ok-narrow_at.ensures.cube reached)
          (set_more_same c.loop.sheet.cube c.args.cube.now c.agreeing-position.result c.trit.result same within c.trit.ensures);
    }
