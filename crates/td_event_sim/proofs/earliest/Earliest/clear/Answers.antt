use Rattle.std.proofs.Common.{◌<◌, length, arith, ap}
use Rattle.td_event_sim.proofs.Blocks.{changed}
use Rattle.td_event_sim.proofs.earliest.Earliest.clear.Goals as goal

pub invariant_of-self : goal.invariant_of-self
invariant_of-self c =
    let inside : c.args.slot < length c.self.inside.moments.items = omega (arith, c.requires, ap length c.self.view_is) in
    changed c.self.inside.moments.items c.self.inside.blocks.items c.args.slot 18446744073709551615 c.least.result inside (omega arith) c.self.invariant
    (rw c.deref.ensures.value at c.least.ensures)
