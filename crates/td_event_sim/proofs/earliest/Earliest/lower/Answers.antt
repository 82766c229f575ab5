use Rattle.std.proofs.Common.{◌≡◌, ◌≤◌, ◌<◌, ◌/◌, ℕ, length, min, get_or, set, arith, ap, ◌∙◌, sym, subst}
use Rattle.std.proofs.lemmas.Grind.{get_or_default_zero}
use Rattle.td_event_sim.specs.Earliest.{AreBlocks}
use Rattle.td_event_sim.proofs.Blocks.{lowered}
use Rattle.td_event_sim.proofs.earliest.Earliest.lower.Goals as goal

pub invariant_of-self : goal.invariant_of-self
invariant_of-self c =
    let inside : c.args.slot < length c.self.inside.moments.items = omega (arith, c.requires.slot, ap length c.self.view_is) in
    let earlier : c.args.moment ≤ get_or c.self.inside.moments.items c.args.slot 0 = rw c.self.view_is c.requires.earlier in
    let is : c.min.result ≡ min (get_or c.self.inside.blocks.items (c.args.slot / 8) 0) c.args.moment =
    c.min.ensures ∙ ap (λ (n : ℕ). min n c.args.moment) (c.index.ensures ∙ get_or_default_zero c.self.inside.blocks.items (c.args.slot / 8) c.index.result.now (omega (arith, c.self.invariant.slots))) in
    subst (λ (least : ℕ). AreBlocks (set c.self.inside.moments.items c.args.slot c.args.moment) (set c.self.inside.blocks.items (c.args.slot / 8) least)) (sym is)
    (lowered c.self.inside.moments.items c.self.inside.blocks.items c.args.slot c.args.moment inside earlier c.self.invariant)
