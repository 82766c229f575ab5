use Rattle.td_domain.proofs.Flips.{reported_some, reported_none}
use Rattle.td_domain.proofs.admits.Admit.any.Goals as goal

pub returns-in-Some : goal.returns-in-Some
returns-in-Some c =
    reported_some (record { pins = c.self.inside.pins; held = c.self.inside.held.items; flips = c.self.inside.flips }) c.args.self.now c.args.cube.now
    c.deref.result.now c.fewest_flips.result c.in-Some.flips c.self.view_is c.self.invariant c.deref.ensures.value
    c.fewest_flips.ensures c.in-Some.is

pub returns-in-None : goal.returns-in-None
returns-in-None c =
    reported_none (record { pins = c.self.inside.pins; held = c.self.inside.held.items; flips = c.self.inside.flips }) c.args.self.now c.args.cube.now
    c.deref.result.now c.fewest_flips.result c.self.view_is c.self.invariant c.deref.ensures.value
    c.fewest_flips.ensures c.in-None.is
