use Rattle.std.proofs.Common.{◌∙◌}
use Rattle.td_domain.proofs.Changing.{vectors_in}
use Rattle.td_refute.proofs.refuting.keep_later.Goals as goal

pub delay_until-requires-clause-first_fits : goal.delay_until-requires-clause-first_fits
delay_until-requires-clause-first_fits c =
    (vectors_in _ c.args.admit.now.pins c.args.pair.first c.args.pair.second c.pins-pins.ensures.fit c.requires.pair.pinned).0 ∙ c.requires.held

pub delay_until-requires-clause-second_fits : goal.delay_until-requires-clause-second_fits
delay_until-requires-clause-second_fits c =
    (vectors_in _ c.args.admit.now.pins c.args.pair.first c.args.pair.second c.pins-pins.ensures.fit c.requires.pair.pinned).1 ∙ c.requires.held
