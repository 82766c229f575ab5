use Rattle.std.proofs.Common.{◌∙◌}
use Rattle.td_domain.proofs.Changing.{vectors_in}
use Rattle.td_refute_rows.proofs.searches.timed.Goals as goal

pub delay_of-requires-clause-first_fits : goal.delay_of-requires-clause-first_fits
delay_of-requires-clause-first_fits c =
    (vectors_in _ c.args.admit.now.pins c.args.pair.first c.args.pair.second c.pins-pins.ensures.fit c.requires.admitted.pinned).0 ∙ c.requires.held

pub delay_of-requires-clause-second_fits : goal.delay_of-requires-clause-second_fits
delay_of-requires-clause-second_fits c =
    (vectors_in _ c.args.admit.now.pins c.args.pair.first c.args.pair.second c.pins-pins.ensures.fit c.requires.admitted.pinned).1 ∙ c.requires.held
