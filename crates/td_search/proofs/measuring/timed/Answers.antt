use Rattle.std.proofs.Common.{◌∙◌}
use Rattle.td_domain.proofs.Changing.{vectors_in}
use Rattle.td_search.proofs.measuring.timed.Goals as goal

pub delay_until-requires-clause-first_fits : goal.delay_until-requires-clause-first_fits
delay_until-requires-clause-first_fits c =
    let given = c.args.problem.now in
    (vectors_in _ given.admit.now.pins c.args.pair.first c.args.pair.second c.pins-pins.ensures.fit c.requires.admitted.pinned).0 ∙ given.held

pub delay_until-requires-clause-second_fits : goal.delay_until-requires-clause-second_fits
delay_until-requires-clause-second_fits c =
    let given = c.args.problem.now in
    (vectors_in _ given.admit.now.pins c.args.pair.first c.args.pair.second c.pins-pins.ensures.fit c.requires.admitted.pinned).1 ∙ given.held
