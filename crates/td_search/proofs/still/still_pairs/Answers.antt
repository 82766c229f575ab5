use Rattle.std.proofs.Common.{◌∙◌, refl}
use Rattle.td_search.proofs.Stills.{still_among, all_among}
use Rattle.td_search.proofs.still.still_pairs.Goals as goal

pub returns-then-any : goal.returns-then-any
returns-then-any c = still_among c.args.admit.now c.new-still.result c.in_ok-pins.pins c.in_ok-held.held.items c.new-still.ensures
    (c.in_ok-pins.ensures ∙ c.pins.ensures.pins) (c.in_ok-held.ensures.items ∙ c.held.ensures) c.pins-3.result.now c.pins-3.ensures.pins (c.if-any.ensures.0 refl)

pub returns : goal.returns
returns c = all_among c.args.admit.now c.copy-2.result c.copy-2.ensures c.requires
