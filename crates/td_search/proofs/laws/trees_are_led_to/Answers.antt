use Rattle.td_search.proofs.Runs.{trees_are_led_to}
use Rattle.td_search.proofs.laws.trees_are_led_to.Goals as goal

pub returns : goal.returns
returns g c = trees_are_led_to (g.B.PairDelays.is_delay c.args.bounds.now) (g.B.CubeBounds.is_bound c.args.bounds.now) (g.B.CubeBounds.splits_above_of c.args.bounds.now)
