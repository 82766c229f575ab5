use Rattle.std.proofs.Common.{length}
use Rattle.td_spans.proofs.pieces.+by_sayings.Given as goal

abbrev pub decreases-by_sayings : goal.decreases-by_sayings
decreases-by_sayings l = length l.sayings.now
