use Rattle.std.proofs.Common.{length}
use Rattle.td_spans.proofs.long_clauses.+counts_pieces.Given as goal

abbrev pub decreases-counts_pieces : goal.decreases-counts_pieces
decreases-counts_pieces l = length l.nets.now
