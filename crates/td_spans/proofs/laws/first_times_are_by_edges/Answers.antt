use Rattle.td_spans.proofs.Openings.{are_first}
use Rattle.td_spans.proofs.laws.first_times_are_by_edges.Goals as goal

pub returns : goal.returns
returns c = are_first
