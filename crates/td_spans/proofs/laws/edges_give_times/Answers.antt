use Rattle.td_spans.proofs.Covering.{edges_give_times}
use Rattle.td_spans.proofs.laws.edges_give_times.Goals as goal

pub returns : goal.returns
returns c = edges_give_times
