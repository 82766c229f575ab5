use Rattle.std.proofs.Common.{arith}
use Rattle.td_search.proofs.searching.run_from.Goals as goal

pub answer-requires : goal.answer-requires
answer-requires g c = record { search = (c.run.ensures.search.0, c.run.ensures.search.1) }

pub returns-clause-count : goal.returns-clause-count
returns-clause-count g c = λ n le. c.answer.ensures.count n (let later = c.run.ensures.later in omega (arith, later, le))
