use Rattle.td_answer.proofs.answering.answer.Goals as goal

pub returns-in-Worst-clause-reported : goal.returns-in-Worst-clause-reported
returns-in-Worst-clause-reported g c = rw c.in-Worst.is (rw c.filled_search-search.ensures at c.searched.ensures.reported)
