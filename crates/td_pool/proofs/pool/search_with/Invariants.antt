use Rattle.td_search.specs.Problems.{problem_of}
use Rattle.td_pool.proofs.pool.search_with.Given as goal

abbrev pub ghosts-search_all-L-Ledger : goal.ghosts-search_all-L-Ledger
ghosts-search_all-L-Ledger g a = record { name = a.blank.name; parts = a.blank.parts }

abbrev pub ghosts-search_all-L-Subject : goal.ghosts-search_all-L-Subject
ghosts-search_all-L-Subject g a = record { asked = problem_of a.task.now.problem.now }
