use Rattle.td_search.specs.Problems.{problem_of}
use Rattle.td_search.proofs.Again.{again, still}
use Rattle.td_search.proofs.Found.{true_front}
use Rattle.td_search.proofs.progress.Search.graft_found.Goals as goal

pub graft-requires-clause-found : goal.graft-requires-clause-found
graft-requires-clause-found c =
    true_front (problem_of c.args.problem.now) _ c.args.findings.now c.dig_again-count.result c.requires.found

pub give_back-requires-in-Err-graft : goal.give_back-requires-in-Err-graft
give_back-requires-in-Err-graft c = again (problem_of c.args.problem.now) _ c.graft.new.self c.graft.ensures.search

pub returns-in-Err-graft-clause-search : goal.returns-in-Err-graft-clause-search
returns-in-Err-graft-clause-search c = still (problem_of c.args.problem.now) _ c.graft.new.self c.give_back-in-Err-graft.new.self c.graft.ensures.search c.give_back-in-Err-graft.ensures.search
