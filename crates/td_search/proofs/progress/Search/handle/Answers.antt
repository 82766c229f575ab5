use Rattle.td_search.specs.Problems.{problem_of}
use Rattle.td_search.proofs.Again.{again, still}
use Rattle.td_search.proofs.progress.Search.handle.Goals as goal

pub graft_found-requires-clause-search : goal.graft_found-requires-clause-search
graft_found-requires-clause-search g c = again (problem_of c.args.task.now.problem.now) _ c.work_below-worked.new.self c.work_below-worked.ensures.search

pub returns-in_err-graft_found-clause-search : goal.returns-in_err-graft_found-clause-search
returns-in_err-graft_found-clause-search g c = still (problem_of c.args.task.now.problem.now) _ c.work_below-worked.new.self c.graft_found.new.self c.work_below-worked.ensures.search c.graft_found.ensures.search

pub returns-clause-search : goal.returns-clause-search
returns-clause-search g c = still (problem_of c.args.task.now.problem.now) _ c.work_below-worked.new.self c.graft_found.new.self c.work_below-worked.ensures.search c.graft_found.ensures.search
