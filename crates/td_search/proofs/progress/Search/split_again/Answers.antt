use Rattle.td_search.specs.Problems.{problem_of}
use Rattle.td_search.proofs.Again.{again, still}
use Rattle.td_search.proofs.progress.Search.split_again.Goals as goal

pub give_back-requires-in_default : goal.give_back-requires-in_default
give_back-requires-in_default g c = again (problem_of c.args.task.now.problem.now) _ c.bound_above.new.self c.bound_above.ensures.search

pub returns-in_default-clause-search : goal.returns-in_default-clause-search
returns-in_default-clause-search g c = still (problem_of c.args.task.now.problem.now) _ c.bound_above.new.self c.give_back-in_default.new.self c.bound_above.ensures.search c.give_back-in_default.ensures.search

pub split-requires-clause-search : goal.split-requires-clause-search
split-requires-clause-search g c = again (problem_of c.args.task.now.problem.now) _ c.bound_above.new.self c.bound_above.ensures.search

pub give_back-requires-in-Err : goal.give_back-requires-in-Err
give_back-requires-in-Err g c = again (problem_of c.args.task.now.problem.now) _ c.split.new.self c.split.ensures.search

pub returns-in-Ok-clause-search : goal.returns-in-Ok-clause-search
returns-in-Ok-clause-search g c = still (problem_of c.args.task.now.problem.now) _ c.bound_above.new.self c.split.new.self c.bound_above.ensures.search c.split.ensures.search

pub returns-in-Err-clause-search : goal.returns-in-Err-clause-search
returns-in-Err-clause-search g c = still (problem_of c.args.task.now.problem.now) _ c.bound_above.new.self c.give_back-in-Err.new.self c.bound_above.ensures.search (still (problem_of c.args.task.now.problem.now) _ c.split.new.self c.give_back-in-Err.new.self c.split.ensures.search c.give_back-in-Err.ensures.search)
