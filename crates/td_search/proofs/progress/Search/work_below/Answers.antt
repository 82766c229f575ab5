use Rattle.td_search.specs.Problems.{problem_of}
use Rattle.td_search.proofs.Again.{again, still}
use Rattle.td_search.proofs.progress.Search.work_below.Goals as goal

pub find-requires-clause-search : goal.find-requires-clause-search
find-requires-clause-search g c = λ κ l. again (problem_of c.args.task.now.problem.now) _ c.loop.self c.loop.invariant.search

pub returns-in_err-finding-clause-search : goal.returns-in_err-finding-clause-search
returns-in_err-finding-clause-search g c = still (problem_of c.args.task.now.problem.now) _ c.loop.self c.find.new.self c.loop.invariant.search c.find.ensures.search

pub returns-then-not-settle-clause-search : goal.returns-then-not-settle-clause-search
returns-then-not-settle-clause-search g c = still (problem_of c.args.task.now.problem.now) _ c.loop.self c.find.new.self c.loop.invariant.search c.find.ensures.search
