use Rattle.std.proofs.Common.{ℕ, sym, subst}
use Rattle.td_search.specs.Problems.{problem_of}
use Rattle.td_search.specs.Splitting.{IsReachedDelay}
use Rattle.td_search.proofs.searching.search_from.Goals as goal

pub run_from-requires-clause-search : goal.run_from-requires-clause-search
run_from-requires-clause-search g c = λ κ l. (
  c.begin-search.ensures.search.0,
  c.begin-search.ensures.search.1,
  λ lead. subst (λ (n : ℕ). IsReachedDelay (problem_of c.args.task.now.problem.now) n) (sym c.begin-search.ensures.best) (c.climb-climbed.ensures.keeps.1 lead),
)
