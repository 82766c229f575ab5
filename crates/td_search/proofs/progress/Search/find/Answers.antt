use Rattle.td_search.specs.Problems.{problem_of}
use Rattle.td_search.proofs.Going.{keeps}
use Rattle.td_search.proofs.progress.Search.find.Goals as goal

pub find-requires-clause-keeps : goal.find-requires-clause-keeps
find-requires-clause-keeps g c = λ κ l. (c.requires.search.0.reached, c.requires.search.2)

pub returns-clause-search : goal.returns-clause-search
returns-clause-search g c =
    let s = c.args.self.now in (
      keeps (problem_of c.args.task.now.problem.now) s.book.budget s.book s.best.time s.best.pair s.bounds.items c.requires.search.0 c.find.new.keeper c.find.ensures.keeps c.find.ensures.kept,
      c.requires.search.1,
      c.find.ensures.keeps.1,
    )
