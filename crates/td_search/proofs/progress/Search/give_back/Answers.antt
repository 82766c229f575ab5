use Rattle.td_search.specs.Problems.{problem_of}
use Rattle.td_search.proofs.Going.{released_or}
use Rattle.td_search.proofs.Later.{released_later}
use Rattle.td_search.proofs.progress.Search.give_back.Goals as goal

pub returns-clause-search : goal.returns-clause-search
returns-clause-search c =
    let s = c.args.self.now in (
      released_or (problem_of c.args.problem.now) s.book.budget s.book c.release-opened.new.self s.best.time s.best.pair s.bounds.items c.requires.0 c.args.lease
          c.release-opened.result _ (λ y h. h.1.0) c.release-opened.ensures,
      c.requires.1,
      c.requires.2,
    )

pub returns-clause-later : goal.returns-clause-later
returns-clause-later c = released_later c.args.self.now.book c.release-opened.new.self c.args.lease c.release-opened.result _ (λ y h. h.1.0) c.release-opened.ensures
