use Rattle.td_search.specs.Problems.{problem_of}
use Rattle.td_search.proofs.Going.{leased_or, leased_within}
use Rattle.td_search.proofs.Later.{leased_later}
use Rattle.td_search.proofs.progress.Search.lease.Goals as goal

pub returns-clause-search : goal.returns-clause-search
returns-clause-search c =
    let s = c.args.self.now in (
      leased_or (problem_of c.args.problem.now) s.book.budget s.book c.claim_id.new.self s.best.time s.best.pair s.bounds.items c.requires.search.0 c.args.number c.claim_id.result
          c.claim_id.ensures.ok c.claim_id.ensures.err,
      c.requires.search.1,
      c.requires.search.2,
    )

pub returns-clause-within : goal.returns-clause-within
returns-clause-within c =
    let s = c.args.self.now in
    leased_within (problem_of c.args.problem.now) s.book.budget s.book c.claim_id.new.self s.best.time s.best.pair s.bounds.items c.requires.search.0 c.args.number c.claim_id.result
    c.claim_id.ensures.ok

pub returns-clause-later : goal.returns-clause-later
returns-clause-later c = leased_later c.args.self.now.book c.claim_id.new.self c.args.number c.claim_id.result c.claim_id.ensures.ok c.claim_id.ensures.err
