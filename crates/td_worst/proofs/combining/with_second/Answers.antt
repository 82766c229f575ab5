use Rattle.std.proofs.Common.{inl, inr, sym, ◌∙◌, arith, refl}
use Rattle.td_search.specs.declared.answers.Answer.TheVariants as answer
use Rattle.td_worst.proofs.Standings.{reported_between, open_answer, joined, exact_narrower}
use Rattle.td_worst.proofs.combining.with_second.Goals as goal

pub returns-in-Exact-clause-narrower : goal.returns-in-Exact-clause-narrower
returns-in-Exact-clause-narrower c = λ asked budget more is also.
    let found = rw c.in-Exact.is at also in (
      found.greatest c.args.first.best.pair c.args.first.best.time is.best.admitted is.best.delay,
      is.high c.in-Exact.pair c.in-Exact.time found.reached.0 found.reached.1,
      exact_narrower asked more more c.args.second (answer.Exact c.in-Exact.time c.in-Exact.pair c.in-Exact.tree) also found refl,
    )

pub returns-in-Between-clause-answer : goal.returns-in-Between-clause-answer
returns-in-Between-clause-answer c = λ asked budget more is also written.
    let second = open_answer asked more c.in-Between.low c.in-Between.high c.in-Between.pair c.in-Between.nodes (rw c.in-Between.is at also) in
    rw (c.between.ensures, c.min.ensures, c.saturating_add.ensures)
    (reported_between asked _ _ c.cause_of_both.result (joined asked budget more c.args.first _ c.later-best.result _ is second c.later-best.ensures.one (omega arith)))

pub returns-in-Between-clause-narrower : goal.returns-in-Between-clause-narrower
returns-in-Between-clause-narrower c = λ asked budget more is also.
    rw (c.between.ensures, c.min.ensures, c.in-Between.is) (
      c.later-best.ensures.first,
      omega arith,
      record { low = c.later-best.ensures.second; high = omega arith },
    )

pub returns-in-Between-clause-time : goal.returns-in-Between-clause-time
returns-in-Between-clause-time c = λ can_be_set first second.
    rw c.between.ensures (λ is_time. elim c.cause_of_both.ensures [
      | inl one ↦ first (sym one ∙ is_time)
      | inr other ↦ (rw c.in-Between.is at second) (sym other ∙ is_time)
    ])
