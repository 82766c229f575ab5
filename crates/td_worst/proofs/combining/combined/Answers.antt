use Rattle.std.proofs.Common.{refl}
use Rattle.td_search.specs.declared.answers.Answer.TheVariants as answer
use Rattle.td_worst.proofs.Standings.{open_answer, exact_narrower}
use Rattle.td_worst.proofs.combining.combined.Goals as goal

pub returns-in-Exact-clause-narrower : goal.returns-in-Exact-clause-narrower
returns-in-Exact-clause-narrower c = λ asked budget more is also.
    let found = rw c.in-Exact.is at is in (
      exact_narrower asked budget budget c.args.first (answer.Exact c.in-Exact.time c.in-Exact.pair c.in-Exact.tree) is found refl,
      exact_narrower asked more budget c.args.second (answer.Exact c.in-Exact.time c.in-Exact.pair c.in-Exact.tree) also found refl,
    )

pub returns-in-Between-clause-answer : goal.returns-in-Between-clause-answer
returns-in-Between-clause-answer c = λ asked budget more is written also also_written.
    c.with_second.ensures.answer asked budget more
    (open_answer asked budget c.in-Between.low c.in-Between.high c.in-Between.pair c.in-Between.nodes (rw c.in-Between.is at is)) also also_written

pub returns-in-Between-clause-narrower : goal.returns-in-Between-clause-narrower
returns-in-Between-clause-narrower c = λ asked budget more is also.
    let reported = c.with_second.ensures.narrower asked budget more
    (open_answer asked budget c.in-Between.low c.in-Between.high c.in-Between.pair c.in-Between.nodes (rw c.in-Between.is at is)) also in
    (rw c.in-Between.is (record { low = reported.0; high = reported.1 }), reported.2)

pub returns-in-Between-clause-time : goal.returns-in-Between-clause-time
returns-in-Between-clause-time c = λ can_be_set first second. c.with_second.ensures.time can_be_set (rw c.in-Between.is at first) second
