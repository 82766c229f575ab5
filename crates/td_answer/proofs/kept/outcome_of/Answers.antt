use Rattle.std.specs.Prelude.{is_some, false, None}
use Rattle.td_circuit.specs.Numbering.{setting}
use Rattle.td_worst.specs.Kept.{asking_by}
use Rattle.td_answer.specs.Runs.{RunsPair}
use Rattle.td_answer.proofs.KeptOnes.{best_fits, exact_says, between_says, at_most_says, none_says, exact_kept, none_kept, between_kept, open_kept, certificate_written, open_written}
use Rattle.td_answer.proofs.Writable.{certificate_and_dump, spelled_and_dump}
use Rattle.td_answer.proofs.KeptOnes.{whole}
use Rattle.td_answer.proofs.kept.outcome_of.Goals as goal

pub exact-requires-clause-first_fits : goal.exact-requires-clause-first_fits
exact-requires-clause-first_fits c = (best_fits c.args.circuit _ c.in-Exact.best (rw c.in-Exact.is at c.requires.answer).0.timed).0

pub exact-requires-clause-second_fits : goal.exact-requires-clause-second_fits
exact-requires-clause-second_fits c = (best_fits c.args.circuit _ c.in-Exact.best (rw c.in-Exact.is at c.requires.answer).0.timed).1

pub between-requires : goal.between-requires
between-requires c =
    let is = rw c.in-Between.is at c.requires.answer in
    let fits = best_fits c.args.circuit _ c.in-Between.best is.0.timed in
    record {
      held = c.requires.held;
      flips = c.requires.flips;
      fit = c.requires.fit;
      first_fits = fits.0;
      second_fits = fits.1;
      timed = is.0.timed;
      ordered = is.0.ordered;
      shown = c.by_steps-support.ensures.among (setting c.args.circuit) (asking_by c.args.admit c.args.told.keep.items) is.1;
    }

pub returns-in_ok-closed-in-Exact-clause-says : goal.returns-in_ok-closed-in-Exact-clause-says
returns-in_ok-closed-in-Exact-clause-says c = λ text reading asked.
    exact_says c.args.circuit c.args.admit c.args.told c.args.ended text reading asked c.in_ok-closed-in-Exact.closed c.in-Exact.best c.in-Exact.tree
    (rw c.in-Exact.is at c.requires.answer).0 c.in_ok-closed-in-Exact.ensures.report c.in_ok-closed-in-Exact.ensures.status c.in_ok-closed-in-Exact.ensures.dumped

pub returns-in_ok-closed-in-Exact-clause-certified : goal.returns-in_ok-closed-in-Exact-clause-certified
returns-in_ok-closed-in-Exact-clause-certified c = λ text reading asked are_outputs same.
    exact_kept c.args.circuit c.args.admit c.args.told c.args.ended text reading asked c.in_ok-closed-in-Exact.closed are_outputs same
    c.in_ok-closed-in-Exact.ensures.told c.in_ok-closed-in-Exact.ensures.few c.in-Exact.best c.in-Exact.tree
    (rw c.in-Exact.is at c.requires.answer).1 c.in_ok-closed-in-Exact.ensures.report c.in_ok-closed-in-Exact.ensures.certificate

pub returns-in_ok-closed-in-Exact-clause-written : goal.returns-in_ok-closed-in-Exact-clause-written
returns-in_ok-closed-in-Exact-clause-written c =
    certificate_and_dump (is_some c.args.ended.search.now.dump) (setting c.args.circuit) (RunsPair (setting c.args.circuit) c.in-Exact.best.pair) _ c.in_ok-closed-in-Exact.closed
    c.in_ok-closed-in-Exact.ensures.certificate
    (certificate_written c.args.circuit c.args.admit c.args.told _ c.in-Exact.tree (rw c.in-Exact.is at c.requires.answer).1
    c.in_ok-closed-in-Exact.ensures.told c.in_ok-closed-in-Exact.ensures.few)
    c.in_ok-closed-in-Exact.ensures.dumped

pub returns-in_ok-lying-in-Between-clause-says : goal.returns-in_ok-lying-in-Between-clause-says
returns-in_ok-lying-in-Between-clause-says c = λ text reading asked.
    between_says c.args.circuit c.args.admit c.args.told c.args.ended text reading asked c.in_ok-lying-in-Between.lying c.in-Between.best c.in-Between.high c.cause-why.result
    (rw c.in-Between.is at c.requires.answer).0 c.in_ok-lying-in-Between.ensures.report c.in_ok-lying-in-Between.ensures.status c.in_ok-lying-in-Between.ensures.dumped

pub returns-in_ok-lying-in-Between-clause-certified : goal.returns-in_ok-lying-in-Between-clause-certified
returns-in_ok-lying-in-Between-clause-certified c = λ text reading asked are_outputs same.
    between_kept c.args.circuit c.args.admit c.args.told c.args.ended text reading asked c.in_ok-lying-in-Between.lying are_outputs same
    c.in-Between.best c.in-Between.high c.cause-why.result c.in_ok-lying-in-Between.ensures.certificate c.in_ok-lying-in-Between.ensures.report

pub returns-in_ok-lying-in-Between-clause-written : goal.returns-in_ok-lying-in-Between-clause-written
returns-in_ok-lying-in-Between-clause-written c =
    spelled_and_dump (is_some c.args.ended.search.now.dump) (setting c.args.circuit) (RunsPair (setting c.args.circuit) c.in-Between.best.pair) c.in_ok-lying-in-Between.lying
    (open_written c.args.circuit c.args.admit c.args.told c.args.ended.search.now c.in-Between.best c.in-Between.high c.in_ok-lying-in-Between.lying.certificate
    c.in_ok-lying-in-Between.ensures.certificate) c.in_ok-lying-in-Between.ensures.dumped

pub returns-in_ok-bounded-in-Open-clause-says : goal.returns-in_ok-bounded-in-Open-clause-says
returns-in_ok-bounded-in-Open-clause-says c = λ text reading asked.
    at_most_says c.args.circuit c.args.admit c.args.told c.args.ended text reading asked c.in_ok-bounded-in-Open.bounded c.in-Open.high c.cause-why-in-Open.result
    (rw c.in-Open.is at c.requires.answer) c.in_ok-bounded-in-Open.ensures.report c.in_ok-bounded-in-Open.ensures.status c.in_ok-bounded-in-Open.ensures.dumped

pub returns-in_ok-bounded-in-Open-clause-certified : goal.returns-in_ok-bounded-in-Open-clause-certified
returns-in_ok-bounded-in-Open-clause-certified c = λ text reading asked are_outputs same.
    open_kept c.args.circuit c.args.admit c.args.told c.args.ended text reading asked c.in_ok-bounded-in-Open.bounded c.in-Open.high c.cause-why-in-Open.result
    c.in_ok-bounded-in-Open.ensures.certificate c.in_ok-bounded-in-Open.ensures.report

pub returns-in_ok-empty-in-NoPair-clause-says : goal.returns-in_ok-empty-in-NoPair-clause-says
returns-in_ok-empty-in-NoPair-clause-says c = λ text reading asked.
    none_says c.args.circuit c.args.admit c.args.told c.args.ended text reading asked c.in_ok-empty-in-NoPair.empty c.in-NoPair.tree
    (rw c.in-NoPair.is at c.requires.answer).0 c.in_ok-empty-in-NoPair.ensures.report c.in_ok-empty-in-NoPair.ensures.status c.in_ok-empty-in-NoPair.ensures.dumped

pub returns-in_ok-empty-in-NoPair-clause-certified : goal.returns-in_ok-empty-in-NoPair-clause-certified
returns-in_ok-empty-in-NoPair-clause-certified c = λ text reading asked are_outputs same.
    none_kept c.args.circuit c.args.admit c.args.told c.args.ended text reading asked c.in_ok-empty-in-NoPair.empty are_outputs same
    c.in_ok-empty-in-NoPair.ensures.told c.in_ok-empty-in-NoPair.ensures.few c.in-NoPair.tree
    (rw c.in-NoPair.is at c.requires.answer).1 c.in_ok-empty-in-NoPair.ensures.report c.in_ok-empty-in-NoPair.ensures.certificate

pub returns-in_ok-empty-in-NoPair-clause-written : goal.returns-in_ok-empty-in-NoPair-clause-written
returns-in_ok-empty-in-NoPair-clause-written c =
    certificate_and_dump false (setting c.args.circuit) (λ waves. ⊥) _ c.in_ok-empty-in-NoPair.empty c.in_ok-empty-in-NoPair.ensures.certificate
    (certificate_written c.args.circuit c.args.admit c.args.told None c.in-NoPair.tree (rw c.in-NoPair.is at c.requires.answer).1
    c.in_ok-empty-in-NoPair.ensures.told c.in_ok-empty-in-NoPair.ensures.few)
    c.in_ok-empty-in-NoPair.ensures.dumped

pub returns-in_ok-closed-in-Exact-clause-printed : goal.returns-in_ok-closed-in-Exact-clause-printed
returns-in_ok-closed-in-Exact-clause-printed c =
    rw c.in-Exact.is (c.in_ok-closed-in-Exact.ensures.report.0, c.in_ok-closed-in-Exact.ensures.report.1)

pub returns-in_ok-lying-in-Between-clause-printed : goal.returns-in_ok-lying-in-Between-clause-printed
returns-in_ok-lying-in-Between-clause-printed c =
    rw c.in-Between.is (c.in_ok-lying-in-Between.ensures.report.0, rw c.cause-why.ensures at c.in_ok-lying-in-Between.ensures.report.1)

pub returns-in_ok-bounded-in-Open-clause-printed : goal.returns-in_ok-bounded-in-Open-clause-printed
returns-in_ok-bounded-in-Open-clause-printed c =
    rw c.in-Open.is (whole _ _ (rw c.cause-why-in-Open.ensures at c.in_ok-bounded-in-Open.ensures.report))

pub returns-in_ok-empty-in-NoPair-clause-printed : goal.returns-in_ok-empty-in-NoPair-clause-printed
returns-in_ok-empty-in-NoPair-clause-printed c = rw c.in-NoPair.is (whole _ _ c.in_ok-empty-in-NoPair.ensures.report)
