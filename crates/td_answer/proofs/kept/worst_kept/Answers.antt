use Rattle.std.proofs.Common.{◌≡◌, ℕ, true, refl, subst, arith}
use Rattle.td_certificate.specs.Accepts.{are_fit}
use Rattle.std.proofs.lemmas.Result.{err_from_is_err_and}
use Rattle.td_circuit.specs.Numbering.{setting}
use Rattle.td_search.specs.declared.strategy.Strategy.TheVariants.{Lead}
use Rattle.td_question.proofs.Questions.{asked_held, asked_flips}
use Rattle.td_answer.proofs.Searched.{refused}
use Rattle.td_answer.proofs.kept.worst_kept.Goals as goal

pub worst_kept-requires-clause-held : goal.worst_kept-requires-clause-held
worst_kept-requires-clause-held g c κs lives =
    asked_held c.args.text.now c.args.reading.now c.args.search.now.question (setting c.args.asked.circuit) c.args.asked.admit c.requires.asked

pub worst_kept-requires-clause-fit : goal.worst_kept-requires-clause-fit
worst_kept-requires-clause-fit g c κs lives =
    rw c.deref.ensures.value (subst (λ (n : ℕ). are_fit n c.args.asked.keep.items ≡ true) (omega arith) c.requires.keep.rising)

pub outcome_of-requires : goal.outcome_of-requires
outcome_of-requires g c = record {
  held = asked_held c.args.text.now c.args.reading.now c.args.search.now.question (setting c.args.asked.circuit) c.args.asked.admit c.requires.asked;
  flips = asked_flips c.args.text.now c.args.reading.now c.args.search.now.question (setting c.args.asked.circuit) c.args.asked.admit c.requires.asked;
  fit = subst (λ (n : ℕ). are_fit n c.args.asked.keep.items ≡ true) (omega arith) c.requires.keep.rising;
  answer = rw c.deref.ensures.value at c.in_ok-found.ensures.answer;
}

pub returns-in_err-found-clause-refusal : goal.returns-in_err-found-clause-refusal
returns-in_err-found-clause-refusal g c =
    let reported = err_from_is_err_and c.from_residual.result c.from_residual.ensures.1 in
    rw (reported.1, reported.2) (refused c.args.text.now c.args.reading.now c.args.search.now c.args.asked.circuit
    (record { admit = c.args.asked.admit; keep = c.args.asked.keep.items }) Lead (record { asked = c.requires.asked; keep = c.requires.keep })
    c.in_err-found.field-0.0 c.in_err-found.ensures.fault)

pub returns-clause-says : goal.returns-clause-says
returns-clause-says g c =
    c.in_ok-outcome.ensures.says c.args.text.now c.args.reading.now (record { asked = c.requires.asked; keep = c.requires.keep })

pub returns-clause-certified : goal.returns-clause-certified
returns-clause-certified g c =
    c.in_ok-outcome.ensures.certified c.args.text.now c.args.reading.now (record { asked = c.requires.asked; keep = c.requires.keep }) c.requires.outputs refl

pub returns-clause-printed : goal.returns-clause-printed
returns-clause-printed g c = record {
  setting = setting c.args.asked.circuit;
  asking = record { admit = c.args.asked.admit; keep = c.args.asked.keep.items };
  asked = record { asked = c.requires.asked; keep = c.requires.keep };
  found = c.in_ok-found.found.answer;
  edges = c.in_ok-found.ensures.edges;
  timely = rw c.limits_of-limits.ensures.stop at c.in_ok-found.ensures.time;
  ended = record { search = c.args.search; was_asked = c.was_asked.result; work = c.in_ok-found.found.work };
  of = refl;
  more = c.in_ok-outcome.ensures.printed.0;
  printed = c.in_ok-outcome.ensures.printed.1;
}
