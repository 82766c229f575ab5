use Rattle.std.proofs.Common.{◌∙◌, inr, refl, sym, ap, length}
use Rattle.std.proofs.lemmas.Bool.{eqb-false, eqb-true}
use Rattle.std.proofs.lemmas.Result.{err_from_is_err_and, IfOk-weaker}
use Rattle.td_circuit.specs.Numbering.{setting}
use Rattle.td_search.specs.Problems.{problem_by}
use Rattle.td_worst.specs.Methods.{tree_of}
use Rattle.td_worst.proofs.Outcomes.{outcome_by}
use Rattle.td_question.proofs.Questions.{asked_held, asked_flips}
use Rattle.td_answer.specs.OpenCertificates.{told_with}
use Rattle.std.specs.Prelude.{is_some}
use Rattle.td_answer.specs.Answered.{IsPrintOfSearch, PrintsKept}
use Rattle.td_answer.specs.Conditions.{IsTrueSearch, IsCertifiedFor}
use Rattle.td_answer.specs.Kept.{IsTrueKept, IsCertifiedAmong}
use Rattle.td_answer.specs.Lines.{pair_in}
use Rattle.td_answer.specs.Runs.{RunsPair}
use Rattle.td_answer.proofs.Writable.{searched_written}
use Rattle.td_answer.proofs.Listing.{no_rows}
use Rattle.td_answer.proofs.Chosen.{without, with_some, true_without, true_with, certified_without, certified_with, printed_without, printed_with}
use Rattle.td_answer.proofs.Searched.{pair_fits, figures_of, says, certified, refused}
use Rattle.td_answer.proofs.worst.worst.Goals as goal

pub worst-requires-clause-held : goal.worst-requires-clause-held
worst-requires-clause-held g c κs within =
    asked_held c.args.text.now c.args.reading.now c.args.search.now.question (setting c.in_ok-asked.asked.circuit) c.in_ok-asked.asked.admit c.in_ok-asked.ensures.asked

pub outcome_of-requires : goal.outcome_of-requires
outcome_of-requires g c =
    let asked = c.in_ok-asked.asked in
    let problem = problem_by (tree_of c.method_of-method.result) asked.circuit asked.admit in
    let sound = outcome_by c.method_of-method.result problem c.limits_of-limits.result.effort.budget c.in_ok-found.found.answer c.in_ok-found.ensures.answer in
    let fits = pair_fits c.method_of-method.result problem c.limits_of-limits.result.effort.budget c.in_ok-found.found.answer c.in_ok-found.ensures.answer in
    let known = figures_of problem c.limits_of-limits.result.effort.budget c.in_ok-found.found.answer sound in
    record {
      held = asked_held c.args.text.now c.args.reading.now c.args.search.now.question (setting asked.circuit) asked.admit c.in_ok-asked.ensures.asked;
      flips = asked_flips c.args.text.now c.args.reading.now c.args.search.now.question (setting asked.circuit) asked.admit c.in_ok-asked.ensures.asked;
      bare = no_rows asked.keep.items (sym asked.keep.ok.0 ∙ eqb-true _ _ (sym c.is_empty.ensures ∙ c.if-not-is_empty.false));
      first_fits = fits.0;
      second_fits = fits.1;
      has = known.0;
      ordered = known.1;
      shown = c.in_ok-found.ensures.shown;
    }

pub returns-in_err-found-clause-refusal : goal.returns-in_err-found-clause-refusal
returns-in_err-found-clause-refusal g c =
    let reported = err_from_is_err_and c.from_residual-in_err-found.result c.from_residual-in_err-found.ensures.1 in
    rw (reported.1, reported.2) (refused c.args.text.now c.args.reading.now c.args.search.now c.in_ok-asked.asked.circuit
    (record { admit = c.in_ok-asked.asked.admit; keep = c.in_ok-asked.asked.keep.items })
    (tree_of c.method_of-method.result) (record { asked = c.in_ok-asked.ensures.asked; keep = c.in_ok-asked.ensures.keep }) c.in_err-found.field-0.0 c.in_err-found.ensures.fault)

pub returns-clause-says : goal.returns-clause-says
returns-clause-says g c =
    true_without c.args.text.now c.args.reading.now c.args.search.now c.in_ok-outcome.outcome (without c.args.search.now.question c.in_ok-asked.asked.circuit.netlist c.in_ok-asked.asked.keep.items c.in_ok-asked.ensures.keep
    (no_rows c.in_ok-asked.asked.keep.items (sym c.in_ok-asked.asked.keep.ok.0 ∙ eqb-true _ _ (sym c.is_empty.ensures ∙ c.if-not-is_empty.false))))
    (says c.args.text.now c.args.reading.now (record { search = c.args.search; was_asked = c.was_asked.result; work = c.in_ok-found.found.work }) c.in_ok-asked.asked.circuit c.in_ok-asked.asked.admit (tree_of c.method_of-method.result)
    c.in_ok-asked.ensures.asked c.limits_of-limits.result.effort.budget c.in_ok-found.found.answer c.in_ok-outcome.outcome
    (outcome_by c.method_of-method.result _ c.limits_of-limits.result.effort.budget c.in_ok-found.found.answer c.in_ok-found.ensures.answer)
    c.in_ok-outcome.ensures.report c.in_ok-outcome.ensures.status c.in_ok-outcome.ensures.dumped)

pub returns-clause-certified : goal.returns-clause-certified
returns-clause-certified g c =
    certified_without c.args.text.now c.args.reading.now c.args.search.now c.in_ok-outcome.outcome (without c.args.search.now.question c.in_ok-asked.asked.circuit.netlist c.in_ok-asked.asked.keep.items c.in_ok-asked.ensures.keep
    (no_rows c.in_ok-asked.asked.keep.items (sym c.in_ok-asked.asked.keep.ok.0 ∙ eqb-true _ _ (sym c.is_empty.ensures ∙ c.if-not-is_empty.false))))
    (certified c.args.text.now c.args.reading.now (record { search = c.args.search; was_asked = c.was_asked.result; work = c.in_ok-found.found.work })
    c.in_ok-asked.asked.circuit c.in_ok-asked.asked.admit (tree_of c.method_of-method.result)
    c.in_ok-asked.ensures.asked (told_with c.args.reading.now.default c.in_ok-asked.asked.outputs c.in_ok-asked.asked.keep) refl
    (no_rows c.in_ok-asked.asked.keep.items (sym c.in_ok-asked.asked.keep.ok.0 ∙ eqb-true _ _ (sym c.is_empty.ensures ∙ c.if-not-is_empty.false)))
    c.in_ok-asked.ensures.outputs c.limits_of-limits.result.effort.budget c.in_ok-found.found.answer c.in_ok-outcome.outcome
    (outcome_by c.method_of-method.result _ c.limits_of-limits.result.effort.budget c.in_ok-found.found.answer c.in_ok-found.ensures.answer)
    c.in_ok-found.ensures.text c.in_ok-outcome.ensures.report
    (rw c.strategy.ensures at c.in_ok-outcome.ensures.certified))

pub returns-clause-written : goal.returns-clause-written
returns-clause-written g c =
    searched_written c.args.text.now c.args.reading.now c.args.search.now (is_some c.args.search.now.dump) (setting c.in_ok-asked.asked.circuit)
    (RunsPair (setting c.in_ok-asked.asked.circuit) (pair_in c.in_ok-found.found.answer)) c.in_ok-outcome.outcome
    (certified c.args.text.now c.args.reading.now (record { search = c.args.search; was_asked = c.was_asked.result; work = c.in_ok-found.found.work })
    c.in_ok-asked.asked.circuit c.in_ok-asked.asked.admit (tree_of c.method_of-method.result)
    c.in_ok-asked.ensures.asked (told_with c.args.reading.now.default c.in_ok-asked.asked.outputs c.in_ok-asked.asked.keep) refl
    (no_rows c.in_ok-asked.asked.keep.items (sym c.in_ok-asked.asked.keep.ok.0 ∙ eqb-true _ _ (sym c.is_empty.ensures ∙ c.if-not-is_empty.false)))
    c.in_ok-asked.ensures.outputs c.limits_of-limits.result.effort.budget c.in_ok-found.found.answer c.in_ok-outcome.outcome
    (outcome_by c.method_of-method.result _ c.limits_of-limits.result.effort.budget c.in_ok-found.found.answer c.in_ok-found.ensures.answer)
    c.in_ok-found.ensures.text c.in_ok-outcome.ensures.report
    (rw c.strategy.ensures at c.in_ok-outcome.ensures.certified)) c.in_ok-outcome.ensures.dumped

pub returns-clause-reported : goal.returns-clause-reported
returns-clause-reported g c =
    inr (problem_by (tree_of c.method_of-method.result) c.in_ok-asked.asked.circuit c.in_ok-asked.asked.admit, c.in_ok-asked.ensures.asked, c.in_ok-found.ensures.reported)

pub returns-in_err-found-clause-reported : goal.returns-in_err-found-clause-reported
returns-in_err-found-clause-reported g c =
    inr (problem_by (tree_of c.method_of-method.result) c.in_ok-asked.asked.circuit c.in_ok-asked.asked.admit, c.in_ok-asked.ensures.asked, c.in_err-found.ensures.reported)

pub returns-in_err-outcome-clause-reported : goal.returns-in_err-outcome-clause-reported
returns-in_err-outcome-clause-reported g c =
    inr (problem_by (tree_of c.method_of-method.result) c.in_ok-asked.asked.circuit c.in_ok-asked.asked.admit, c.in_ok-asked.ensures.asked, c.in_ok-found.ensures.reported)

pub returns-then-not-is_empty-clause-says : goal.returns-then-not-is_empty-clause-says
returns-then-not-is_empty-clause-says g c =
    IfOk-weaker c.worst_kept.result (IsTrueKept c.args.text.now c.args.reading.now c.args.search.now) (IsTrueSearch c.args.text.now c.args.reading.now c.args.search.now)
    (λ outcome is. true_with c.args.text.now c.args.reading.now c.args.search.now outcome
    (with_some c.args.search.now.question c.in_ok-asked.asked.circuit.netlist c.in_ok-asked.asked.keep.items c.in_ok-asked.ensures.keep
    (λ none. eqb-false _ _ (sym c.is_empty.ensures ∙ c.if-not-is_empty.true) (c.in_ok-asked.asked.keep.ok.0 ∙ ap (λ keep. length keep) none))) is)
    c.worst_kept.ensures.says

pub returns-then-not-is_empty-clause-certified : goal.returns-then-not-is_empty-clause-certified
returns-then-not-is_empty-clause-certified g c =
    IfOk-weaker c.worst_kept.result
    (λ outcome. IsCertifiedAmong c.args.text.now c.args.reading.now c.args.search.now outcome.report outcome.certificate)
    (λ outcome. IsCertifiedFor c.args.text.now c.args.reading.now c.args.search.now outcome.report outcome.certificate)
    (λ outcome is. certified_with c.args.text.now c.args.reading.now c.args.search.now outcome
    (with_some c.args.search.now.question c.in_ok-asked.asked.circuit.netlist c.in_ok-asked.asked.keep.items c.in_ok-asked.ensures.keep
    (λ none. eqb-false _ _ (sym c.is_empty.ensures ∙ c.if-not-is_empty.true) (c.in_ok-asked.asked.keep.ok.0 ∙ ap (λ keep. length keep) none))) is)
    c.worst_kept.ensures.certified

pub returns-clause-answered : goal.returns-clause-answered
returns-clause-answered g c =
    printed_without c.args.stop.now.can_be_set c.args.text.now c.args.reading.now c.args.search.now c.in_ok-outcome.outcome (without c.args.search.now.question c.in_ok-asked.asked.circuit.netlist c.in_ok-asked.asked.keep.items c.in_ok-asked.ensures.keep
    (no_rows c.in_ok-asked.asked.keep.items (sym c.in_ok-asked.asked.keep.ok.0 ∙ eqb-true _ _ (sym c.is_empty.ensures ∙ c.if-not-is_empty.false))))
    (record {
      setting = setting c.in_ok-asked.asked.circuit;
      admit = c.in_ok-asked.asked.admit;
      asked = c.in_ok-asked.ensures.asked;
      found = c.in_ok-found.found.answer;
      answer = rw (c.method_of-method.ensures, c.limits_of-limits.ensures.budget) at c.in_ok-found.ensures.answer;
      first = rw (c.method_of-method.ensures, c.limits_of-limits.ensures.budget) at c.in_ok-found.ensures.first;
      edges = rw (c.method_of-method.ensures, c.limits_of-limits.ensures.budget) at c.in_ok-found.ensures.edges;
      timely = rw c.limits_of-limits.ensures.stop at c.in_ok-found.ensures.time;
      ended = record { search = c.args.search; was_asked = c.was_asked.result; work = c.in_ok-found.found.work };
      of = refl;
      more = c.in_ok-outcome.ensures.report.0;
      printed = c.in_ok-outcome.ensures.report.1;
    })

pub returns-then-not-is_empty-clause-answered : goal.returns-then-not-is_empty-clause-answered
returns-then-not-is_empty-clause-answered g c =
    IfOk-weaker c.worst_kept.result (PrintsKept c.args.stop.now.can_be_set c.args.text.now c.args.reading.now c.args.search.now)
    (IsPrintOfSearch c.args.stop.now.can_be_set c.args.text.now c.args.reading.now c.args.search.now)
    (λ outcome is. printed_with c.args.stop.now.can_be_set c.args.text.now c.args.reading.now c.args.search.now outcome
    (with_some c.args.search.now.question c.in_ok-asked.asked.circuit.netlist c.in_ok-asked.asked.keep.items c.in_ok-asked.ensures.keep
    (λ none. eqb-false _ _ (sym c.is_empty.ensures ∙ c.if-not-is_empty.true) (c.in_ok-asked.asked.keep.ok.0 ∙ ap (λ keep. length keep) none))) is)
    c.worst_kept.ensures.printed
