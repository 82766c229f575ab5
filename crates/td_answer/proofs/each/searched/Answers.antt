use Rattle.std.proofs.Common.{◌∙◌, List, Some, sym, subst}
use Rattle.std.proofs.lemmas.Bool.{eqb-true}
use Rattle.std.proofs.lemmas.Result.{err_from_is_err_and}
use Rattle.td_circuit.specs.Numbering.{setting}
use Rattle.td_refutation.specs.Asking.{Asking, all_admitted}
use Rattle.td_refutation.specs.declared.conditions.NamedCondition.{NamedCondition}
use Rattle.td_search.specs.declared.strategy.Strategy.TheVariants.{Lead}
use Rattle.td_search.specs.Problems.{problem_by}
use Rattle.td_worst.specs.Methods.{tree_of}
use Rattle.td_worst.proofs.Outcomes.{outcome_by}
use Rattle.td_answer.specs.Findings.{found_of, kept_found}
use Rattle.td_answer.specs.Lines.{pair_in}
use Rattle.td_answer.specs.Sightings.{IsTrueSighting, kept_pair, sighted}
use Rattle.td_answer.proofs.EachOne.{unanswered, true_found, true_kept}
use Rattle.td_answer.proofs.Sighted.{answer_shown, kept_shown, true_sighting}
use Rattle.td_answer.proofs.Listing.{no_rows}
use Rattle.td_answer.proofs.each.searched.Goals as goal

pub worst-requires-clause-held : goal.worst-requires-clause-held
worst-requires-clause-held g c κs within = c.requires.held

pub worst_kept-requires-clause-held : goal.worst_kept-requires-clause-held
worst_kept-requires-clause-held g c κs within = c.requires.held

pub worst_kept-requires-clause-fit : goal.worst_kept-requires-clause-fit
worst_kept-requires-clause-fit g c κs within = c.requires.fit

pub returns-in_err-kept-clause-refusal : goal.returns-in_err-kept-clause-refusal
returns-in_err-kept-clause-refusal g c =
    let reported = err_from_is_err_and c.from_residual.result c.from_residual.ensures.1 in
    rw (reported.1, reported.2) (unanswered (problem_by Lead c.args.circuit.now c.args.inquiry.admit.now) c.in_err-kept.field-0.0 c.in_err-kept.ensures.fault)

pub returns-in_err-found-clause-refusal : goal.returns-in_err-found-clause-refusal
returns-in_err-found-clause-refusal g c =
    let reported = err_from_is_err_and c.from_residual-in_err-found.result c.from_residual-in_err-found.ensures.1 in
    rw (reported.1, reported.2) (unanswered (problem_by (tree_of c.method_of.result) c.args.circuit.now c.args.inquiry.admit.now) c.in_err-found.field-0.0 c.in_err-found.ensures.fault)

pub returns-then-not-is_empty-clause-found : goal.returns-then-not-is_empty-clause-found
returns-then-not-is_empty-clause-found g c =
    let given = setting c.args.circuit.now in
    let asking : Asking = record { admit = c.args.inquiry.admit.now; keep = c.args.inquiry.keep.now } in
    let answer = c.in_ok-kept.kept.answer in
    rw c.in_ok-seen.ensures
    (true_sighting given asking c.args.inquiry.search.now.shown.vectors (kept_found answer) (kept_pair answer)
    (true_kept given asking answer c.in_ok-kept.ensures.answer) (kept_shown given asking answer c.in_ok-kept.ensures.answer))

pub returns-clause-found : goal.returns-clause-found
returns-clause-found g c =
    let given = setting c.args.circuit.now in
    let admit = c.args.inquiry.admit.now in
    let asks = c.args.inquiry.search.now.shown.vectors in
    let answer = c.in_ok-found.found.answer in
    let problem = problem_by (tree_of c.method_of.result) c.args.circuit.now admit in
    let budget = c.args.inquiry.limits.effort.budget in
    let sound = outcome_by c.method_of.result _ budget answer c.in_ok-found.ensures.answer in
    let seen = true_sighting given (all_admitted admit) asks (found_of answer) (Some (pair_in answer)) (true_found problem budget answer sound)
    (answer_shown problem budget answer sound) in
    rw c.in_ok-shown.ensures
    (subst (λ (keep : List NamedCondition). IsTrueSighting asks given (record { admit = admit; keep = keep }) (sighted asks (found_of answer) (Some (pair_in answer))))
    (sym (no_rows c.args.inquiry.keep.now (eqb-true _ _ (sym c.is_empty.ensures ∙ c.if-not-is_empty.false)))) seen)
