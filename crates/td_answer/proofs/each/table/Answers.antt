use Rattle.std.proofs.Common.{◌∙◌, length, inr, sym, ap, subst}
use Rattle.std.specs.List.{AllZip}
use Rattle.std.proofs.lemmas.Result.{err_from_is_err_and}
use Rattle.td_circuit.specs.Numbering.{setting}
use Rattle.td_circuit.specs.Settings.{Setting}
use Rattle.td_source.specs.Each.{alone}
use Rattle.td_search.specs.declared.strategy.Strategy.TheVariants.{Least}
use Rattle.td_search.specs.Problems.{problem_by}
use Rattle.td_question.proofs.Questions.{asked_held}
use Rattle.td_answer.specs.Outlooks.{IsTrueOutlook}
use Rattle.td_answer.specs.declared.refusal.Refusal.TheVariants as refusal
use Rattle.td_answer.proofs.EachOne.{refused_each}
use Rattle.td_answer.proofs.each.table.Goals as goal

pub sample_of-requires : goal.sample_of-requires
sample_of-requires g c =
    asked_held c.args.text.now c.args.reading.now c.args.search.now.question (setting c.in_ok-circuit.field-0.circuit) c.in_ok-circuit.field-0.admit c.in_ok-circuit.ensures.asked

pub outlooks-requires-clause-held : goal.outlooks-requires-clause-held
outlooks-requires-clause-held g c =
    asked_held c.args.text.now c.args.reading.now c.args.search.now.question (setting c.in_ok-circuit.field-0.circuit) c.in_ok-circuit.field-0.admit c.in_ok-circuit.ensures.asked

pub rows-requires-clause-held : goal.rows-requires-clause-held
rows-requires-clause-held g c κs lives =
    asked_held c.args.text.now c.args.reading.now c.args.search.now.question (setting c.in_ok-circuit.field-0.circuit) c.in_ok-circuit.field-0.admit c.in_ok-circuit.ensures.asked
    ∙ ap (λ (s : Setting). length s.netlist.inputs) (sym c.in_ok-outputs.ensures)

pub returns-in_err-rows-clause-refusal : goal.returns-in_err-rows-clause-refusal
returns-in_err-rows-clause-refusal g c =
    let reported = err_from_is_err_and c.from_residual-in_err-rows.result c.from_residual-in_err-rows.ensures.1 in
    rw (reported.1, reported.2) (refused_each c.args.text.now c.args.reading.now c.args.search.now (setting c.in_ok-circuit.field-0.circuit)
    (record { admit = c.in_ok-circuit.field-0.admit; keep = c.in_ok-circuit.field-0.keep.items })
    _ (record { asked = c.in_ok-circuit.ensures.asked; keep = c.in_ok-circuit.ensures.keep }) c.in_err-rows.ensures.refusal)

pub rows-requires-clause-outlooks : goal.rows-requires-clause-outlooks
rows-requires-clause-outlooks g c κs lives =
    rw c.deref-2.ensures.value (subst (λ (s : Setting). AllZip (λ output. IsTrueOutlook (alone s output) c.in_ok-circuit.field-0.admit) s.netlist.outputs c.in_ok-outlooks.outlooks.items)
    (sym c.in_ok-outputs.ensures) c.in_ok-outlooks.ensures.outlooks)

pub returns-in_err-outlooks-clause-refusal : goal.returns-in_err-outlooks-clause-refusal
returns-in_err-outlooks-clause-refusal g c =
    let reported = err_from_is_err_and c.from_residual-in_err-outlooks.result c.from_residual-in_err-outlooks.ensures.1 in
    rw (reported.1, reported.2) (refused_each c.args.text.now c.args.reading.now c.args.search.now (setting c.in_ok-circuit.field-0.circuit)
    (record { admit = c.in_ok-circuit.field-0.admit; keep = c.in_ok-circuit.field-0.keep.items })
    (refusal.Search c.in_err-outlooks.field-0.0) (record { asked = c.in_ok-circuit.ensures.asked; keep = c.in_ok-circuit.ensures.keep }) c.in_err-outlooks.ensures.fault)

pub returns-clause-reported : goal.returns-clause-reported
returns-clause-reported g c =
    let problem = problem_by Least c.in_ok-circuit.field-0.circuit c.in_ok-circuit.field-0.admit in
    inr (problem, c.in_ok-circuit.ensures.asked, c.in_ok-rows.ensures.reported problem)

pub returns-clause-heard : goal.returns-clause-heard
returns-clause-heard g c = (
  c.in_ok-rows.rows.items,
  _,
  c.in_ok-push_rows.ensures.0,
  c.in_ok-push_rows.ensures.2,
  c.in_ok-push_rows.ensures.1,
  c.in_ok-rows.ensures.heard,
)

pub returns-in_err-rows-clause-reported : goal.returns-in_err-rows-clause-reported
returns-in_err-rows-clause-reported g c =
    let problem = problem_by Least c.in_ok-circuit.field-0.circuit c.in_ok-circuit.field-0.admit in
    inr (problem, c.in_ok-circuit.ensures.asked, c.in_err-rows.ensures.reported problem)

pub returns-in_err-push_rows-clause-reported : goal.returns-in_err-push_rows-clause-reported
returns-in_err-push_rows-clause-reported g c =
    let problem = problem_by Least c.in_ok-circuit.field-0.circuit c.in_ok-circuit.field-0.admit in
    inr (problem, c.in_ok-circuit.ensures.asked, c.in_ok-rows.ensures.reported problem)

pub returns-in_err-push_rows-clause-refusal : goal.returns-in_err-push_rows-clause-refusal
returns-in_err-push_rows-clause-refusal g c =
    let reported = err_from_is_err_and c.from_residual-in_err-push_rows.result c.from_residual-in_err-push_rows.ensures.1 in
    rw (reported.1, reported.2) tt
