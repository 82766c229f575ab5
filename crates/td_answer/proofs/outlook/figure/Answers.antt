use Rattle.std.proofs.Common.{◌∙◌, List, refl, sym, subst}
use Rattle.std.proofs.lemmas.Bool.{eqb-true}
use Rattle.td_refutation.specs.declared.conditions.NamedCondition.{NamedCondition}
use Rattle.td_refutation.specs.Asking.{all_admitted}
use Rattle.td_answer.specs.Findings.{IsTrueFound}
use Rattle.td_answer.specs.Sightings.{HasFigure, shown_by}
use Rattle.td_answer.proofs.Listing.{no_rows}
use Rattle.td_answer.proofs.Outlooks.{at_most}
use Rattle.td_answer.proofs.outlook.figure.Goals as goal

pub returns-then-not-is_empty-clause-found : goal.returns-then-not-is_empty-clause-found
returns-then-not-is_empty-clause-found c = λ given admit bound low. at_most given admit c.args.high bound c.args.keep.now

pub returns-then-not-is_empty-clause-pair : goal.returns-then-not-is_empty-clause-pair
returns-then-not-is_empty-clause-pair c = λ given admit pair low. refl

pub returns-in-None-clause-found : goal.returns-in-None-clause-found
returns-in-None-clause-found c = λ given admit bound low. at_most given admit c.args.high bound c.args.keep.now

pub returns-in-None-clause-pair : goal.returns-in-None-clause-pair
returns-in-None-clause-pair c = λ given admit pair low. refl

pub returns-in-Some-clause-found : goal.returns-in-Some-clause-found
returns-in-Some-clause-found c = λ given admit bound low.
    subst (λ (keep : List NamedCondition). IsTrueFound given (record { admit = admit; keep = keep }) c.closer.result)
    (sym (no_rows c.args.keep.now (eqb-true _ _ (sym c.is_empty.ensures ∙ c.if-not-is_empty.false))))
    (c.closer.ensures.found given admit bound (λ moment same. low moment (c.in-Some.is ∙ same)))

pub returns-in-Some-clause-pair : goal.returns-in-Some-clause-pair
returns-in-Some-clause-pair c = λ given admit pair low.
    subst (λ (keep : List NamedCondition). HasFigure given (record { admit = admit; keep = keep }) c.closer.result (shown_by c.closer.result pair))
    (sym (no_rows c.args.keep.now (eqb-true _ _ (sym c.is_empty.ensures ∙ c.if-not-is_empty.false))))
    (c.closer.ensures.pair given (all_admitted admit) pair (low c.in-Some.low c.in-Some.is))
