use Rattle.std.proofs.Common.{ℕ, Option, sym, subst}
use Rattle.std.proofs.lemmas.Option.{none-some}
use Rattle.td_lines.specs.declared.line.Found.{Found}
use Rattle.td_answer.specs.Columns.{pairs_of}
use Rattle.td_answer.specs.Findings.{IsTrueFound}
use Rattle.td_answer.specs.Outlooks.{shown}
use Rattle.td_answer.specs.Sightings.{HasFigure, shown_by}
use Rattle.td_answer.specs.Tables.{IsTrueBound}
use Rattle.td_answer.proofs.outlook.unsearched.Goals as goal

pub returns-in-None-clause-found : goal.returns-in-None-clause-found
returns-in-None-clause-found c = λ given found outlook is. absurd (none-some found is)

pub returns-in-None-clause-pair : goal.returns-in-None-clause-pair
returns-in-None-clause-pair c = λ given found outlook is. absurd (none-some found is)

pub returns-in-Some-clause-found : goal.returns-in-Some-clause-found
returns-in-Some-clause-found c = λ given found outlook is.
    subst (λ (it : Found). IsTrueFound given (pairs_of c.args.inquiry) it) (sym (c.chosen.ensures found is))
    (c.figure-found.ensures.found given c.args.inquiry.admit.now (subst (λ (e : Option ℕ). IsTrueBound given c.args.inquiry.admit.now e) c.in-Some.is outlook.bound) outlook.low)

pub returns-in-Some-clause-pair : goal.returns-in-Some-clause-pair
returns-in-Some-clause-pair c = λ given found outlook is.
    subst (λ (it : Found). HasFigure given (pairs_of c.args.inquiry) it (shown_by it (shown c.args.outlook.pair))) (sym (c.chosen.ensures found is))
    (c.figure-found.ensures.pair given c.args.inquiry.admit.now (shown c.args.outlook.pair) outlook.pair)
