use Rattle.std.proofs.Common.{◌∙◌, sym}
use Rattle.std.proofs.lemmas.Bool.{eqb-false, eqb-true}
use Rattle.std.proofs.lemmas.Result.{on_ok_weaker}
use Rattle.td_lines.specs.declared.line.Line.TheVariants as line
use Rattle.td_answer.proofs.Listing.{none, some}
use Rattle.td_answer.proofs.moments.push_lasts.Goals as goal

pub returns-then-is_empty : goal.returns-then-is_empty
returns-then-is_empty c =
    none (λ rows. line.Lasts rows) c.args.rows.items c.args.report.now
    (sym c.args.rows.ok.0 ∙ eqb-true _ _ (sym c.is_empty.ensures ∙ c.if-is_empty.true))

pub returns : goal.returns
returns c =
    on_ok_weaker c.add.result
    (some (λ rows. line.Lasts rows) c.args.rows c.args.report.now c.add.new.self
    (λ none. eqb-false _ _ (sym c.is_empty.ensures ∙ c.if-is_empty.false) (c.args.rows.ok.0 ∙ none)))
    c.add.ensures
