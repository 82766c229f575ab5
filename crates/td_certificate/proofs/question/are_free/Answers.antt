use Rattle.std.proofs.Common.{refl, sym, ap, ◌∙◌, arith}
use Rattle.std.specs.List.{list_all}
use Rattle.std.proofs.lemmas.List.{take_all}
use Rattle.std.proofs.lemmas.List.Folds.{list_all_more, list_all_at}
use Rattle.std.proofs.lemmas.Option.{get_or_from_slice_get}
use Rattle.td_certificate.specs.Questions.{is_free}
use Rattle.td_certificate.proofs.question.are_free.Goals as goal

pub returns-then-not-is_free : goal.returns-then-not-is_free
returns-then-not-is_free c =
    sym (list_all_at is_free c.args.pins.now c.loop-position.position c.trit.result (omega (arith, c.loop-position-test.true, c.len-position-end.ensures))
    (ap is_free (get_or_from_slice_get c.args.pins.now c.loop-position.position c.trit.result c.trit.result c.trit.ensures) ∙ sym c.if-not-is_free.ensures))

pub loop-position-preserved : goal.loop-position-preserved
loop-position-preserved c =
    rw (
      list_all_more is_free c.args.pins.now c.loop-position.position c.trit.result (omega (arith, c.loop-position-test.true, c.len-position-end.ensures)),
      get_or_from_slice_get c.args.pins.now c.loop-position.position c.trit.result c.trit.result c.trit.ensures,
      c.loop-position.invariant,
      sym c.is_free.ensures,
      c.if-not-is_free.false,
    ) refl

pub returns : goal.returns
returns c = sym (ap (list_all is_free) (sym (take_all c.loop-position.position c.args.pins.now (omega (arith, c.loop-position-test.false, c.len-position-end.ensures)))) ∙ c.loop-position.invariant)
