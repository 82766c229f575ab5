use Rattle.std.proofs.Common.{◌∙◌, sym, arith}
use Rattle.std.proofs.lemmas.Bool.{eqb-false, eqb-true}
use Rattle.td_certificate.proofs.Batches.{none_listed, listed_pushed}
use Rattle.td_certificate.proofs.writing.push_listed.Goals as goal

pub returns-then-is_empty : goal.returns-then-is_empty
returns-then-is_empty c =
    none_listed c.args.word.now c.args.listed.now _ _ _ (eqb-true _ _ (sym c.is_empty.ensures ∙ c.if-is_empty.true)) c.in_ok-push_str.ensures.bytes c.in_ok-push_str-2.ensures.bytes

pub returns : goal.returns
returns c =
    listed_pushed c.args.word.now c.args.listed.now c.loop-number.number-index _ _ _ (eqb-false _ _ (sym c.is_empty.ensures ∙ c.if-is_empty.false)) (omega arith) c.loop-number.invariant c.in_ok-push_str-3.ensures.bytes
