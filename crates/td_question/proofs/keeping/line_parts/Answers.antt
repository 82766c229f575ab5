use Rattle.std.proofs.Common.{◌-◌, ◌<◌, ◌≢◌, ℕ, length, arith, sym}
use Rattle.std.proofs.lemmas.Bool.{eqb-false, eqb-true}
use Rattle.std.proofs.lemmas.Str.Ascii.{trim_ascii_end_is}
use Rattle.td_question.proofs.KeepWords.{no_fields, some_fields, unnamed, unparted}
use Rattle.td_question.proofs.keeping.line_parts.Goals.{then-is_empty-via-then-is_empty, then-is_empty-via-else-is_empty+then-not-is_ascii_whitespace}
use Rattle.td_question.proofs.keeping.line_parts.Goals as goal

more : (n : ℕ) → n ≢ 0 → 0 < n
more n some = omega (arith, some)

pub returns-then-is_empty-clause-none : goal.returns-then-is_empty-clause-none
returns-then-is_empty-clause-none c name form has = elim c.then-is_empty.branch [
  | then-is_empty-via-then-is_empty w ↦
      unnamed c.args.line.now c.trim_ascii_end-name.result.now (length c.args.line.now - 3) (omega (arith, c.in-len3-up.len_at_least))
      (trim_ascii_end_is _ _ c.trim_ascii_end-name.ensures.value) (eqb-true _ 0 (sym w.if-is_empty.ensures)) name form has
  | then-is_empty-via-else-is_empty+then-not-is_ascii_whitespace w ↦
      unparted c.args.line.now (length c.args.line.now - 3) _ (omega (arith, c.in-len3-up.len_at_least)) (sym w.if-not-is_ascii_whitespace.ensures.value) name form has
]

pub returns-in_err-form-in-len3-up-clause-none : goal.returns-in_err-form-in-len3-up-clause-none
returns-in_err-form-in-len3-up-clause-none c =
    rw c.from_residual.ensures (no_fields c.args.line.now (length c.args.line.now - 3) (length c.args.line.now - 2) (length c.args.line.now - 1) _ _
    (omega (arith, c.in-len3-up.len_at_least)) (omega (arith, c.in-len3-up.len_at_least)) (omega (arith, c.in-len3-up.len_at_least)) c.in_err-form-in-len3-up.ensures.none)

pub returns-in_ok-form-in-len3-up-clause-some : goal.returns-in_ok-form-in-len3-up-clause-some
returns-in_ok-form-in-len3-up-clause-some c =
    some_fields c.args.line.now c.trim_ascii_end-name.result.now c.in_ok-form-in-len3-up.form (length c.args.line.now - 3) (length c.args.line.now - 2)
    (length c.args.line.now - 1) _ _ _ (omega (arith, c.in-len3-up.len_at_least)) (omega (arith, c.in-len3-up.len_at_least)) (omega (arith, c.in-len3-up.len_at_least))
    (trim_ascii_end_is _ _ c.trim_ascii_end-name.ensures.value) (more _ (eqb-false _ 0 (sym c.if-is_empty.ensures)))
    (sym c.if-not-is_ascii_whitespace.ensures.value) c.in_ok-form-in-len3-up.ensures.some
