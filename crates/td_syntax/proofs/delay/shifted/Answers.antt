use Rattle.std.proofs.Common.{refl, inl, get_or, drop, subst, suc, drop-cons, add-one}
use Rattle.td_syntax.proofs.Values.{Shifts, skips_if, shifts_if, drops_if}
use Rattle.td_syntax.proofs.delay.shifted.Goals as goal
use Rattle.td_syntax.proofs.delay.shifted.Goals.{then-digit-ne95+then-left-gt0, then-digit-ne95+else-left-gt0+else-digit-ne48, else-digit-ne95}

pub loop-digit-init : goal.loop-digit-init
loop-digit-init c = record { within = c.requires; zeros = refl; alike = inl refl }

pub loop-digit-preserved : goal.loop-digit-preserved
loop-digit-preserved c =
    let ds = c.args.fraction.now in
    let i = c.loop-digit.digit-index in
    let v = c.loop-digit.longer in
    let left = c.loop-digit.left in
    let h = subst (λ (xs : _). Shifts v left xs c.args.value c.args.tens ds) (drop-cons ds i 0 c.loop-digit-test.true) c.loop-digit.invariant in
    rw add-one (elim c.if-digit-ne95.branch [
      | then-digit-ne95+then-left-gt0 w ↦
          shifts_if v left (get_or ds i 0) (drop (suc i) ds) c.args.value c.args.tens ds w.with_digit-longer.result _ _ w.if-digit-ne95.true w.if-left-gt0.true w.with_digit-longer.ensures w.longer-is w.left-is h
      | then-digit-ne95+else-left-gt0+else-digit-ne48 w ↦
          drops_if v left (get_or ds i 0) (drop (suc i) ds) c.args.value c.args.tens ds _ _ w.if-digit-ne95.true w.if-left-gt0.false w.if-digit-ne48.false w.longer-is w.left-is h
      | else-digit-ne95 w ↦ skips_if v left (get_or ds i 0) (drop (suc i) ds) c.args.value c.args.tens ds _ _ w.if-digit-ne95.false w.longer-is w.left-is h
    ])
