use Rattle.std.proofs.Common.{get_or, drop, subst, suc, add-one, drop-cons}
use Rattle.std.proofs.lemmas.List.{drop_all}
use Rattle.std.specs.List.{fold}
use Rattle.td_syntax.specs.Grammar.{with_digit, decimal_value}
use Rattle.td_syntax.proofs.Values.{Alike, goes, ends}
use Rattle.td_syntax.proofs.delay.decimal_value.Goals as goal

pub loop-digit-preserved : goal.loop-digit-preserved
loop-digit-preserved c =
    let ds = c.args.digits.now in
    let i = c.loop-digit.digit-index in
    rw add-one (goes c.loop-digit.value (decimal_value ds) (get_or ds i 0) (drop (suc i) ds) c.with_digit-value.result c.with_digit-value.ensures
    (subst (λ (xs : _). Alike (fold with_digit c.loop-digit.value xs) (decimal_value ds)) (drop-cons ds i 0 c.loop-digit-test.true) c.loop-digit.invariant.1))

pub returns : goal.returns
returns c =
    let ds = c.args.digits.now in
    ends _ (decimal_value ds) c.loop-digit.invariant.0 (subst (λ (xs : _). Alike (fold with_digit c.loop-digit.value xs) (decimal_value ds)) (drop_all c.loop-digit.digit-index ds c.loop-digit-test.false) c.loop-digit.invariant.1)
