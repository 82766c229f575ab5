use Rattle.std.proofs.Common.{◌∙◌}
use Rattle.td_syntax.specs.Grammar.{fraction_digits, decimal_value}
use Rattle.td_syntax.specs.Views.{numeral_view}
use Rattle.td_syntax.proofs.Values.{steps_as}
use Rattle.td_syntax.proofs.delay.steps_of.Goals as goal

pub returns-clause-fine : goal.returns-clause-fine
returns-clause-fine c =
    let number = numeral_view c.args.number in
    steps_as c.from-whole.result (decimal_value number.whole) c.in_ok-steps.steps c.args.tens _ (fraction_digits number.fraction) c.fraction_of.ensures (c.from-whole.ensures ∙ c.decimal_value.ensures) c.in_ok-steps.ensures.fine
