use Rattle.std.proofs.Common.{ℕ, List, ◌++◌, ap, ◌∙◌, arith}
use Rattle.std.proofs.lemmas.Result.{on_ok_weaker}
use Rattle.td_vcd.proofs.Numerals.{numeral_is}
use Rattle.td_vcd.proofs.batch.Batch.digits.Goals as goal

pub returns : goal.returns
returns c = on_ok_weaker c.push.result
    (λ is. is ∙ ap (λ (ds : List ℕ). c.args.self.now ++ ds) (c.as_bytes.ensures.value ∙ c.format.ensures.text ∙ numeral_is c.args.number (omega arith)))
    c.push.ensures
