use Rattle.std.specs.Prelude.{string_bytes}
use Rattle.std.proofs.lemmas.Result.{on_ok_weaker}
use Rattle.td_certificate.proofs.ConditionWords.{some_pushed}
use Rattle.td_certificate.proofs.condition_words.push_some.Goals as goal

pub returns : goal.returns
returns c =
    on_ok_weaker c.push_others.result (some_pushed c.args.first c.args.others.now (string_bytes c.args.text.now) _ _ c.in_ok-push_condition.ensures)
    c.push_others.ensures
