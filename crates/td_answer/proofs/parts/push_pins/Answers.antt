use Rattle.std.proofs.lemmas.Result.{on_ok_weaker}
use Rattle.td_answer.proofs.Adding.{two_appended}
use Rattle.td_answer.proofs.parts.push_pins.Goals as goal

pub returns : goal.returns
returns c =
    on_ok_weaker c.push_option-2.result
    (two_appended c.args.words.now.items _ _ _ _ (rw (c.deref.ensures, c.in_ok-first.ensures) at c.in_ok-push_option.ensures))
    (rw (c.deref-2.ensures, c.in_ok-second.ensures) at c.push_option-2.ensures)
