use Rattle.std.proofs.lemmas.Result.{on_ok_weaker}
use Rattle.td_lines.proofs.Steps.{adds_more}
use Rattle.td_lines.proofs.asked.head.Goals as goal

pub returns : goal.returns
returns c =
    on_ok_weaker c.object_of.result
    (λ question. adds_more _ _ (adds_more _ _ c.in_ok-word.ensures (rw c.text.ensures at c.in_ok-word-2.ensures)) question)
    c.object_of.ensures
