use Rattle.std.proofs.Common.{map, ap, take_all, subst, List, ℕ}
use Rattle.std.specs.Borrow.{Bor}
use Rattle.td_question.specs.Choosing.{AreAllIn}
use Rattle.td_question.proofs.Choices.{now_of, names_more}
use Rattle.td_question.proofs.chosen.names_of.Goals as goal

pub loop-word-preserved : goal.loop-word-preserved
loop-word-preserved c =
    names_more c.args.words.now c.loop-word.names c.add.new.self c.loop-word.word-index _ c.loop-word-test.true c.loop-word.invariant
    c.in_ok-add.ensures.kept (rw c.as_bytes.ensures.value at c.in_ok-add.ensures.added)

pub returns : goal.returns
returns c =
    subst (λ (ws : List (Bor (List ℕ))). AreAllIn (map now_of ws) c.loop-word.names)
    (take_all c.loop-word.word-index c.args.words.now c.loop-word-test.false) c.loop-word.invariant
