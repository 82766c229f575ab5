use Rattle.td_question.proofs.Conditions.{texts_more}
use Rattle.td_question.proofs.keeping.words_of.Goals as goal

pub loop-taken-preserved : goal.loop-taken-preserved
loop-taken-preserved c =
    texts_more c.args.named.now c.loop-taken.taken-index _ _ _ c.loop-taken-test.true c.in_ok-push_word.ensures c.loop-taken.invariant
