use Rattle.td_answer.specs.Refusals.{unread_text}
use Rattle.td_answer.proofs.sentence.unread.Goals as goal

pub returns : goal.returns
unfolding unread_text
returns c = c.word_behind.ensures
