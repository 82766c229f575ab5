use Rattle.td_question.proofs.Choices.{IsChosenTo}
use Rattle.td_question.proofs.chosen.nets_of.Given as goal

-- the nets of the words so far
abbrev pub invariant-loop-word : goal.invariant-loop-word
invariant-loop-word l = IsChosenTo l.circuit l.words l.word-index l.nets.items
