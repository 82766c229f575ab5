use Rattle.std.proofs.Common.{map, take}
use Rattle.td_question.specs.Choosing.{AreAllIn}
use Rattle.td_question.proofs.Choices.{now_of}
use Rattle.td_question.proofs.chosen.names_of.Given as goal

-- the names of the words so far
abbrev pub invariant-loop-word : goal.invariant-loop-word
invariant-loop-word l = AreAllIn (map now_of (take l.word-index l.words)) l.names
