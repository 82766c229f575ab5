use Rattle.td_question.specs.Found.{IsKeptTo}
use Rattle.td_question.proofs.rising.once.Given as goal

-- the conditions so far, each once
abbrev pub invariant-loop-condition : goal.invariant-loop-condition
invariant-loop-condition l = IsKeptTo l.sorted l.condition-index l.kept.items
