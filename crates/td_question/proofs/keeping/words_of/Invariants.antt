use Rattle.std.proofs.Common.{◌≡◌, map, take}
use Rattle.td_inputs.specs.Scans.{taken_in}
use Rattle.td_question.specs.Keeping.{keep_texts}
use Rattle.td_question.proofs.keeping.words_of.Given as goal

-- the words of conditions so far
abbrev pub invariant-loop-taken : goal.invariant-loop-taken
invariant-loop-taken l = map (λ word. word.now) l.words.items ≡ keep_texts (map taken_in (take l.taken-index l.named))
