use Rattle.std.proofs.Common.{◌≡◌, ◌++◌, ℕ, List, map, take}
use Rattle.std.specs.Borrow.{Bor}
use Rattle.td_inputs.specs.Placings.{texts_of}
use Rattle.td_inputs.proofs.words.push_words.Given as goal

-- the words so far
abbrev pub invariant-loop-word : goal.invariant-loop-word
invariant-loop-word l = texts_of l.all.items ≡ texts_of l.initial.all.items ++ map (λ (word : Bor (List ℕ)). word.now) (take l.word-index l.words)
