use Rattle.std.proofs.Common.{◌≡◌, ◌++◌, map, take}
use Rattle.td_question.specs.KeepLines.{quote_in, word_quote}
use Rattle.td_question.proofs.keeping.push_words.Given as goal

-- the words so far
abbrev pub invariant-loop-word : goal.invariant-loop-word
invariant-loop-word l =
    map quote_in l.quotes.items ≡ map quote_in l.fn.quotes.items ++ map word_quote (map (λ word. word.now) (take l.word-index l.words))
