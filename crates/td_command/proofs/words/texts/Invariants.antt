use Rattle.std.proofs.Common.{◌≡◌, map, take}
use Rattle.td_command.proofs.words.texts.Given as goal

abbrev pub invariant-loop-word : goal.invariant-loop-word
invariant-loop-word g l = map (λ word. word.now) l.all.items ≡ map g.S.AsStr.text (take l.word-index l.words)
