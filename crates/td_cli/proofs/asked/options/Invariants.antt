use Rattle.std.proofs.Common.{◌≡◌, map, take}
use Rattle.td_cli.specs.Asking.{taken_words}
use Rattle.td_cli.proofs.asked.options.Given as goal

abbrev pub invariant-loop-taken : goal.invariant-loop-taken
invariant-loop-taken l = map (λ named. (named.option, named.word)) l.options.items ≡ map taken_words (take l.taken-index l.named)
