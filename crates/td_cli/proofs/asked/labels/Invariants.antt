use Rattle.std.proofs.Common.{◌≡◌, map, take}
use Rattle.td_cli.proofs.asked.labels.Given as goal

abbrev pub invariant-loop-name : goal.invariant-loop-name
invariant-loop-name l = l.labels.items ≡ map (λ name. name.now) (take l.name-index l.names)
