use Rattle.std.proofs.Common.{◌≡◌, map, drop}
use Rattle.td_inputs.specs.Readings.{has}
use Rattle.td_inputs.specs.Scans.{taken_in}
use Rattle.td_inputs.proofs.sayings.has.Given as goal

-- whether it is among the rest
abbrev pub invariant-loop-word : goal.invariant-loop-word
invariant-loop-word l = has l.topic (map taken_in (drop l.word-index l.taken)) ≡ has l.topic (map taken_in l.taken)
