use Rattle.std.proofs.Common.{◌≡◌, map, take}
use Rattle.td_run.specs.Keeping.{first_end}
use Rattle.td_run.proofs.kept.first_ends.Given as goal

abbrev pub invariant-loop-is_wanted : goal.invariant-loop-is_wanted
invariant-loop-is_wanted l = l.ends.items ≡ map (first_end l.gates) (take l.is_wanted-index l.wanted)
