use Rattle.std.proofs.Common.{◌≡◌, take}
use Rattle.std.specs.List.{flat_map}
use Rattle.td_refutation.specs.Asking.{condition_in}
use Rattle.td_refutation.proofs.conditions.conditions_in.Given as goal

abbrev pub invariant-loop-condition : goal.invariant-loop-condition
invariant-loop-condition l = l.conditions.items ≡ flat_map (condition_in l.circuit) (take l.condition-index l.keep)
