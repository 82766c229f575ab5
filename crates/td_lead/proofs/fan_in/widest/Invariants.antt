use Rattle.std.proofs.Common.{◌≡◌, Some, IfSome}
use Rattle.std.specs.Prelude.{slice_get}
use Rattle.td_domain.specs.declared.cubes.Trit.TheVariants.{Free}
use Rattle.td_lead.proofs.fan_in.widest.Given as goal

abbrev pub invariant-loop-input : goal.invariant-loop-input
invariant-loop-input l = IfSome l.position (λ position. slice_get l.cube position ≡ Some Free)
