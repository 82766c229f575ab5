use Rattle.std.proofs.Common.{◌≡◌, ◌<◌, ℕ, Some}
use Rattle.std.specs.Prelude.{slice_get}
use Rattle.td_domain.specs.declared.cubes.Trit.TheVariants.{Free}
use Rattle.td_join.specs.Joining.{AreKnownAt}
use Rattle.td_join.specs.Steps.{certificates_of}
use Rattle.td_join.proofs.parts.common_position.Given as goal

abbrev pub invariant-loop-position : goal.invariant-loop-position
invariant-loop-position l = (position : ℕ) → position < l.position → slice_get l.group.cube position ≡ Some Free
    → ¬ AreKnownAt position (certificates_of l.group.parts.items)
