-- Refuting: what a refutation says of the pairs of a cube that are asked about.
use Rattle.std.specs.Prelude.{ℕ, ◌≤◌, List}
use Rattle.td_circuit.specs.Settings.{Setting}
use Rattle.td_circuit.specs.Run.{IsDelayOfBits}
use Rattle.td_domain.specs.declared.cubes.Trit.{Trit}
use Rattle.td_domain.specs.Pairs.{Pair}
use Rattle.td_domain.specs.Cubes.{IsIn}
use Rattle.td_refutation.specs.Asking.{Asking, IsAskedAbout}
pub use Rattle.td_refutation.specs.Asking.{all_admitted}

-- no pair of the cube that is asked about has a greater delay
abbrev pub IsUpperBoundOf : Setting → Asking → List Trit → ℕ → Type 0
IsUpperBoundOf setting asking cube moment = (pair : Pair) (delay : ℕ) → IsAskedAbout setting.netlist asking pair → IsIn pair cube
    → IsDelayOfBits setting pair.first pair.second delay → delay ≤ moment

-- no pair that is asked about lies in the cube
abbrev pub HasNoPair : Setting → Asking → List Trit → Type 0
HasNoPair setting asking cube = (pair : Pair) → IsAskedAbout setting.netlist asking pair → IsIn pair cube → ⊥
