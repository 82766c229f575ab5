-- Bounds: what a refutation says of the pairs of a cube that are asked about.
use Rattle.std.specs.Prelude.{◌≡◌, ℕ, ◌≤◌, List, map, slice_get, Some}
use Rattle.td_gates.specs.Table.{level_from}
use Rattle.td_gates.specs.Wave.{Wave}
use Rattle.td_nets.specs.Netlist.{Net}
use Rattle.td_circuit.specs.Numbering.{Numbered, nets, setting}
use Rattle.td_circuit.specs.Run.{Runs, IsDelayOfBits}
use Rattle.td_domain.specs.declared.cubes.Trit.{Trit}
use Rattle.td_domain.specs.Pairs.{Pair}
use Rattle.td_domain.specs.Cubes.{IsIn}
use Rattle.td_domain.specs.Waves.{IsQuietAfter}
use Rattle.td_spans.specs.Conditions.{Asked, IsAskedFor}

-- no pair that is asked about has a greater delay
abbrev pub IsUpperBoundOf : Numbered → Asked → List Trit → ℕ → Type 0
IsUpperBoundOf circuit asked cube moment = (pair : Pair) (delay : ℕ) → IsAskedFor circuit asked pair → IsIn pair cube
    → IsDelayOfBits (setting circuit) pair.first pair.second delay → delay ≤ moment

-- in no run of a pair that is asked about one of these nets changes later
abbrev pub AreQuietAfter : Numbered → Asked → List Trit → List ℕ → ℕ → Type 0
AreQuietAfter circuit asked cube numbers moment = (pair : Pair) (waves : Net → Wave) → IsAskedFor circuit asked pair → IsIn pair cube
    → Runs (setting circuit) (map level_from pair.first) (map level_from pair.second) waves
    → (i number : ℕ) (net : Net) → slice_get numbers i ≡ Some number → slice_get (nets circuit) number ≡ Some net → IsQuietAfter moment (waves net)

-- no pair that is asked about lies in the cube
abbrev pub HasNone : Numbered → Asked → List Trit → Type 0
HasNone circuit asked cube = (pair : Pair) → IsAskedFor circuit asked pair → IsIn pair cube → ⊥
