-- How often a climb tries.
use Rattle.std.specs.Prelude.{ℕ, ◌/◌, min, max}

-- in a circuit with this number of gates
abbrev pub tries_of : ℕ → ℕ
tries_of gates = min 40000 (40000000 / max gates 1)
