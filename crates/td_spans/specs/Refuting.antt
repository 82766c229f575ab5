-- Refuting: what the state of a refutation by spans says of the pairs of a cube that are asked about.
use Rattle.std.specs.Prelude.{◌≡◌, ℕ, ◌≤◌, Bool, List, length, map}
use Rattle.td_gates.specs.Table.{level_from}
use Rattle.td_gates.specs.Wave.{Wave}
use Rattle.td_nets.specs.Netlist.{Net}
use Rattle.td_circuit.specs.Numbering.{Numbered, nets, setting}
use Rattle.td_circuit.specs.Run.{Runs}
use Rattle.td_domain.specs.declared.cubes.Trit.{Trit}
use Rattle.td_domain.specs.Pairs.{Pair}
use Rattle.td_domain.specs.Cubes.{IsIn}
use Rattle.td_spans.specs.Conditions.{Asked, IsAskedFor}
use Rattle.td_propagation.specs.declared.literal.Literal.{Literal}
use Rattle.td_propagation.specs.Following.{AreTrue}
use Rattle.td_spans.specs.Timing.{level_bits}
use Rattle.td_spans.specs.declared.times.Times.{Times}
use Rattle.td_spans.specs.declared.variable.Variable.{Variable}
use Rattle.td_spans.specs.Times.{AreAllTimes}
use Rattle.td_spans.specs.Sayings.{AreMeant}

-- each net ends at some level, the times are right for the run, and the clauses are true of it, where
-- each variable is what it means
pub record IsTrueOf (variables : List Variable) (level : ℕ → ℕ → Bool) (times : List Times) (clauses : List (List Literal)) : Type 0 where
  pub final : ℕ → Bool
  pub ends : (net n : ℕ) → (late : ℕ) × (n ≤ late) × (level net late ≡ final net)
  pub right : AreAllTimes times level final
  pub valuation : ℕ → Bool
  pub meant : AreMeant level final variables valuation
  pub true : AreTrue valuation clauses

-- The times are right for each run of each pair of the cube that is asked about, and the clauses are
-- true of it.
abbrev pub Refutes : Numbered → Asked → List Trit → List Variable → List Times → List (List Literal) → Type 0
Refutes circuit asked cube variables times clauses = (pair : Pair) (waves : Net → Wave) → IsAskedFor circuit asked pair → IsIn pair cube
    → Runs (setting circuit) (map level_from pair.first) (map level_from pair.second) waves
    → (length times ≡ length (nets circuit)) × IsTrueOf variables (level_bits circuit waves) times clauses
