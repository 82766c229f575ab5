-- Timed: what the levels of a run are, by number and place.
use Rattle.std.specs.Prelude.{◌≡◌, ℕ, ◌+◌, ◌*◌, ◌<◌, ◌≤◌, Bool, true, false, List, length, map, slice_get, Some}
use Rattle.std.specs.List.{AllByRecursion}
use Rattle.td_gates.specs.declared.timing.Delay.{Delay}
use Rattle.td_gates.specs.Delays.{IsInRange}
use Rattle.td_gates.specs.Table.{table, level_from, TakesInputs}
use Rattle.td_gates.proofs.Delays.{IsDelayed}
use Rattle.td_circuit.specs.Numbering.{NumberedGate, Numbered, first_output}
use Rattle.td_domain.specs.declared.cubes.Trit.{Trit}
use Rattle.td_domain.specs.Pairs.{Pair}
use Rattle.td_domain.specs.Cubes.{Allows}
use Rattle.td_spans.specs.Targets.{target_levels}

-- An output that follows a target by a delay, as levels by place.
abbrev pub Follows : (ℕ → Bool) → Delay → (ℕ → Bool) → Type 0
Follows target delay output = IsDelayed (λ n. level_from (target n)) delay (λ n. level_from (output n))

-- an input's levels in the run of a pair: one bit until its moment, and another after it
pub record IsInput (pair : Pair) (input : ℕ) (p q : Trit) (moment : ℕ) (levels : ℕ → Bool) : Type 0 where
  pub a : Bool
  pub b : Bool
  pub at_a : slice_get pair.first input ≡ Some a
  pub at_b : slice_get pair.second input ≡ Some b
  pub first : Allows p a
  pub second : Allows q b
  pub early : (n : ℕ) → n ≤ moment → levels n ≡ a
  pub late : (n : ℕ) → moment < n → levels n ≡ b

-- a gate at a net
pub record IsGate (gate : NumberedGate) (level : ℕ → ℕ → Bool) (net : ℕ) (target : ℕ → Bool) : Type 0 where
  pub fits : IsInRange gate.delay
  pub takes : TakesInputs gate.kind (length gate.inputs)
  pub lower : AllByRecursion (λ n. n < net) gate.inputs
  pub is_table : (n : ℕ) → table gate.kind (map (λ input. level_from (level input n)) gate.inputs) ≡ level_from (target n)
  pub is_target : target ≡ target_levels gate.kind (map level gate.inputs)
  pub follows : Follows target gate.delay (level net)

-- the levels and targets of the run of a pair of a cube
pub record IsTimed (circuit : Numbered) (cube : List Trit) (pair : Pair) (level target : ℕ → ℕ → Bool) : Type 0 where
  pub low : (n : ℕ) → level 0 n ≡ false
  pub high : (n : ℕ) → level 1 n ≡ true
  pub inputs : (i : ℕ) → i < length circuit.netlist.inputs → (p q : Trit) (moment : ℕ) → slice_get cube (2 * i) ≡ Some p → slice_get cube (2 * i + 1) ≡ Some q
      → slice_get circuit.moments i ≡ Some moment → IsInput pair i p q moment (level (2 + i))
  pub gates : (place : ℕ) (gate : NumberedGate) → slice_get circuit.gates place ≡ Some gate
      → IsGate gate level (first_output circuit + place) (target (first_output circuit + place))
