-- The variables of a dump of chosen nets.
use Rattle.std.specs.Prelude.{◌≡◌, ◌<◌, ℕ, List, [], map, length, None, Some, unwrap_or, slice_get, slice_index_or}
use Rattle.td_gates.specs.Wave.{Wave}
use Rattle.td_nets.specs.Netlist.{Name, Net, Low, High, Named}
use Rattle.td_circuit.specs.Numbering.{Numbered, nets}
use Rattle.td_run.specs.Waves.{AreWithin, constant}
use Rattle.td_run.specs.Keeping.{KeptWaves}
use Rattle.td_gates.specs.declared.primitives.Level.TheVariants.{X}
use Rattle.td_vcd.specs.Text.{named_dump}

-- the name of a net that is no constant
abbrev pub net_name : Net → Name
net_name (Named name) = name
net_name Low = record { text = []; bit = None }
net_name High = record { text = []; bit = None }

-- the names of the nets with these numbers
abbrev pub names_of : Numbered → List ℕ → List Name
names_of circuit numbers = map (λ number. net_name (slice_index_or (nets circuit) number Low)) numbers

-- the number of a net that is no constant
pub record IsNamed (circuit : Numbered) (number : ℕ) : Type 0 where
  pub above : 1 < number
  pub below : number < length (nets circuit)

-- there is room for a wave of each net of the circuit, and no kept one changes later than any run's
-- do
pub record IsKeptFor (circuit : Numbered) (kept : KeptWaves) : Type 0 where
  pub count : length kept.waves ≡ length (nets circuit)
  pub within : (number : ℕ) (wave : Wave) → slice_get kept.waves number ≡ Some (Some wave)
      → AreWithin 200001000000000 wave.changes

-- the number of a net that is no constant and whose wave is kept
pub record CanBeChosen (kept : KeptWaves) (number : ℕ) : Type 0 where
  pub above : 1 < number
  pub wave : Wave
  pub there : slice_get kept.waves number ≡ Some (Some wave)

-- the kept waves of the nets with these numbers
abbrev pub kept_of : KeptWaves → List ℕ → List Wave
kept_of kept numbers = map (λ number. unwrap_or (slice_index_or kept.waves number None) (constant X)) numbers

-- the dump of the nets with these numbers, by their kept waves
abbrev pub chosen_dump : Numbered → KeptWaves → List ℕ → List ℕ
chosen_dump circuit kept numbers = named_dump circuit.netlist (names_of circuit numbers) (kept_of kept numbers)
