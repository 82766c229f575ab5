-- What is kept of a run: the waves of chosen nets, and of each net the moment of its last change.
use Rattle.std.specs.Prelude.{◌≡◌, ℕ, ◌+◌, ◌<◌, List, [], ◌∷◌, map, length, Bool, true, false, Option, Some, None, slice_get, slice_index_or, if◌then◌else◌}
use Rattle.std.specs.List.{All}
use Rattle.td_gates.specs.declared.primitives.Level.{Level}
use Rattle.td_gates.specs.declared.primitives.Level.TheVariants.{X}
use Rattle.td_gates.specs.Wave.{Wave, last}
use Rattle.td_nets.specs.Netlist.{Net}
use Rattle.td_circuit.specs.Numbering.{NumberedGate, Numbered, nets}
use Rattle.td_run.specs.Waves.{AreWithin, constant}
use Rattle.td_run.specs.Runs.{IsRunUpTo}

-- ---- beside the model

-- by the nets' numbers: the waves of the wanted nets, and the moments of all nets' last changes
pub record KeptWaves : Type 0 where
  pub waves : List (Option Wave)
  pub lasts : List (Option ℕ)

-- the waves that are wanted
abbrev pub wanted_waves : List Bool → List Wave → List (Option Wave)
wanted_waves (wanted ∷ others) (wave ∷ waves) =
    (if wanted then Some wave else None) ∷ wanted_waves others waves
wanted_waves wanted waves = []

-- of the run of these nets the wanted ones are kept, and the moment of each net's last change
pub record IsKeptOf (nets : List Net) (run : Net → Wave) (wanted : List Bool) (kept : KeptWaves) : Type 0 where
  pub waves : kept.waves ≡ wanted_waves wanted (map run nets)
  pub lasts : kept.lasts ≡ map (λ net. last (run net)) nets

-- ---- internal

-- For each net, how many gates are evaluated before its wave may be dropped: more than the place of
-- each gate that reads it.
pub record AreEnds (circuit : Numbered) (ends : List ℕ) : Type 0 where
  pub count : length ends ≡ length (nets circuit)
  pub read : (place : ℕ) (gate : NumberedGate) → slice_get circuit.gates place ≡ Some gate
      → All (λ net. place < slice_index_or ends net 0) gate.inputs

-- how many gates are evaluated before the wave of a net may be dropped that none reads, where there
-- are so many
abbrev pub first_end : ℕ → Bool → ℕ
first_end gates wanted = if wanted then gates + 1 else 0

-- a wanted net's wave may not be dropped after so many gates
abbrev pub AreLater : List Bool → ℕ → List ℕ → Type 0
AreLater wanted evaluated ends = (net : ℕ) → slice_index_or wanted net false ≡ true
    → evaluated < slice_index_or ends net 0

-- the same of the first gates
pub record AreEndsUpTo (circuit : Numbered) (wanted : List Bool) (place : ℕ) (ends : List ℕ) : Type 0 where
  pub count : length ends ≡ length (nets circuit)
  pub later : AreLater wanted (length circuit.gates) ends
  pub read : (j : ℕ) (gate : NumberedGate) → j < place → slice_get circuit.gates j ≡ Some gate
      → All (λ net. j < slice_index_or ends net 0) gate.inputs

-- after so many gates the new waves are the old ones, but for those that may be dropped
pub record HasLeft (ends : List ℕ) (evaluated : ℕ) (old new : List Wave) : Type 0 where
  pub count : length new ≡ length old
  pub within : (bound : ℕ) → All (λ wave. AreWithin bound wave.changes) old
      → All (λ wave. AreWithin bound wave.changes) new
  pub same : (net : ℕ) → evaluated < slice_index_or ends net 0
      → slice_index_or new net (constant X) ≡ slice_index_or old net (constant X)

-- what is left of the waves of the nets up to the output of the gate at a place, and the moments of
-- all their last changes
pub record IsLeftUpTo (circuit : Numbered) (firsts seconds : List Level) (ends : List ℕ) (place : ℕ) (waves : List Wave) (moments : List (Option ℕ)) : Type 0 where
  pub all : List Wave
  pub outs : List Wave
  pub run : IsRunUpTo circuit firsts seconds place all outs
  pub left : HasLeft ends place all waves
  pub lasts : moments ≡ map last all
