-- The waves that a request asks for.
use Rattle.std.specs.Prelude.{◌≡◌, ℕ, List, [], ◌∷◌, map, slice_get, slice_index_or, Bool, true, false, Option, Some, None}
use Rattle.std.specs.List.{All}
use Rattle.td_gates.specs.Wave.{Wave, last}
use Rattle.td_nets.specs.Netlist.{Net, Low}
use Rattle.td_circuit.specs.Settings.{Setting}
use Rattle.td_circuit.specs.Numbering.{Numbered, nets, setting}
use Rattle.td_circuit.specs.NetValues.{net_wave}
use Rattle.td_run.specs.Keeping.{KeptWaves}
use Rattle.td_vcd.specs.Chosen.{IsKeptFor, CanBeChosen}
use Rattle.td_vcd.specs.Writes.{IsRunFor}
use Rattle.td_question.specs.Choosing.{AreChosen}
use Rattle.td_answer.specs.declared.outcome.Waves.{Waves}
use Rattle.td_answer.specs.declared.outcome.ChosenWaves.{ChosenWaves}
use Rattle.td_answer.specs.declared.outcome.Dump.{Dump}
use Rattle.td_answer.specs.declared.outcome.Dump.TheVariants.{Whole, Chosen}

-- the waves of the nets
abbrev pub waves_of : Waves → Net → Wave
waves_of dump = net_wave (nets dump.circuit) dump.run.waves

-- the dump has all waves of a run of this kind, in this setting, and can be written
pub record IsDump (asked : Setting) (IsRun : (Net → Wave) → Type 0) (dump : Waves) : Type 0 where
  pub of : setting dump.circuit ≡ asked
  pub runs : IsRun (waves_of dump)
  pub has : IsRunFor dump.circuit dump.run

-- there is one of all nets just where it is asked for
abbrev pub IsDumpWhere : Bool → Setting → ((Net → Wave) → Type 0) → Option Dump → Type 0
IsDumpWhere false asked IsRun dump = dump ≡ None
IsDumpWhere true asked IsRun None = ⊥
IsDumpWhere true asked IsRun (Some (Whole dump)) = IsDump asked IsRun dump
IsDumpWhere true asked IsRun (Some (Chosen dump)) = ⊥

-- the kept wave of each of these nets is that of the run
abbrev pub AreWavesOf : Numbered → (Net → Wave) → KeptWaves → List ℕ → Type 0
AreWavesOf circuit run kept chosen =
    All (λ net. slice_get kept.waves net ≡ Some (Some (run (slice_index_or (nets circuit) net Low)))) chosen

-- the waves of these nets can be written
pub record CanBeDumped (circuit : Numbered) (kept : KeptWaves) (chosen : List ℕ) : Type 0 where
  pub kept_for : IsKeptFor circuit kept
  pub each : All (CanBeChosen kept) chosen

-- the dump has the waves of the nets that these words name, in their order, each once, of a run of
-- this kind, in this setting, and can be written
pub record IsChosenDump (words : List (List ℕ)) (asked : Setting) (IsRun : (Net → Wave) → Type 0) (dump : ChosenWaves) : Type 0 where
  pub of : setting dump.circuit ≡ asked
  pub chosen : AreChosen dump.circuit words dump.nets.items
  pub run : Net → Wave
  pub runs : IsRun run
  pub waves : AreWavesOf dump.circuit run dump.kept dump.nets.items
  pub has : CanBeDumped dump.circuit dump.kept dump.nets.items

-- there is one just where it is asked for: of all nets where no word names one, else of those
abbrev pub IsDumpOf : Bool → List (List ℕ) → Setting → ((Net → Wave) → Type 0) → Option Dump → Type 0
IsDumpOf false words asked IsRun dump = dump ≡ None
IsDumpOf true [] asked IsRun dump = IsDumpWhere true asked IsRun dump
IsDumpOf true (word ∷ words) asked IsRun None = ⊥
IsDumpOf true (word ∷ words) asked IsRun (Some (Whole dump)) = ⊥
IsDumpOf true (word ∷ words) asked IsRun (Some (Chosen dump)) = IsChosenDump (word ∷ words) asked IsRun dump

-- ---- internal

-- whether the waves of all nets are asked for
abbrev pub is_whole : Bool → List (List ℕ) → Bool
is_whole false words = false
is_whole true [] = true
is_whole true (word ∷ words) = false

-- what is kept of the run, with the waves of these nets
pub record IsKeptWith (circuit : Numbered) (chosen : List ℕ) (run : Net → Wave) (kept : KeptWaves) : Type 0 where
  pub waves : AreWavesOf circuit run kept chosen
  pub lasts : kept.lasts ≡ map (λ net. last (run net)) (nets circuit)
