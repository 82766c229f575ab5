-- What can be written of an outcome.
use Rattle.std.specs.Prelude.{IfSome}
use Rattle.td_certificate.specs.Spelling.{HasSpelling}
use Rattle.td_vcd.specs.Writes.{IsRunFor}
use Rattle.td_answer.specs.Dumps.{CanBeDumped}
use Rattle.td_answer.specs.declared.outcome.Outcome.{Outcome}
use Rattle.td_answer.specs.declared.outcome.Waves.{Waves}
use Rattle.td_answer.specs.declared.outcome.ChosenWaves.{ChosenWaves}
use Rattle.td_answer.specs.declared.outcome.Dump.{Dump}
use Rattle.td_answer.specs.declared.outcome.Dump.TheVariants.{Whole, Chosen}

-- the run is one of the circuit
abbrev pub HasRun : Waves → Type 0
HasRun waves = IsRunFor waves.circuit waves.run

-- the chosen waves are kept of a run of the circuit
abbrev pub HasKept : ChosenWaves → Type 0
HasKept dump = CanBeDumped dump.circuit dump.kept dump.nets.items

-- the dump has a text
abbrev pub HasDump : Dump → Type 0
HasDump (Whole waves) = HasRun waves
HasDump (Chosen waves) = HasKept waves

-- its certificate has a text, and its waves have one
pub record CanBeWritten (outcome : Outcome) : Type 0 where
  pub certificate : IfSome outcome.certificate HasSpelling
  pub dump : IfSome outcome.dump HasDump
