-- What a write of a dump leaves.
use Rattle.std.specs.Prelude.{◌≡◌, ℕ, List, length}
use Rattle.std.specs.List.{All}
use Rattle.td_text.specs.Output.{Output, SentFront, one_more}
use Rattle.td_circuit.specs.Numbering.{Numbered, nets}
use Rattle.td_circuit.specs.NetValues.{net_wave}
use Rattle.td_run.specs.Waves.{AreWithin}
use Rattle.td_run.specs.Runs.{NetWaves}
use Rattle.td_vcd.specs.declared.fault.VcdFault.{VcdFault}
use Rattle.td_vcd.specs.declared.fault.VcdFault.TheVariants.{OutOfMemory, Device}
use Rattle.td_vcd.specs.Text.{dump, variable_waves}

-- the run has a wave for each net of the circuit, and none of them changes later than any run's do
pub record IsRunFor (circuit : Numbered) (run : NetWaves) : Type 0 where
  pub count : length run.waves ≡ length (nets circuit)
  pub within : All (λ wave. AreWithin 200001000000000 wave.changes) run.waves

-- the dump of the waves of a circuit's nets
abbrev pub dump_of : Numbered → NetWaves → List ℕ
dump_of circuit run = dump circuit.netlist (variable_waves circuit.netlist (net_wave (nets circuit) run.waves))

-- A beginning of the text went out. The writer failed once where the fault is Device, and didn't
-- where memory ran out.
pub record IsRefused (fault : VcdFault) (old new : Output) (text : List ℕ) : Type 0 where
  pub front : SentFront old new text
  pub device : fault ≡ Device → new.failures ≡ one_more old.failures
  pub memory : fault ≡ OutOfMemory → new.failures ≡ old.failures
