-- Internal: what stands after other lines of a report, by the numbers of nets.
use Rattle.std.specs.Prelude.{◌≡◌, ◌≢◌, ℕ, List, [], ◌∷◌, ◌++◌, slice_get, Option, Some, None}
use Rattle.std.specs.List.{Contains}
use Rattle.td_gates.specs.Wave.{Wave}
use Rattle.td_nets.specs.Netlist.{Name, Net, Named}
use Rattle.td_nets.specs.Printed.{printed}
use Rattle.td_circuit.specs.Numbering.{Numbered, nets, setting}
use Rattle.td_circuit.specs.NetValues.{net_wave}
use Rattle.td_run.specs.Runs.{NetWaves}
use Rattle.td_path.specs.declared.links.Link as code
use Rattle.td_lines.specs.declared.line.Line.{Line}
use Rattle.td_lines.specs.declared.line.Line.TheVariants as line
use Rattle.td_answer.specs.Names.{label}
use Rattle.td_answer.specs.Paths.{IsNamedSo}
use Rattle.td_answer.specs.Runs.{AreLasts, TellsOutput}

-- these lines were appended
abbrev pub AddsLines : (List Line → Type 0) → List Line → List Line → Type 0
AddsLines Are old new = (lines : List Line) × (new ≡ old ++ lines) × Are lines

-- the waves of the nets of a run
abbrev pub waves_in : Numbered → NetWaves → Net → Wave
waves_in circuit run = net_wave (nets circuit) run.waves

-- the line names the net with this number
abbrev pub NamesNet : Numbered → ℕ → Line → Type 0
NamesNet circuit net printed = (name : Name) → slice_get (nets circuit) net ≡ Some (Named name) → printed ≡ line.Output (label name)

-- each link's net has a name
abbrev pub AreNamed : Numbered → List code.Link → Type 0
AreNamed circuit links = (place : ℕ) (link : code.Link) → slice_get links place ≡ Some link
    → (name : Name) × (slice_get (nets circuit) link.net ≡ Some (Named name))

-- this is the net of an output that reports name so; where there is none, no output is named so
abbrev pub IsOutputNamed : Numbered → List ℕ → Option ℕ → Type 0
IsOutputNamed circuit word None = (output : Name) → Contains circuit.netlist.outputs output → printed output ≢ word
IsOutputNamed circuit word (Some net) = (output : Name) × IsNamedSo circuit.netlist word output × (slice_get (nets circuit) net ≡ Some (Named output))

-- the lines tell why the output that is this net changes last when it does
abbrev pub TellsNet : Numbered → NetWaves → ℕ → List Line → Type 0
TellsNet circuit run net lines = (name : Name) → slice_get (nets circuit) net ≡ Some (Named name)
    → TellsOutput (setting circuit) (waves_in circuit run) name lines

-- the lines tell that the net with this number never changes
abbrev pub NeverChanges : Numbered → ℕ → List Line → Type 0
NeverChanges circuit net lines = (name : Name) → slice_get (nets circuit) net ≡ Some (Named name)
    → AreLasts (record { output = label name; moment = None } ∷ []) lines
