-- The chains that the functions give, for a circuit and a run of it by the numbers of its nets.
use Rattle.std.specs.Prelude.{◌≡◌, ◌≢◌, ℕ, ◌<◌, List, [], length, map, slice_get, slice_index_or, Option, Some, None}
use Rattle.std.specs.List.{Contains}
use Rattle.std.specs.Global.{Vec}
use Rattle.td_gates.specs.declared.primitives.Level.{Level}
use Rattle.td_gates.specs.Wave.{Wave, last}
use Rattle.td_nets.specs.Netlist.{Name, Net, Low, Named, Netlist}
use Rattle.td_circuit.specs.Numbering.{Numbered, setting, nets}
use Rattle.td_circuit.specs.Run.{Runs, latest_change}
use Rattle.td_circuit.specs.NetValues.{net_wave}
use Rattle.td_run.specs.Runs.{NetWaves}
use Rattle.td_path.specs.declared.links.Link as code
use Rattle.td_path.specs.Links.{Link, IsChain}

-- it is the run of the circuit under some vectors
pub record IsRunFor (circuit : Numbered) (run : NetWaves) : Type 0 where
  pub count : length run.waves ≡ length (nets circuit)
  pub first : List Level
  pub second : List Level
  pub runs : Runs (setting circuit) first second (net_wave (nets circuit) run.waves)

-- the net with this number
abbrev pub net_at : List Net → ℕ → Net
net_at nets number = slice_index_or nets number Low

-- a link by the name of its net
abbrev pub link_of : List Net → code.Link → Link
link_of nets link = record {
  net = net_at nets link.net;
  moment = link.moment;
  from = link.from;
  to = link.to;
  cause = link.cause;
}

-- the links are the chain that ends in the last change of this net; where there are none it never
-- changes
abbrev pub Explains : Numbered → NetWaves → ℕ → Option (Vec code.Link) → Type 0
Explains circuit run net None = (net_wave (nets circuit) run.waves (net_at (nets circuit) net)).changes ≡ []
Explains circuit run net (Some links) =
    IsChain (setting circuit) (net_wave (nets circuit) run.waves) (net_at (nets circuit) net) (map (link_of (nets circuit)) links.items)

-- the output's last change is the latest of all outputs, and no output before it changes last at
-- that moment
pub record IsLatest (netlist : Netlist) (waves : Net → Wave) (output : Name) : Type 0 where
  pub place : ℕ
  pub is_output : slice_get netlist.outputs place ≡ Some output
  pub latest : last (waves (Named output)) ≡ Some (latest_change (map (λ name. waves (Named name)) netlist.outputs))
  pub first : (k : ℕ) (name : Name) → k < place → slice_get netlist.outputs k ≡ Some name
      → last (waves (Named name)) ≢ Some (latest_change (map (λ name. waves (Named name)) netlist.outputs))

-- the links are the chain of the output that changes last; where there are none no output changes
abbrev pub ExplainsLatest : Numbered → NetWaves → Option (Vec code.Link) → Type 0
ExplainsLatest circuit run None =
    (name : Name) → Contains circuit.netlist.outputs name → (net_wave (nets circuit) run.waves (Named name)).changes ≡ []
ExplainsLatest circuit run (Some links) =
    (output : Name) × IsLatest circuit.netlist (net_wave (nets circuit) run.waves) output
    × IsChain (setting circuit) (net_wave (nets circuit) run.waves) (Named output) (map (link_of (nets circuit)) links.items)

-- this is the net of the output that changes last; where there is none no output changes
abbrev pub IsLatestNet : Numbered → NetWaves → Option ℕ → Type 0
IsLatestNet circuit run None = ExplainsLatest circuit run None
IsLatestNet circuit run (Some net) =
    (output : Name) × (slice_get (nets circuit) net ≡ Some (Named output))
    × IsLatest circuit.netlist (net_wave (nets circuit) run.waves) output
