-- Internal: what the walk back from a change keeps, by the numbers of the nets.
use Rattle.std.specs.Prelude.{◌≡◌, ◌≢◌, ℕ, ◌<◌, List, ◌∷◌, length, map, reverse, slice_get, slice_index_or, Option, Some, None}
use Rattle.std.specs.List.{Contains}
use Rattle.td_gates.specs.declared.primitives.Level.TheVariants.{X}
use Rattle.td_gates.specs.Wave.{Wave, at, before, last}
use Rattle.td_nets.specs.Netlist.{Net, Gate, Netlist}
use Rattle.td_circuit.specs.Numbering.{Numbered, setting, nets}
use Rattle.td_circuit.specs.NetValues.{net_wave}
use Rattle.td_run.specs.Waves.{constant}
use Rattle.td_run.specs.Runs.{NetWaves}
use Rattle.td_path.specs.declared.links.Cause.{Cause}
use Rattle.td_path.specs.declared.links.Link as code
use Rattle.td_path.specs.Links.{Link, IsOfInput, LeadTo}
use Rattle.td_path.specs.Chains.{net_at, link_of}

-- for each gate in the circuit's order its place in the netlist
pub record ArePlaces (circuit : Numbered) (places : List ℕ) : Type 0 where
  pub count : length places ≡ length circuit.gates
  pub each : (i place : ℕ) (gate : Gate) → slice_get circuit.ordered i ≡ Some gate → slice_get places i ≡ Some place
      → slice_get circuit.netlist.gates place ≡ Some gate

-- the wave of the net with this number
abbrev pub wave_at : List Wave → ℕ → Wave
wave_at waves number = slice_index_or waves number (constant X)

abbrev pub ChangesAt : Wave → ℕ → Type 0
ChangesAt wave moment = at wave moment ≢ before wave moment

-- one of these nets changes at this moment
pub record SomeChanges (waves : List Wave) (numbers : List ℕ) (moment : ℕ) : Type 0 where
  pub terminal : ℕ
  pub number : ℕ
  pub is_number : slice_get numbers terminal ≡ Some number
  pub changes : ChangesAt (wave_at waves number) moment

-- none of these nets before this place changes at this moment
abbrev pub AreKept : List Wave → List ℕ → ℕ → ℕ → Type 0
AreKept waves numbers moment end = (k other : ℕ) → k < end → slice_get numbers k ≡ Some other
    → at (wave_at waves other) moment ≡ before (wave_at waves other) moment

-- the first of these nets that changes at this moment stands at this place
pub record IsFirstChange (waves : List Wave) (numbers : List ℕ) (moment terminal : ℕ) : Type 0 where
  pub number : ℕ
  pub is_number : slice_get numbers terminal ≡ Some number
  pub changes : ChangesAt (wave_at waves number) moment
  pub first : AreKept waves numbers moment terminal

-- the first of these nets that changes last at this moment
abbrev pub IsFirstAt : List Wave → List ℕ → ℕ → Option ℕ → Type 0
IsFirstAt waves numbers moment None = (number : ℕ) → Contains numbers number → last (wave_at waves number) ≢ Some moment
IsFirstAt waves numbers moment (Some number) =
    (place : ℕ) × (slice_get numbers place ≡ Some number) × (last (wave_at waves number) ≡ Some moment)
    × ((k other : ℕ) → k < place → slice_get numbers k ≡ Some other → last (wave_at waves other) ≢ Some moment)

-- the change of a net at a moment
abbrev pub link_by : List Wave → ℕ → ℕ → Option Cause → code.Link
link_by waves number moment cause = record {
  net = number;
  moment = moment;
  from = before (wave_at waves number) moment;
  to = at (wave_at waves number) moment;
  cause = cause;
}

-- the links lead on from this one to a change of this net at this moment
pub record LeadsOn (netlist : Netlist) (waves : Net → Wave) (link : Link) (others : List Link) (net : Net) (moment : ℕ) : Type 0 where
  pub end : Link
  pub leads : LeadTo netlist waves link others end
  pub is_net : end.net ≡ net
  pub is_moment : end.moment ≡ moment

-- the links, the latest first, lead from a change of an input to that of this net at this moment
pub record LeadsFrom (circuit : Numbered) (run : NetWaves) (net moment : ℕ) (links : List code.Link) : Type 0 where
  pub link : Link
  pub others : List Link
  pub parts : map (link_of (nets circuit)) (reverse links) ≡ link ∷ others
  pub begins : IsOfInput (setting circuit) (net_wave (nets circuit) run.waves) link
  pub leads : LeadsOn circuit.netlist (net_wave (nets circuit) run.waves) link others (net_at (nets circuit) net) moment

-- Halfway, at the change of a net at a moment: whatever link is that change, these links, the
-- latest first, lead on from it.
pub record IsWalking (circuit : Numbered) (run : NetWaves) (net moment number now : ℕ) (links : List code.Link) : Type 0 where
  pub below : number < length (nets circuit)
  pub changes : ChangesAt (wave_at run.waves number) now
  pub leads : (link : Link) → link.net ≡ net_at (nets circuit) number → link.moment ≡ now
      → LeadsOn circuit.netlist (net_wave (nets circuit) run.waves) link (map (link_of (nets circuit)) (reverse links))
      (net_at (nets circuit) net) moment
