-- Why a net changes when it does: links of changes, each caused by the one before it.
use Rattle.std.specs.Prelude.{◌≡◌, ◌≢◌, ℕ, ◌+◌, ◌<◌, List, [], ◌∷◌, map, slice_get, Option, Some, None}
use Rattle.td_gates.specs.declared.primitives.Level.{Level}
use Rattle.td_gates.specs.Table.{delay_to}
use Rattle.td_gates.specs.Wave.{Wave, at, before, last}
use Rattle.td_gates.specs.Schedule.{target_at, target_before}
use Rattle.td_nets.specs.Netlist.{Name, Net, Named, Gate, Netlist}
use Rattle.td_circuit.specs.Settings.{Setting}
use Rattle.td_path.specs.declared.links.Cause.{Cause}

-- a net, a moment, the levels before it and from then on, and what caused the change, none for that
-- of an input
pub record Link : Type 0 where
  pub net : Net
  pub moment : ℕ
  pub from : Level
  pub to : Level
  pub cause : Option Cause

-- the link is a change of its net
pub record IsChange (waves : Net → Wave) (link : Link) : Type 0 where
  pub from : before (waves link.net) link.moment ≡ link.from
  pub to : at (waves link.net) link.moment ≡ link.to
  pub differ : link.from ≢ link.to

-- an input changes at its moment
pub record IsOfInput (setting : Setting) (waves : Net → Wave) (link : Link) : Type 0 where
  pub change : IsChange waves link
  pub place : ℕ
  pub name : Name
  pub is_input : slice_get setting.netlist.inputs place ≡ Some name
  pub net : link.net ≡ Named name
  pub moment : slice_get setting.moments place ≡ Some link.moment
  pub cause : link.cause ≡ None

-- A gate's output changes, since the gate's target changed to that level just the delay to it
-- before. The earlier link is of the net of the terminal that is the cause, and the nets of the
-- terminals before that one didn't change there.
pub record IsCausedBy (netlist : Netlist) (waves : Net → Wave) (earlier later : Link) : Type 0 where
  pub change : IsChange waves later
  pub cause : Cause
  pub is_cause : later.cause ≡ Some cause
  pub gate : Gate
  pub is_gate : slice_get netlist.gates cause.gate ≡ Some gate
  pub output : later.net ≡ Named gate.output
  pub reads : slice_get gate.inputs cause.terminal ≡ Some earlier.net
  pub kind : cause.kind ≡ gate.kind
  pub takes : cause.delay ≡ delay_to gate.delay later.to
  pub delay : later.moment ≡ earlier.moment + cause.delay
  pub target : target_at gate.kind (map waves gate.inputs) earlier.moment ≡ later.to
  pub changed : target_before gate.kind (map waves gate.inputs) earlier.moment ≢ later.to
  pub first : (terminal : ℕ) (net : Net) → terminal < cause.terminal → slice_get gate.inputs terminal ≡ Some net
      → at (waves net) earlier.moment ≡ before (waves net) earlier.moment

-- the links lead from the first one through the others to the end, each caused by the one before it
abbrev pub LeadTo : Netlist → (Net → Wave) → Link → List Link → Link → Type 0
LeadTo netlist waves first [] end = first ≡ end
LeadTo netlist waves first (next ∷ others) end = IsCausedBy netlist waves first next × LeadTo netlist waves next others end

-- the chain of changes from one of an input to the last change of a net
pub record IsChain (setting : Setting) (waves : Net → Wave) (net : Net) (links : List Link) : Type 0 where
  pub first : Link
  pub others : List Link
  pub end : Link
  pub parts : links ≡ first ∷ others
  pub begins : IsOfInput setting waves first
  pub leads : LeadTo setting.netlist waves first others end
  pub ends : end.net ≡ net
  pub is_last : last (waves net) ≡ Some end.moment
