-- What a report says of a run.
use Rattle.std.specs.Prelude.{◌≡◌, ◌⊎◌, ℕ, List, [], ◌∷◌, ◌++◌, map, codes, Bool, true, false, Option, Some, None}
use Rattle.std.specs.List.{Contains}
use Rattle.td_gates.specs.Table.{level_from}
use Rattle.td_gates.specs.Wave.{Wave, last}
use Rattle.td_nets.specs.Netlist.{Name, Net, Low, High, Named, Netlist}
use Rattle.td_circuit.specs.Settings.{Setting}
use Rattle.td_circuit.specs.Run.{Runs}
use Rattle.td_domain.specs.Pairs.{Pair}
use Rattle.td_path.specs.declared.links.Cause.{Cause}
use Rattle.td_path.specs.Links.{Link, IsChain}
use Rattle.td_path.specs.Chains.{IsLatest}
use Rattle.td_lines.specs.declared.line.Line.{Line}
use Rattle.td_lines.specs.declared.line.Line.TheVariants as line
use Rattle.td_lines.specs.declared.line.Last.{Last}
use Rattle.td_lines.specs.declared.line.Change.{Change}
use Rattle.td_lines.specs.declared.line.Driver.{Driver}
use Rattle.td_request.specs.declared.request.Shown.{Shown}
use Rattle.td_answer.specs.Names.{label}
use Rattle.td_answer.specs.Rows.{HasRows}

-- ---- when outputs change last

-- the output, and when it changes last, if it does
abbrev pub last_of : (Net → Wave) → Name → Last
last_of waves name = record { output = label name; moment = last (waves (Named name)) }

-- the line of these moments, where there are any
abbrev pub AreLasts : List Last → List Line → Type 0
AreLasts = HasRows (λ rows. line.Lasts rows)

-- ---- chains of changes

-- the name of a net
abbrev pub net_label : Net → List ℕ
net_label Low = codes "0"
net_label High = codes "1"
net_label (Named name) = label name

abbrev pub driver_of : Option Cause → Option Driver
driver_of None = None
driver_of (Some cause) = Some (record { kind = cause.kind; delay = cause.delay })

-- a change: its moment, its net, the levels before it and from then on, and what caused it
abbrev pub change_of : Link → Change
change_of link = record { moment = link.moment; net = net_label link.net; from = link.from; to = link.to; by = driver_of link.cause }

-- the line has these changes
abbrev pub HasChanges : List Link → Line → Type 0
HasChanges links (line.Changes changes) = changes.items ≡ map change_of links
HasChanges links other = ⊥

-- the line has the chain of changes that ends in the last change of this output
pub record TellsChain (setting : Setting) (waves : Net → Wave) (output : Name) (told : Line) : Type 0 where
  pub links : List Link
  pub is_chain : IsChain setting waves (Named output) links
  pub has : HasChanges links told

-- the output never changes
abbrev pub IsStill : (Net → Wave) → Name → Type 0
IsStill waves output = (waves (Named output)).changes ≡ []

-- the lines tell why this output changes last when it does, or that it never changes
abbrev pub TellsOutput : Setting → (Net → Wave) → Name → List Line → Type 0
TellsOutput setting waves output lines =
    (IsStill waves output × AreLasts (record { output = label output; moment = None } ∷ []) lines)
    ⊎ ((told : Line) × TellsChain setting waves output told × (lines ≡ told ∷ []))

-- the line tells why the output that changes last does so when it does, the first of several; where
-- no output changes, it tells that
abbrev pub TellsLatest : Setting → (Net → Wave) → Line → Type 0
TellsLatest setting waves told =
    (((output : Name) → Contains setting.netlist.outputs output → IsStill waves output) × (told ≡ line.Time 0))
    ⊎ ((output : Name) × IsLatest setting.netlist waves output × TellsChain setting waves output told)

-- ---- what stands after other lines

-- where it is asked for, the line names the output that changes last, the first of several; there
-- is none where no output changes
abbrev pub TellsLast : Bool → Netlist → (Net → Wave) → List Line → Type 0
TellsLast false netlist waves lines = lines ≡ []
TellsLast true netlist waves lines =
    (((output : Name) → Contains netlist.outputs output → IsStill waves output) × (lines ≡ []))
    ⊎ ((output : Name) × IsLatest netlist waves output × (lines ≡ line.Output (label output) ∷ []))

-- where it is asked for, the line tells why the output that changes last does so when it does
abbrev pub TellsWay : Bool → Setting → (Net → Wave) → List Line → Type 0
TellsWay false setting waves lines = lines ≡ []
TellsWay true setting waves lines = (told : Line) × TellsLatest setting waves told × (lines ≡ told ∷ [])

-- what is asked of a run, one after the other
pub record TellsRun (shown : Shown) (setting : Setting) (waves : Net → Wave) (lines : List Line) : Type 0 where
  pub named : List Line
  pub way : List Line
  pub is : lines ≡ named ++ way
  pub names : TellsLast shown.outputs setting.netlist waves named
  pub tells : TellsWay shown.path setting waves way

-- it is the run of the pair
abbrev pub RunsPair : Setting → Pair → (Net → Wave) → Type 0
RunsPair setting pair waves = Runs setting (map level_from pair.first) (map level_from pair.second) waves

-- the lines tell what is asked of the pair's run, and are none where nothing is
abbrev pub TellsPair : Shown → Setting → Pair → List Line → Type 0
TellsPair shown setting pair lines =
    ((shown.outputs ≡ false) × (shown.path ≡ false) × (lines ≡ []))
    ⊎ ((waves : Net → Wave) × RunsPair setting pair waves × TellsRun shown setting waves lines)
