-- Which fault of names is reported: the checks of a module in the order of its text, with the first
-- fault. What a text means doesn't rest on them.
use Rattle.std.specs.Prelude.{ℕ, ◌+◌, List, [], ◌∷◌, ◌++◌, map, find, Option, None, Some, is_some, Bool, true, false, not, ◌&&◌, ◌==◌, nat_lt, Result, Ok, Err, if◌then◌else◌}
use Rattle.std.specs.List.{sum_by}
use Rattle.std.specs.Str.{bytes_eq}
use Rattle.td_syntax.specs.declared.syntax.Role.{Role}
use Rattle.td_syntax.specs.declared.syntax.Role.TheVariants as role
use Rattle.td_syntax.specs.Grammar as grammar
use Rattle.td_syntax.specs.Grammar.{decimal_value, IsMaybeRange}
use Rattle.td_netlist.specs.declared.fault.FaultKind.{FaultKind}
use Rattle.td_netlist.specs.declared.fault.FaultKind.TheVariants.{Redeclared, PortUndeclared, UnknownBit, WidthNotOne, DrivenInput, TwoDrivers, Undriven, TooMany}
use Rattle.td_netlist.specs.declared.fault.Fault.{Fault}
use Rattle.td_netlist.specs.Faults.{fault, unless, ◌>>=◌}
use Rattle.td_netlist.specs.declared.ranges.Range.{Range}
use Rattle.td_nets.specs.Netlist.{Name, Net, Low, High, Named}
use Rattle.td_nets.specs.Names.{is_in}
use Rattle.td_netlist.specs.Ranges.{range_of, width_of, nets_of}
use Rattle.td_netlist.specs.PlacedNets.{different, line_of, Placed}
use Rattle.td_netlist.specs.Module.{scalar, is_input, is_wire, port_names, whole_source, bit_source, Source, Joins, NoBit, NotOne, outputs_of, inputs_of, Declared, Primitive, primitives}

-- the members one after another, up to the first fault
unfoldable pub each : {S A : Type 0} → (S → A → Result S Fault) → S → List A → Result S Fault
each step s [] = Ok s
each step s (x ∷ xs) = step s x >>= λ t. each step t xs

-- ---- names with their ranges

pub record Known : Type 0 where
  pub text : List ℕ
  pub range : Option Range

-- what is known of a name, if anything is
abbrev pub known : List Known → List ℕ → Option Known
known ks text = find (λ k. bytes_eq text k.text) ks

abbrev pub range_known : Option Known → Option Range
range_known None = None
range_known (Some k) = k.range

abbrev pub nets_known : List Known → ℕ
nets_known ks = sum_by (λ (k : Known). width_of k.range) ks

abbrev pub same_number : Option Range → Option Range → Bool
same_number None None = true
same_number None (Some r) = false
same_number (Some r) None = false
same_number (Some r) (Some q) = r.left == q.left && r.right == q.right

-- whether the name is known with another range
abbrev pub is_other : Option Known → Option Range → Bool
is_other None range = false
is_other (Some k) range = not (same_number k.range range)

-- one more name, unless there are too many nets then
abbrev pub with_range : List Known → grammar.Name → Option Range → Result (List Known) Fault
with_range ks n range = unless (if nat_lt 1000000 (nets_known ks + width_of range) then Some TooMany else None) n.line (ks ++ record { text = n.name; range = range } ∷ [])

unfoldable pub know : List Known → grammar.Name → Option Range → Result (List Known) Fault
know ks n range = if is_some (known ks n.name) then Ok ks else with_range ks n range

-- ---- declarations

unfoldable pub list_port : List Name → grammar.Name → Result (List Name) Fault
list_port seen n = unless (if is_in (scalar n) seen then Some Redeclared else None) n.line (seen ++ scalar n ∷ [])

-- the direction of a name
abbrev pub direction_of : List Declared → grammar.Name → Option Declared
direction_of ds n = find (λ d. bytes_eq n.name d.name.name) ds

-- what is declared so far
pub record Lists : Type 0 where
  pub listed : List Name
  pub directions : List Declared
  -- the number of input bits
  pub inputs : ℕ
  pub wires : List Name
  pub names : List Known

abbrev pub nothing : Lists
nothing = record { listed = []; directions = []; inputs = 0; wires = []; names = [] }

abbrev pub input_bits : Role → Option Range → ℕ
input_bits r range = if is_input r then width_of range else 0

abbrev pub direction_fault : Lists → Role → Option Range → grammar.Name → Option FaultKind
direction_fault s r range n =
    if is_some (direction_of s.directions n) then Some Redeclared
    else (if is_other (known s.names n.name) range then Some Redeclared
    else (if not (is_in (scalar n) s.listed) then Some PortUndeclared
    else (if nat_lt 4096 (s.inputs + input_bits r range) then Some TooMany
    else None)))

unfoldable pub declare_direction : Role → Option Range → Lists → grammar.Name → Result Lists Fault
declare_direction r range s n = do
  fine ← unless {A = Unit {0}} (direction_fault s r range n) n.line tt
  names ← know s.names n range
  Ok (record {
    listed = s.listed;
    directions = s.directions ++ record { role = r; range = range; name = n } ∷ [];
    inputs = s.inputs + input_bits r range;
    wires = s.wires;
    names = names;
  })

abbrev pub wire_fault : Lists → Option Range → grammar.Name → Option FaultKind
wire_fault s range n =
    if is_in (scalar n) s.wires then Some Redeclared
    else (if is_other (known s.names n.name) range then Some Redeclared
    else None)

unfoldable pub declare_wire : Option Range → Lists → grammar.Name → Result Lists Fault
declare_wire range s n = do
  fine ← unless {A = Unit {0}} (wire_fault s range n) n.line tt
  names ← know s.names n range
  Ok (record { listed = s.listed; directions = s.directions; inputs = s.inputs; wires = s.wires ++ scalar n ∷ []; names = names })

unfoldable pub declare : Role → Option Range → Lists → grammar.Name → Result Lists Fault
declare r range s n = if is_wire r then declare_wire range s n else declare_direction r range s n

unfoldable pub declare_item : Lists → grammar.Item → Result Lists Fault
declare_item s (grammar.Declares d) = each (declare d.role (range_of d.range)) s d.names
declare_item s (grammar.Gates g) = Ok s

-- the numbers of its range are within their limit
abbrev pub IsRanged : grammar.Item → Type 0
IsRanged (grammar.Declares d) = IsMaybeRange d.range
IsRanged (grammar.Gates g) = Unit {0}

abbrev pub with_port : Lists → grammar.Name → Result Lists Fault
with_port s n = list_port s.listed n >>= λ listed. Ok (record { listed = listed; directions = s.directions; inputs = s.inputs; wires = s.wires; names = s.names })

-- A port that is declared is listed first. The role and the range are those of the port before it.
pub record Ported : Type 0 where
  pub role : Role
  pub range : Option Range
  pub lists : Lists

-- A list of declared ports begins with a role, so that this one counts for none.
abbrev pub portless : Ported
portless = record { role = role.Input; range = None; lists = nothing }

abbrev pub ported : Role → Option Range → Ported → grammar.Name → Result Ported Fault
ported r range s n = with_port s.lists n >>= λ lists. declare_direction r range lists n >>= λ all. Ok (record { role = r; range = range; lists = all })

unfoldable pub declare_port : Ported → grammar.Port → Result Ported Fault
declare_port s (grammar.Bare n) = ported s.role s.range s n
declare_port s (grammar.Headed h) = ported h.role (range_of h.range) s h.name

unfoldable pub declare_ports : Option grammar.Ports → Result Lists Fault
declare_ports None = Ok nothing
declare_ports (Some (grammar.Names ns)) = each with_port nothing ns
declare_ports (Some (grammar.Declared ps)) = each declare_port portless ps >>= λ s. Ok s.lists

-- the bits of the ports by direction, those of outputs with the lines of their directions
pub record Sides : Type 0 where
  pub inputs : List Name
  pub outputs : List Placed

abbrev pub sideless : Sides
sideless = record { inputs = []; outputs = [] }

abbrev pub placed_at : ℕ → List Name → List Placed
placed_at line names = map (λ net. record { net = net; line = line }) names

abbrev pub on_side : Sides → grammar.Name → Option Declared → Result Sides Fault
on_side s n None = Err (fault PortUndeclared n.line)
on_side s n (Some d) =
    if is_input d.role then Ok (record { inputs = s.inputs ++ nets_of n.name d.range; outputs = s.outputs })
    else Ok (record { inputs = s.inputs; outputs = s.outputs ++ placed_at d.name.line (nets_of n.name d.range) })

unfoldable pub take_side : List Declared → Sides → grammar.Name → Result Sides Fault
take_side directions s n = on_side s n (direction_of directions n)

-- all ports by direction
unfoldable pub sides_at : List Declared → Option grammar.Ports → Result Sides Fault
sides_at directions ports = each (take_side directions) sideless (port_names ports)

-- ---- terminals

abbrev pub joined : ℕ → Source → Result Net Fault
joined line (Joins net) = Ok net
joined line NoBit = Err (fault UnknownBit line)
joined line NotOne = Err (fault WidthNotOne line)

-- the net of a terminal, by what is known of its name
unfoldable pub resolve : List Known → grammar.Terminal → Result Net Fault
resolve ks (grammar.Whole n) = joined n.line (whole_source n.name (range_known (known ks n.name)))
resolve ks (grammar.Select n digits) = joined n.line (bit_source n.name (decimal_value digits) (range_known (known ks n.name)))
resolve ks (grammar.Level false) = Ok Low
resolve ks (grammar.Level true) = Ok High

-- a plain name without a declaration is a net
abbrev pub meet : List Known → grammar.Terminal → Result (List Known) Fault
meet ks (grammar.Whole n) = know ks n None
meet ks (grammar.Select n digits) = Ok ks
meet ks (grammar.Level b) = Ok ks

-- ---- drivers

-- the driven nets and the names so far
pub record Drivers : Type 0 where
  pub driven : List Name
  pub names : List Known

-- an input, or another net that is driven
abbrev pub second_driver : List Name → Name → FaultKind
second_driver inputs name = if is_in name inputs then DrivenInput else TwoDrivers

abbrev pub drive_fault : List Name → List Name → Name → Option FaultKind
drive_fault inputs driven name = if is_in name driven then Some (second_driver inputs name) else None

abbrev pub drive_net : List Name → List Name → ℕ → Net → Result (List Name) Fault
drive_net inputs driven line Low = Ok driven
drive_net inputs driven line High = Ok driven
drive_net inputs driven line (Named name) = unless (drive_fault inputs driven name) line (driven ++ name ∷ [])

-- the net of a terminal, and its name known from now on
unfoldable pub seen : Drivers → grammar.Terminal → Result (Net × Drivers) Fault
seen s t = do
  net ← resolve s.names t
  names ← meet s.names t
  Ok (net, record { driven = s.driven; names = names })

unfoldable pub see : Drivers → grammar.Terminal → Result Drivers Fault
see s t = seen s t >>= λ x. Ok x.1

abbrev pub with_driven : Drivers → List Name → Drivers
with_driven s driven = record { driven = driven; names = s.names }

-- a net driven more
unfoldable pub drives : List Name → Drivers → ℕ → Net → Result Drivers Fault
drives inputs s line net = drive_net inputs s.driven line net >>= λ driven. Ok (with_driven s driven)

-- one driver more
unfoldable pub drive : List Name → Drivers → grammar.Terminal → Result Drivers Fault
drive inputs s t = seen s t >>= λ x. drives inputs x.1 (line_of t) x.0

unfoldable pub drive_all : List Name → Drivers → Primitive → Result Drivers Fault
drive_all inputs s p = do
  t ← each (drive inputs) s (outputs_of p)
  each see t (inputs_of p)

abbrev pub read_from : List Name → ℕ → Net → Result (Unit {0}) Fault
read_from driven line Low = Ok tt
read_from driven line High = Ok tt
read_from driven line (Named name) = unless (if is_in name driven then None else Some Undriven) line tt

unfoldable pub read_net : Drivers → Unit {0} → grammar.Terminal → Result (Unit {0}) Fault
read_net s u t = resolve s.names t >>= read_from s.driven (line_of t)

unfoldable pub read_all : Drivers → Unit {0} → Primitive → Result (Unit {0}) Fault
read_all s u p = each (read_net s) u (inputs_of p)

unfoldable pub read_placed : List Name → Unit {0} → Placed → Result (Unit {0}) Fault
read_placed driven u p = read_from driven p.line (Named p.net)

-- ---- the whole

-- what the items declare too, and then the nets of the ports by direction
abbrev pub declared_from : Lists → grammar.Module → Result (Sides × List Known) Fault
declared_from ported m = do
  lists ← each declare_item ported m.items
  sides ← sides_at lists.directions m.ports
  Ok (sides, lists.names)

-- the ports by direction and the names of the declarations
unfoldable pub declared_at : grammar.Module → Result (Sides × List Known) Fault
declared_at m = do
  ported ← declare_ports m.ports
  declared_from ported m

-- the drivers of all gates, then what gates read and the outputs
abbrev pub driven_from : Drivers → Sides → List Primitive → Result Drivers Fault
driven_from before sides ps = do
  drivers ← each (drive_all sides.inputs) before ps
  reads ← each (read_all drivers) tt ps
  outputs ← each (read_placed drivers.driven) tt sides.outputs
  Ok drivers

unfoldable pub driven_at : Sides → List Known → List Primitive → Result Drivers Fault
driven_at sides names ps = driven_from (record { driven = different sides.inputs; names = names }) sides ps

-- declarations and ports first, then the drivers of all gates, then what gates read and the outputs
unfoldable pub checked_at : grammar.Module → Result Drivers Fault
checked_at m = do
  declared ← declared_at m
  driven_at declared.0 declared.1 (primitives m)
