-- What a module declares, and the netlist that it lists.
use Rattle.std.specs.Prelude.{not, ℕ, ◌-◌, List, [], ◌∷◌, ◌++◌, length, map, filter, fold, find, take, drop, sum_by, Option, None, Some, Bool, true, false, ◌==◌, nat_lt, if◌then◌else◌}
use Rattle.std.specs.List.{flat_map}
use Rattle.std.specs.Str.{bytes_eq}
use Rattle.td_gates.specs.declared.primitives.Kind.{Kind}
use Rattle.td_gates.specs.declared.timing.Delay.{Delay}
use Rattle.td_syntax.specs.declared.token.Directive.TheVariants as directive
use Rattle.td_syntax.specs.declared.syntax.Front.{Front}
use Rattle.td_syntax.specs.declared.syntax.Front.TheVariants as fronts
use Rattle.td_syntax.specs.declared.syntax.Role.{Role}
use Rattle.td_syntax.specs.declared.syntax.Role.TheVariants as role
use Rattle.td_syntax.specs.Grammar as grammar
use Rattle.td_syntax.specs.Grammar.{decimal_value, output_count, unit_exponent, steps_of}
use Rattle.td_nets.specs.declared.netlist.Unit.{Unit as Step}
use Rattle.td_nets.specs.declared.netlist.Scale.{Scale}
use Rattle.td_nets.specs.declared.netlist.Scale.TheVariants as scale
use Rattle.td_netlist.specs.declared.ranges.Range.{Range}
use Rattle.td_nets.specs.Netlist.{Name, Net, Low, High, Named, Gate, Netlist}
use Rattle.td_nets.specs.Names.{is_in}
use Rattle.td_netlist.specs.Ranges.{range_of, holds, bit_name, nets_of}

-- the net of a name that is no vector
abbrev pub scalar : grammar.Name → Name
scalar n = record { text = n.name; bit = None }

abbrev pub names_of : List grammar.Name → List Name
names_of ns = map scalar ns

-- ---- declarations, in the order of the text

pub record Declared : Type 0 where
  pub role : Role
  pub range : Option Range
  pub name : grammar.Name

abbrev pub item_declared : grammar.Item → List Declared
item_declared (grammar.Declares d) = map (λ n. record { role = d.role; range = range_of d.range; name = n }) d.names
item_declared (grammar.Gates g) = []

-- a bare name has direction and range of the port before it
unfoldable pub ports_from : Role → Option Range → List grammar.Port → List Declared
ports_from r range [] = []
ports_from r range (grammar.Bare n ∷ ps) = record { role = r; range = range; name = n } ∷ ports_from r range ps
ports_from r range (grammar.Headed h ∷ ps) = record { role = h.role; range = range_of h.range; name = h.name } ∷ ports_from h.role (range_of h.range) ps

abbrev pub ports_declared : Option grammar.Ports → List Declared
ports_declared None = []
ports_declared (Some (grammar.Names ns)) = []
ports_declared (Some (grammar.Declared ps)) = ports_from role.Input None ps

abbrev pub declarations : grammar.Module → List Declared
declarations m = ports_declared m.ports ++ flat_map item_declared m.items

abbrev pub is_input : Role → Bool
is_input role.Input = true
is_input r = false

abbrev pub is_output : Role → Bool
is_output role.Output = true
is_output r = false

abbrev pub is_wire : Role → Bool
is_wire role.Wire = true
is_wire r = false

abbrev pub is_direction : Role → Bool
is_direction r = not (is_wire r)

-- what is declared as such
abbrev pub declared : (Role → Bool) → grammar.Module → List Declared
declared is m = filter (λ d. is d.role) (declarations m)

abbrev pub declared_names : (Role → Bool) → grammar.Module → List grammar.Name
declared_names is m = map (λ d. d.name) (declared is m)

abbrev pub port_name : grammar.Port → grammar.Name
port_name (grammar.Bare n) = n
port_name (grammar.Headed h) = h.name

abbrev pub port_names : Option grammar.Ports → List grammar.Name
port_names None = []
port_names (Some (grammar.Names ns)) = ns
port_names (Some (grammar.Declared ps)) = map port_name ps

abbrev pub ports : grammar.Module → List grammar.Name
ports m = port_names m.ports

-- ---- ranges of names

abbrev pub is_of : List ℕ → Declared → Bool
is_of text d = bytes_eq text d.name.name

-- the range of a name, by its first declaration; a name without one is no vector
abbrev pub range_in : grammar.Module → List ℕ → Option Range
range_in m text = elim (find (is_of text) (declarations m)) [ None ↦ None | Some d ↦ d.range ]

-- the nets of a name
abbrev pub nets_named : grammar.Module → grammar.Name → List Name
nets_named m n = nets_of n.name (range_in m n.name)

-- the bits of the ports that are declared as such, in the order of the port list
abbrev pub ports_as : (Role → Bool) → grammar.Module → List Name
ports_as is m = flat_map (nets_named m) (filter (λ n. is_in (scalar n) (names_of (declared_names is m))) (ports m))

-- ---- terminals

-- what a terminal is joined to, or why it isn't
pub data Source : Type 0 where
  Joins : Net → Source
  -- a bit that the name doesn't have
  NoBit : Source
  -- a vector of more bits than one
  NotOne : Source

abbrev pub whole_source : List ℕ → Option Range → Source
whole_source text None = Joins (Named (record { text = text; bit = None }))
whole_source text (Some r) = if r.left == r.right then Joins (Named (bit_name text r.left)) else NotOne

abbrev pub bit_source : List ℕ → ℕ → Option Range → Source
bit_source text bit None = NoBit
bit_source text bit (Some r) = if holds r bit then Joins (Named (bit_name text bit)) else NoBit

abbrev pub source_of : grammar.Module → grammar.Terminal → Source
source_of m (grammar.Whole n) = whole_source n.name (range_in m n.name)
source_of m (grammar.Select n digits) = bit_source n.name (decimal_value digits) (range_in m n.name)
source_of m (grammar.Level false) = Joins Low
source_of m (grammar.Level true) = Joins High

-- the net, where the terminal is joined to one
abbrev pub net_from : Source → Net
net_from (Joins net) = net
net_from none = Low

abbrev pub net_of : grammar.Module → grammar.Terminal → Net
net_of m t = net_from (source_of m t)

-- ---- gates, in the order of the text

-- an instance, with what its statement says of it
pub record Primitive : Type 0 where
  pub kind : Kind
  pub delay : Option grammar.Delay
  pub terminals : List grammar.Terminal

abbrev pub as_primitive : Kind → Option grammar.Delay → grammar.Instance → Primitive
as_primitive k d i = record { kind = k; delay = d; terminals = i.terminals }

abbrev pub item_primitives : grammar.Item → List Primitive
item_primitives (grammar.Declares d) = []
item_primitives (grammar.Gates g) = map (as_primitive g.kind g.delay) g.instances

abbrev pub primitives : grammar.Module → List Primitive
primitives m = flat_map item_primitives m.items

-- The outputs stand first: one, but of `buf` and `not` all terminals except the last.
abbrev pub outputs_of : Primitive → List grammar.Terminal
outputs_of p = take (output_count p.kind (length p.terminals)) p.terminals

abbrev pub inputs_of : Primitive → List grammar.Terminal
inputs_of p = drop (output_count p.kind (length p.terminals)) p.terminals

-- all terminals
abbrev pub terminals_in : grammar.Module → List grammar.Terminal
terminals_in m = flat_map (λ p. p.terminals) (primitives m)

-- The delay in steps that is stated, or the default. One value serves for both changes, and of two
-- the first is the rise delay.
abbrev pub delay_of : ℕ → Delay → Option grammar.Delay → Delay
delay_of tens default None = default
delay_of tens default (Some (grammar.Plain n)) = record { rise = steps_of tens n; fall = steps_of tens n }
delay_of tens default (Some (grammar.Single n)) = record { rise = steps_of tens n; fall = steps_of tens n }
delay_of tens default (Some (grammar.RiseFall n m)) = record { rise = steps_of tens n; fall = steps_of tens m }

-- the name of a net that an output drives
abbrev pub name_from : Net → Name
name_from (Named name) = name
name_from constant = record { text = []; bit = None }

-- a gate for each output
abbrev pub gate_by : grammar.Module → Delay → Primitive → grammar.Terminal → Gate
gate_by m default p output = record {
  kind = p.kind;
  delay = delay_of (unit_exponent m.fronts) default p.delay;
  output = name_from (net_of m output);
  inputs = map (net_of m) (inputs_of p);
}

abbrev pub primitive_gates : grammar.Module → Delay → Primitive → List Gate
primitive_gates m default p = map (gate_by m default p) (outputs_of p)

abbrev pub gates_of : Delay → grammar.Module → List Gate
gates_of default m = flat_map (primitive_gates m default) (primitives m)

-- how many of its gates have the default delay
abbrev pub defaulted_by : Option grammar.Delay → ℕ → ℕ
defaulted_by None n = n
defaulted_by (Some d) n = 0

abbrev pub defaulted_of : Primitive → ℕ
defaulted_of p = defaulted_by p.delay (length (outputs_of p))

-- ---- the step of time

-- 1, 10 or 100 of a unit
abbrev pub scaled : Scale → ℕ → Step
scaled s zeros = record { magnitude = if zeros == 0 then 1 else (if zeros == 1 then 10 else 100); scale = s }

-- a power of ten of a femtosecond
abbrev pub step_of : ℕ → Step
step_of tens =
    if nat_lt tens 3 then scaled scale.Femtoseconds tens
    else (if nat_lt tens 6 then scaled scale.Picoseconds (tens - 3)
    else (if nat_lt tens 9 then scaled scale.Nanoseconds (tens - 6)
    else (if nat_lt tens 12 then scaled scale.Microseconds (tens - 9)
    else (if nat_lt tens 15 then scaled scale.Milliseconds (tens - 12)
    else scaled scale.Seconds (tens - 15)))))

abbrev pub step_behind : Step → Front → Step
step_behind step (fronts.Directed (directive.Timescale t)) = step_of t.step
step_behind step front = step

-- By the last directive. Without one a step is a nanosecond.
abbrev pub unit_of : List Front → Step
unit_of fs = fold step_behind (record { magnitude = 1; scale = scale.Nanoseconds }) fs

-- ---- the netlist

abbrev pub netlist_in : Delay → grammar.Module → Netlist
netlist_in default m = record {
  name = m.name.name;
  inputs = ports_as is_input m;
  outputs = ports_as is_output m;
  gates = gates_of default m;
  unit = unit_of m.fronts;
  defaulted = sum_by defaulted_of (primitives m);
}
