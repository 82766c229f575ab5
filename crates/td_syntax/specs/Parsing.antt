-- Which fault of tokens and grammar is reported: reading a module from the tokens in front, up to
-- the first fault. Each reader gives what it read and what is left.
use Rattle.std.specs.Prelude.{ℕ, ◌+◌, List, [], drop, length, Option, None, Some, is_some, Bool, true, false, not, Result, Ok, Err, ◌==◌, ◌&&◌, ◌||◌, nat_lt, if◌then◌else◌, codes}
use Rattle.td_gates.specs.declared.primitives.Kind.{Kind}
use Rattle.td_nets.specs.declared.keyword.Keyword.{Keyword}
use Rattle.td_nets.specs.declared.keyword.Keyword.TheVariants as keyword
use Rattle.td_syntax.specs.declared.token.Symbol.TheVariants as symbol
use Rattle.td_syntax.specs.declared.token.Stop.TheVariants as stop
use Rattle.td_syntax.specs.declared.token.Directive.{Directive}
use Rattle.td_syntax.specs.declared.token.Unread.{Unread}
use Rattle.td_syntax.specs.declared.token.Unread.TheVariants as unread
use Rattle.td_syntax.specs.declared.syntax.Role.{Role}
use Rattle.td_syntax.specs.declared.syntax.Role.TheVariants as role
use Rattle.td_syntax.specs.declared.syntax.Front.TheVariants as fronts
use Rattle.td_syntax.specs.declared.syntax.Front.{Front as Fronted}
use Rattle.td_syntax.specs.Token.{Numeral, Token, Name, Escaped, Reserved, Number, Constant, Mark, Attribute, Directs, Outside}
use Rattle.td_syntax.specs.Token.{Placed}
use Rattle.td_syntax.specs.Tokens.{Front, Next, Behind, front_of}
use Rattle.td_syntax.specs.Grammar as grammar
use Rattle.td_syntax.specs.Grammar.{has_many_outputs, unit_exponent, steps_of, is_whole, decimal_value}
use Rattle.td_syntax.specs.Faults.{Fault, Syntax, OutOfSubset, ZeroDelay, DelayTooFine, DelayTooLarge, TooMany, fault, refused, stopped, ◌>>=◌}
use Rattle.td_syntax.specs.Readers.{Remainder, next_at, take_at, maybe_at, is_mark, as_name, as_number, as_whole, as_keyword, as_attribute, as_directive, refused_name, name_at, whole_at, mark_at, maybe_mark_at, ListStep, More, Final, Done, many, behind, names_at}

-- ---- attributes and directives

abbrev pub attribute_member : Option (Unit {0}) → ListStep (Unit {0})
attribute_member None = Done
attribute_member (Some u) = More u

unfoldable pub attribute_step : ℕ → Remainder → Result (ListStep (Unit {0}) × Remainder) Fault
attribute_step k s = maybe_at as_attribute s >>= λ x. Ok (attribute_member x.0, x.1)

-- how many attributes stand in front
unfoldable pub attributes_at : Remainder → Result (ℕ × Remainder) Fault
attributes_at s = many attribute_step s >>= λ x. Ok (length x.0, x.1)

-- A directive that was in front on this line. Where its parts are cut, the text ends after it.
unfoldable pub directive_at : ℕ → Result Directive Unread → Remainder → Result (Directive × Remainder) Fault
directive_at line (Ok d) s = Ok (d, s)
directive_at line (Err unread.Wrong) s = Err (fault Syntax line)
directive_at line (Err unread.Short) s = next_at s >>= λ p. Err (refused p.0)

abbrev pub module_by : Keyword → Option (Unit {0})
module_by keyword.Module = Some tt
module_by keyword.Wire = None
module_by keyword.EndModule = None
module_by keyword.Input = None
module_by keyword.Output = None
module_by (keyword.Gate k) = None

abbrev pub as_module : Placed → Option (Unit {0})
as_module p = elim (as_keyword p) [ None ↦ None | Some k ↦ module_by k ]

abbrev pub front_directive : Placed → Remainder → Option (Result Directive Unread) → Result (ListStep Fronted × Remainder) Fault
front_directive p s (Some d) = directive_at p.line d s >>= λ x. Ok (More (fronts.Directed x.0), x.1)
front_directive p s None = elim (as_module p) [ None ↦ Err (refused p) | Some u ↦ Ok (Done, s) ]

abbrev pub front_by : Placed → Remainder → Option (Unit {0}) → Result (ListStep Fronted × Remainder) Fault
front_by p s (Some u) = Ok (More fronts.Attributed, s)
front_by p s None = front_directive p s (as_directive p)

-- an attribute, a directive or the word `module`
unfoldable pub front_step : ℕ → Remainder → Result (ListStep Fronted × Remainder) Fault
front_step k s = next_at s >>= λ p. front_by p.0 p.1 (as_attribute p.0)

-- whether no token stands in front
abbrev pub is_behind : Front → Bool
is_behind (Behind stop line) = true
is_behind (Next p) = false

abbrev pub behind_by : ℕ → Remainder → Remainder → Option (Result Directive Unread) → Result (ListStep Directive × Remainder) Fault
behind_by line s rest None = Ok (Done, s)
behind_by line s rest (Some d) = directive_at line d rest >>= λ x. Ok (More x.0, x.1)

-- a directive after the module, if one is in front
unfoldable pub behind_step : ℕ → Remainder → Result (ListStep Directive × Remainder) Fault
behind_step k s = if is_behind (front_of s.stream) then Ok (Done, s) else (next_at s >>= λ p. behind_by p.0.line s p.1 (as_directive p.0))

-- ---- delays

-- Checked in this order: no whole number of steps, zero, too large.
abbrev pub steps_by : ℕ → ℕ → Numeral → Remainder → Result (Numeral × Remainder) Fault
steps_by tens line n rest =
    if not (is_whole tens n) then Err (fault DelayTooFine line)
    else (if steps_of tens n == 0 then Err (fault ZeroDelay line)
    else (if nat_lt 1000000000 (steps_of tens n) then Err (fault DelayTooLarge line)
    else Ok (n, rest)))

abbrev pub steps_from : ℕ → Placed → Remainder → Option Numeral → Result (Numeral × Remainder) Fault
steps_from tens p rest None = Err (refused_name p)
steps_from tens p rest (Some n) = steps_by tens p.line n rest

-- a delay where a unit has 10 to the power of tens steps
unfoldable pub steps_at : ℕ → Remainder → Result (Numeral × Remainder) Fault
steps_at tens s = next_at s >>= λ p. steps_from tens p.0 p.1 (as_number p.0)

-- the end of a delay in brackets; a third value is outside the subset
unfoldable pub close_at : Remainder → Result Remainder Fault
close_at s = next_at s >>= λ p.
    if is_mark symbol.Close p.0.token then Ok p.1
    else (if is_mark symbol.Comma p.0.token then Err (fault (OutOfSubset (codes ",")) p.0.line)
    else Err (refused_name p.0))

-- whether a second value follows
unfoldable pub second_at : Remainder → Result (Bool × Remainder) Fault
second_at s = next_at s >>= λ p.
    if is_mark symbol.Comma p.0.token then Ok (true, p.1)
    else (if is_mark symbol.Close p.0.token then Ok (false, p.1)
    else Err (refused_name p.0))

abbrev pub pair_at : ℕ → Numeral → Bool × Remainder → Result (grammar.Delay × Remainder) Fault
pair_at tens first x = elim x.0 [
  | true ↦ steps_at tens x.1 >>= λ second. close_at second.1 >>= λ rest. Ok (grammar.RiseFall first second.0, rest)
  | false ↦ Ok (grammar.Single first, x.1)
]

-- one number or two follow #(
unfoldable pub bracketed_at : ℕ → Remainder → Result (grammar.Delay × Remainder) Fault
bracketed_at tens s = steps_at tens s >>= λ first. second_at first.1 >>= pair_at tens first.0

abbrev pub value_at : ℕ → Bool × Remainder → Result (grammar.Delay × Remainder) Fault
value_at tens x = elim x.0 [
  | true ↦ bracketed_at tens x.1
  | false ↦ steps_at tens x.1 >>= λ n. Ok (grammar.Plain n.0, n.1)
]

abbrev pub delay_by : ℕ → Bool × Remainder → Result (Option grammar.Delay × Remainder) Fault
delay_by tens x = elim x.0 [
  | true ↦ maybe_mark_at symbol.Open x.1 >>= value_at tens >>= λ d. Ok (Some d.0, d.1)
  | false ↦ Ok (None, x.1)
]

unfoldable pub delay_at : ℕ → Remainder → Result (Option grammar.Delay × Remainder) Fault
delay_at tens s = maybe_mark_at symbol.Hash s >>= delay_by tens

-- ---- terminals

-- one gate more
unfoldable pub count_at : ℕ → Remainder → Result Remainder Fault
count_at line s = if nat_lt s.gates 200000 then Ok (record { stream = s.stream; gates = s.gates + 1 }) else Err (fault TooMany line)

-- a terminal that drives; no constant does
unfoldable pub output_at : ℕ → grammar.Terminal → Remainder → Result Remainder Fault
output_at line (grammar.Whole n) s = count_at line s
output_at line (grammar.Select n digits) s = count_at line s
output_at line (grammar.Level b) s = Err (fault Syntax line)

-- The terminal with this number begins on this line. The first is an output.
unfoldable pub begin_terminal : ℕ → ℕ → grammar.Terminal → Remainder → Result Remainder Fault
begin_terminal k line t s =
    if nat_lt k 1024 then (if k == 0 then output_at line t s else Ok s)
    else Err (fault TooMany line)

-- The terminal before a comma isn't the last one.
unfoldable pub more_terminals : Kind → ℕ → ℕ → grammar.Terminal → Remainder → Result Remainder Fault
more_terminals kind k line t s = if has_many_outputs kind && nat_lt 0 k then output_at line t s else Ok s

-- The terminal before a `)` is the last one.
unfoldable pub end_terminals : ℕ → ℕ → Remainder → Result Remainder Fault
end_terminals k line s = if k == 0 then Err (fault Syntax line) else Ok s

unfoldable pub terminal_end : Kind → ℕ → ℕ → grammar.Terminal → Remainder → Result (ListStep grammar.Terminal × Remainder) Fault
terminal_end kind k line t s = next_at s >>= λ p.
    if is_mark symbol.Comma p.0.token then (more_terminals kind k line t p.1 >>= λ rest. Ok (More t, rest))
    else (if is_mark symbol.Close p.0.token then (end_terminals k p.0.line p.1 >>= λ rest. Ok (Final t, rest))
    else Err (refused p.0))

-- a name or a constant
abbrev pub base_by : ℕ → Token → Option grammar.Terminal
base_by line (Name w) = Some (grammar.Whole (record { name = w; line = line }))
base_by line (Escaped w) = Some (grammar.Whole (record { name = drop 1 w; line = line }))
base_by line (Constant b w) = Some (grammar.Level b)
base_by line (Reserved k) = None
base_by line (Number n) = None
base_by line (Mark m) = None
base_by line Attribute = None
base_by line (Directs d w) = None
base_by line (Outside w) = None

abbrev pub as_base : Placed → Option grammar.Terminal
as_base p = base_by p.line p.token

-- the number of a bit, after its [
unfoldable pub bit_at : Remainder → Result (List ℕ × Remainder) Fault
bit_at s = whole_at s >>= λ digits. mark_at symbol.RightBracket digits.1 >>= λ rest. Ok (digits.0, rest)

abbrev pub selected_by : grammar.Name → Bool × Remainder → Result (grammar.Terminal × Remainder) Fault
selected_by n x = elim x.0 [
  | true ↦ bit_at x.1 >>= λ digits. Ok (grammar.Select n digits.0, digits.1)
  | false ↦ Ok (grammar.Whole n, x.1)
]

-- a bit may follow a name
unfoldable pub selected_at : grammar.Terminal → Remainder → Result (grammar.Terminal × Remainder) Fault
selected_at (grammar.Whole n) s = maybe_mark_at symbol.LeftBracket s >>= selected_by n
selected_at (grammar.Select n digits) s = Ok (grammar.Select n digits, s)
selected_at (grammar.Level b) s = Ok (grammar.Level b, s)

abbrev pub terminal_by : Kind → ℕ → Placed → Remainder → Option grammar.Terminal → Result (ListStep grammar.Terminal × Remainder) Fault
terminal_by kind k p s None = Err (refused p)
terminal_by kind k p s (Some base) = begin_terminal k p.line base s >>= selected_at base >>= λ t. terminal_end kind k p.line t.0 t.1

unfoldable pub terminal_step : Kind → ℕ → Remainder → Result (ListStep grammar.Terminal × Remainder) Fault
terminal_step kind k s = next_at s >>= λ p. terminal_by kind k p.0 p.1 (as_base p.0)

-- ---- gates

-- a range after the name of an instance is outside the subset
abbrev pub opening_refusal : Bool → Placed → Fault
opening_refusal named p = if named && is_mark symbol.LeftBracket p.token then fault (OutOfSubset (codes "[")) p.line else refused p

-- the ( of an instance, which may have a name before it
unfoldable pub opening_at : Bool → Remainder → Result Remainder Fault
opening_at named s = next_at s >>= λ p. if is_mark symbol.Open p.0.token then Ok p.1 else Err (opening_refusal named p.0)

unfoldable pub instance_at : Kind → Remainder → Result (grammar.Instance × Remainder) Fault
instance_at kind s = do
  name ← maybe_at as_name s
  bracket ← opening_at (is_some name.0) name.1
  terminals ← many (terminal_step kind) bracket
  Ok (record { name = name.0; terminals = terminals.0 }, terminals.1)

unfoldable pub instance_step : Kind → ℕ → Remainder → Result (ListStep grammar.Instance × Remainder) Fault
instance_step kind k s = instance_at kind s >>= λ i. behind symbol.Semicolon i.0 i.1

-- after the word of the kind
unfoldable pub statement_at : ℕ → ℕ → Kind → Remainder → Result (grammar.Statement × Remainder) Fault
statement_at tens attributes kind s = do
  delay ← delay_at tens s
  instances ← many (instance_step kind) delay.1
  Ok (record { attributes = attributes; kind = kind; delay = delay.0; instances = instances.0 }, instances.1)

-- ---- declarations

-- a strength or a delay of nets is outside the subset
unfoldable pub behind_wire : Remainder → Result Remainder Fault
behind_wire s = next_at s >>= λ p.
    if is_mark symbol.Open p.0.token then Err (fault (OutOfSubset (codes "(")) p.0.line)
    else (if is_mark symbol.Hash p.0.token then Err (fault (OutOfSubset (codes "#")) p.0.line)
    else Ok s)

abbrev pub wire_by : Keyword → Option (Unit {0})
wire_by keyword.Wire = Some tt
wire_by keyword.Module = None
wire_by keyword.EndModule = None
wire_by keyword.Input = None
wire_by keyword.Output = None
wire_by (keyword.Gate k) = None

abbrev pub as_wire : Placed → Option (Unit {0})
as_wire p = elim (as_keyword p) [ None ↦ None | Some k ↦ wire_by k ]

abbrev pub wired : Option (Unit {0}) × Remainder → Result (Bool × Remainder) Fault
wired x = elim x.0 [
  | Some u ↦ behind_wire x.1 >>= λ rest. Ok (true, rest)
  | None ↦ Ok (false, x.1)
]

-- `wire` may follow `input` and `output`
unfoldable pub wire_at : Role → Remainder → Result (Bool × Remainder) Fault
wire_at role.Input s = maybe_at as_wire s >>= wired
wire_at role.Output s = maybe_at as_wire s >>= wired
wire_at role.Wire s = behind_wire s >>= λ rest. Ok (false, rest)

abbrev pub limited_from : Placed → Remainder → Option (List ℕ) → Result (List ℕ × Remainder) Fault
limited_from p rest None = Err (refused p)
limited_from p rest (Some digits) = if nat_lt 1000000000 (decimal_value digits) then Err (fault TooMany p.line) else Ok (digits, rest)

-- a number of a range, within its limit
unfoldable pub limited_at : Remainder → Result (List ℕ × Remainder) Fault
limited_at s = next_at s >>= λ p. limited_from p.0 p.1 (as_whole p.0)

-- after the [ of a range
unfoldable pub bounds_at : Remainder → Result (grammar.Range × Remainder) Fault
bounds_at s = do
  left ← limited_at s
  colon ← mark_at symbol.Colon left.1
  right ← limited_at colon
  rest ← mark_at symbol.RightBracket right.1
  Ok (record { left = left.0; right = right.0 }, rest)

abbrev pub range_by : Bool × Remainder → Result (Option grammar.Range × Remainder) Fault
range_by x = elim x.0 [
  | true ↦ bounds_at x.1 >>= λ r. Ok (Some r.0, r.1)
  | false ↦ Ok (None, x.1)
]

unfoldable pub range_at : Remainder → Result (Option grammar.Range × Remainder) Fault
range_at s = maybe_mark_at symbol.LeftBracket s >>= range_by

-- after the word of the role
unfoldable pub declaration_at : ℕ → Role → Remainder → Result (grammar.Declaration × Remainder) Fault
declaration_at attributes r s = do
  wire ← wire_at r s
  range ← range_at wire.1
  names ← names_at symbol.Semicolon range.1
  Ok (record { attributes = attributes; role = r; wire = wire.0; range = range.0; names = names.0 }, names.1)

-- ---- ports

abbrev pub direction_by : Keyword → Option Role
direction_by keyword.Input = Some role.Input
direction_by keyword.Output = Some role.Output
direction_by keyword.Module = None
direction_by keyword.EndModule = None
direction_by keyword.Wire = None
direction_by (keyword.Gate k) = None

abbrev pub as_direction : Placed → Option Role
as_direction p = elim (as_keyword p) [ None ↦ None | Some k ↦ direction_by k ]

unfoldable pub direction_at : Remainder → Result (Role × Remainder) Fault
direction_at s = take_at as_direction refused s

unfoldable pub header_at : Remainder → Result (grammar.Header × Remainder) Fault
header_at s = do
  attributes ← attributes_at s
  role ← direction_at attributes.1
  wire ← wire_at role.0 role.1
  range ← range_at wire.1
  name ← name_at range.1
  Ok (record { attributes = attributes.0; role = role.0; wire = wire.0; range = range.0; name = name.0 }, name.1)

unfoldable pub headed_at : Remainder → Result (grammar.Port × Remainder) Fault
headed_at s = header_at s >>= λ h. Ok (grammar.Headed h.0, h.1)

abbrev pub port_by : Option grammar.Name × Remainder → Result (grammar.Port × Remainder) Fault
port_by x = elim x.0 [
  | Some n ↦ Ok (grammar.Bare n, x.1)
  | None ↦ headed_at x.1
]

-- The first port is no bare name.
unfoldable pub port_at : ℕ → Remainder → Result (grammar.Port × Remainder) Fault
port_at k s = if k == 0 then headed_at s else (maybe_at as_name s >>= port_by)

unfoldable pub port_step : ℕ → Remainder → Result (ListStep grammar.Port × Remainder) Fault
port_step k s = port_at k s >>= λ p. behind symbol.Close p.0 p.1

-- whether a declared port begins so
abbrev pub is_heading : Placed → Bool
is_heading p = is_some (as_attribute p) || is_some (as_direction p)

-- the ports: at least one
unfoldable pub listed_at : Remainder → Result (grammar.Ports × Remainder) Fault
listed_at s = next_at s >>= λ p.
    if is_heading p.0 then (many port_step s >>= λ ports. Ok (grammar.Declared ports.0, ports.1))
    else (names_at symbol.Close s >>= λ names. Ok (grammar.Names names.0, names.1))

abbrev pub listed : Bool × Remainder → Result (grammar.Ports × Remainder) Fault
listed x = elim x.0 [
  | true ↦ Ok (grammar.Names [], x.1)
  | false ↦ listed_at x.1
]

abbrev pub ports_by : Bool × Remainder → Result (Option grammar.Ports × Remainder) Fault
ports_by x = elim x.0 [
  | true ↦ maybe_mark_at symbol.Close x.1 >>= listed >>= λ ports. Ok (Some ports.0, ports.1)
  | false ↦ Ok (None, x.1)
]

unfoldable pub ports_at : Remainder → Result (Option grammar.Ports × Remainder) Fault
ports_at s = maybe_mark_at symbol.Open s >>= ports_by

-- ---- items

abbrev pub declares : grammar.Declaration × Remainder → Result (ListStep grammar.Item × Remainder) Fault
declares d = Ok (More (grammar.Declares d.0), d.1)

abbrev pub gates : grammar.Statement × Remainder → Result (ListStep grammar.Item × Remainder) Fault
gates g = Ok (More (grammar.Gates g.0), g.1)

abbrev pub item_word : ℕ → ℕ → Placed → Remainder → Keyword → Result (ListStep grammar.Item × Remainder) Fault
item_word tens attributes p s keyword.Input = declaration_at attributes role.Input s >>= declares
item_word tens attributes p s keyword.Output = declaration_at attributes role.Output s >>= declares
item_word tens attributes p s keyword.Wire = declaration_at attributes role.Wire s >>= declares
item_word tens attributes p s (keyword.Gate kind) = statement_at tens attributes kind s >>= gates
-- attributes stand before items alone
item_word tens attributes p s keyword.EndModule = if attributes == 0 then Ok (Done, s) else Err (refused p)
item_word tens attributes p s keyword.Module = Err (refused p)

-- a name begins an instance of a module
abbrev pub item_by : ℕ → ℕ → Placed → Remainder → Option Keyword → Result (ListStep grammar.Item × Remainder) Fault
item_by tens attributes p s None = Err (refused_name p)
item_by tens attributes p s (Some k) = item_word tens attributes p s k

unfoldable pub item_step : ℕ → ℕ → Remainder → Result (ListStep grammar.Item × Remainder) Fault
item_step tens k s = attributes_at s >>= λ a. next_at a.1 >>= λ p. item_by tens a.0 p.0 p.1 (as_keyword p.0)

-- ---- the module

-- a second module is outside the subset
abbrev pub second_refusal : Placed → Fault
second_refusal p = elim (as_module p) [ Some u ↦ fault (OutOfSubset (codes "module")) p.line | None ↦ refused p ]

abbrev pub end_by : Remainder → Front → Result Remainder Fault
end_by s (Behind stop.End line) = Ok s
end_by s (Behind stop.Cut line) = Err (stopped stop.Cut line)
end_by s (Behind stop.Bad line) = Err (stopped stop.Bad line)
end_by s (Behind stop.Malformed line) = Err (stopped stop.Malformed line)
end_by s (Next p) = Err (second_refusal p)

-- nothing follows the module
unfoldable pub end_at : Remainder → Result Remainder Fault
end_at s = end_by s (front_of s.stream)

unfoldable pub module_at : Remainder → Result (grammar.Module × Remainder) Fault
module_at s = do
  fronts ← many front_step s
  name ← name_at fronts.1
  ports ← ports_at name.1
  semicolon ← mark_at symbol.Semicolon ports.1
  items ← many (item_step (unit_exponent fronts.0)) semicolon
  behind ← many behind_step items.1
  rest ← end_at behind.1
  Ok (record { fronts = fronts.0; name = name.0; ports = ports.0; items = items.0; behind = behind.0 }, rest)
