-- The syntax tree of a text, and the tokens that spell it.
use Rattle.std.specs.Prelude.{◌≡◌, ℕ, zero, suc, ◌+◌, ◌*◌, ◌-◌, ◌≤◌, ◌==◌, not, if◌then◌else◌, List, [], ◌∷◌, ◌++◌, length, take, drop, filter, replicate, Option, None, Some, Bool, true, false, Ok}
use Rattle.std.specs.List.{flat_map, fold, sum_by, list_all, AllByRecursion}
use Rattle.td_gates.specs.declared.primitives.Kind.{Kind}
use Rattle.td_gates.specs.declared.primitives.Kind.TheVariants as kinds
use Rattle.td_nets.specs.declared.keyword.Keyword.{Keyword}
use Rattle.td_nets.specs.declared.keyword.Keyword.TheVariants as keyword
use Rattle.td_syntax.specs.declared.token.Symbol.{Symbol}
use Rattle.td_syntax.specs.declared.token.Symbol.TheVariants as symbol
use Rattle.td_syntax.specs.declared.token.Directive.{Directive}
use Rattle.td_syntax.specs.declared.token.Directive.TheVariants as directive
use Rattle.td_syntax.specs.declared.syntax.Role.{Role}
use Rattle.td_syntax.specs.declared.syntax.Role.TheVariants as role
use Rattle.td_syntax.specs.declared.syntax.Front.{Front}
use Rattle.td_syntax.specs.declared.syntax.Front.TheVariants as fronts
use Rattle.td_syntax.specs.Bytes.{is_zero}
use Rattle.td_syntax.specs.Token as lexical
use Rattle.td_syntax.specs.Token.{Numeral, Placed, placed_on}

-- ---- the tree

-- a name, and the line where it stands
pub record Name : Type 0 where
  pub name : List ℕ
  pub line : ℕ

-- [left:right], by the digits of both
pub record Range : Type 0 where
  pub left : List ℕ
  pub right : List ℕ

-- attributes are counted
pub record Declaration : Type 0 where
  pub attributes : ℕ
  pub role : Role
  pub wire : Bool
  pub range : Option Range
  pub names : List Name

-- a port that is declared in the port list
pub record Header : Type 0 where
  pub attributes : ℕ
  pub role : Role
  pub wire : Bool
  pub range : Option Range
  pub name : Name

pub data Port : Type 0 where
  -- with direction and range of the port before it
  Bare : Name → Port
  Headed : Header → Port

-- a list of names, or one that begins with a declared port
pub data Ports : Type 0 where
  Names : List Name → Ports
  Declared : List Port → Ports

-- a delay as written: #n, #(n) or #(rise, fall)
pub data Delay : Type 0 where
  Plain : Numeral → Delay
  Single : Numeral → Delay
  RiseFall : Numeral → Numeral → Delay

-- a name, a bit by the digits of its number, or a constant
pub data Terminal : Type 0 where
  Whole : Name → Terminal
  Select : Name → List ℕ → Terminal
  Level : Bool → Terminal

pub record Instance : Type 0 where
  pub name : Option Name
  pub terminals : List Terminal

pub record Statement : Type 0 where
  pub attributes : ℕ
  pub kind : Kind
  pub delay : Option Delay
  pub instances : List Instance

pub data Item : Type 0 where
  Declares : Declaration → Item
  Gates : Statement → Item

pub record Module : Type 0 where
  pub fronts : List Front
  pub name : Name
  pub ports : Option Ports
  pub items : List Item
  pub behind : List Directive

-- ---- its tokens, with the lines of names alone

abbrev pub name : Name → List Placed
name n = placed_on n.line (lexical.Name n.name) ∷ []

abbrev pub mark : Symbol → List Placed
mark m = placed_on 0 (lexical.Mark m) ∷ []

abbrev pub number : Numeral → List Placed
number n = placed_on 0 (lexical.Number n) ∷ []

abbrev pub whole_number : List ℕ → Numeral
whole_number digits = record { whole = digits; fraction = None }

-- a number without a point
abbrev pub whole : List ℕ → List Placed
whole digits = number (whole_number digits)

abbrev pub word : Keyword → List Placed
word k = placed_on 0 (lexical.Reserved k) ∷ []

abbrev pub attribute : Unit {0} → List Placed
attribute u = placed_on 0 lexical.Attribute ∷ []

abbrev pub attributes : ℕ → List Placed
attributes n = flat_map attribute (replicate n tt)

abbrev pub directed : Directive → List Placed
directed d = placed_on 0 (lexical.Directs (Ok d) []) ∷ []

abbrev pub front : Front → List Placed
front fronts.Attributed = attribute tt
front (fronts.Directed d) = directed d

abbrev pub optional : {A : Type 0} → (A → List Placed) → Option A → List Placed
optional spell None = []
optional spell (Some x) = spell x

-- what each is spelled by, with commas between them
unfoldable pub separated : {A : Type 0} → (A → List Placed) → List A → List Placed
separated spell [] = []
separated spell (x ∷ []) = spell x
separated spell (x ∷ y ∷ ys) = spell x ++ mark symbol.Comma ++ separated spell (y ∷ ys)

abbrev pub role_word : Role → List Placed
role_word role.Input = word keyword.Input
role_word role.Output = word keyword.Output
role_word role.Wire = word keyword.Wire

abbrev pub wire_word : Bool → List Placed
wire_word wire = if wire then word keyword.Wire else []

abbrev pub range : Range → List Placed
range r = mark symbol.LeftBracket ++ whole r.left ++ mark symbol.Colon ++ whole r.right ++ mark symbol.RightBracket

abbrev pub declaration : Declaration → List Placed
declaration d = attributes d.attributes ++ role_word d.role ++ wire_word d.wire ++ optional range d.range ++ separated name d.names ++ mark symbol.Semicolon

abbrev pub header : Header → List Placed
header h = attributes h.attributes ++ role_word h.role ++ wire_word h.wire ++ optional range h.range ++ name h.name

abbrev pub port : Port → List Placed
port (Bare n) = name n
port (Headed h) = header h

abbrev pub port_list : Ports → List Placed
port_list (Names ns) = separated name ns
port_list (Declared ps) = separated port ps

abbrev pub ports : Option Ports → List Placed
ports None = []
ports (Some ps) = mark symbol.Open ++ port_list ps ++ mark symbol.Close

abbrev pub delay : Option Delay → List Placed
delay None = []
delay (Some (Plain n)) = mark symbol.Hash ++ number n
delay (Some (Single n)) = mark symbol.Hash ++ mark symbol.Open ++ number n ++ mark symbol.Close
delay (Some (RiseFall n m)) = mark symbol.Hash ++ mark symbol.Open ++ number n ++ mark symbol.Comma ++ number m ++ mark symbol.Close

-- the number of a bit
abbrev pub select : List ℕ → List Placed
select digits = mark symbol.LeftBracket ++ whole digits ++ mark symbol.RightBracket

abbrev pub terminal : Terminal → List Placed
terminal (Whole n) = name n
terminal (Select n digits) = name n ++ select digits
terminal (Level b) = placed_on 0 (lexical.Constant b []) ∷ []

abbrev pub instance : Instance → List Placed
instance i = optional name i.name ++ mark symbol.Open ++ separated terminal i.terminals ++ mark symbol.Close

abbrev pub statement : Statement → List Placed
statement s = attributes s.attributes ++ word (keyword.Gate s.kind) ++ delay s.delay ++ separated instance s.instances ++ mark symbol.Semicolon

abbrev pub item : Item → List Placed
item (Declares d) = declaration d
item (Gates s) = statement s

abbrev pub module_tokens : Module → List Placed
module_tokens m =
    flat_map front m.fronts ++ word keyword.Module ++ name m.name ++ ports m.ports ++ mark symbol.Semicolon
    ++ flat_map item m.items ++ word keyword.EndModule ++ flat_map directed m.behind

-- ---- numbers

abbrev pub LiesWithin : ℕ → ℕ → ℕ → Type 0
LiesWithin low high n = (low ≤ n) × (n ≤ high)

-- the number so far with one more character at its end
abbrev pub with_digit : ℕ → ℕ → ℕ
with_digit n d = if d == 95 then n else 10 * n + (d - 48)

-- the number that digits write, with _ between them
abbrev pub decimal_value : List ℕ → ℕ
decimal_value digits = fold with_digit 0 digits

abbrev pub is_digit : ℕ → Bool
is_digit d = not (d == 95)

-- the digits after the point, without the _ between them
abbrev pub fraction_digits : Option (List ℕ) → List ℕ
fraction_digits None = []
fraction_digits (Some digits) = filter is_digit digits

-- ---- steps

-- the number with that many of the digits at its end, and zeros where there are fewer
abbrev pub steps_behind : ℕ → ℕ → List ℕ → ℕ
steps_behind n zero digits = n
steps_behind n (suc tens) [] = steps_behind (10 * n) tens []
steps_behind n (suc tens) (d ∷ ds) = steps_behind (with_digit n d) tens ds

-- A number of units, where a unit has 10 to the power of `tens` steps: its point moves `tens`
-- places to the right.
abbrev pub steps_of : ℕ → Numeral → ℕ
steps_of tens n = steps_behind (decimal_value n.whole) tens (fraction_digits n.fraction)

-- whether only zeros follow the point then
abbrev pub is_whole : ℕ → Numeral → Bool
is_whole tens n = list_all is_zero (drop tens (fraction_digits n.fraction))

-- a whole number of steps, from 1 to the greatest delay
pub record IsSteps (tens : ℕ) (n : Numeral) : Type 0 where
  pub whole : is_whole tens n ≡ true
  pub within : LiesWithin 1 1000000000 (steps_of tens n)

abbrev pub IsStatedDelay : ℕ → Option Delay → Type 0
IsStatedDelay tens None = Unit {0}
IsStatedDelay tens (Some (Plain n)) = IsSteps tens n
IsStatedDelay tens (Some (Single n)) = IsSteps tens n
IsStatedDelay tens (Some (RiseFall n m)) = IsSteps tens n × IsSteps tens m

-- The power of ten of a step that a unit is, by the last directive: 0 without one.
abbrev pub exponent_behind : ℕ → Front → ℕ
exponent_behind tens (fronts.Directed (directive.Timescale t)) = t.unit - t.step
exponent_behind tens front = tens

abbrev pub unit_exponent : List Front → ℕ
unit_exponent fs = fold exponent_behind 0 fs

-- ---- what a tree keeps

pub record IsRange (r : Range) : Type 0 where
  pub left : decimal_value r.left ≤ 1000000000
  pub right : decimal_value r.right ≤ 1000000000

abbrev pub IsMaybeRange : Option Range → Type 0
IsMaybeRange None = Unit {0}
IsMaybeRange (Some r) = IsRange r

-- a declaration names at least one name, and one that begins with `wire` has no second `wire`
pub record IsDeclaration (d : Declaration) : Type 0 where
  pub names : 1 ≤ length d.names
  pub wire : d.role ≡ role.Wire → d.wire ≡ false
  pub range : IsMaybeRange d.range

-- a direction
pub record IsHeader (h : Header) : Type 0 where
  pub role : ¬ (h.role ≡ role.Wire)
  pub range : IsMaybeRange h.range

abbrev pub IsPort : Port → Type 0
IsPort (Bare n) = Unit {0}
IsPort (Headed h) = IsHeader h

-- the first port is declared
abbrev pub BeginsHeaded : List Port → Type 0
BeginsHeaded (Headed h ∷ ps) = Unit {0}
BeginsHeaded ps = ⊥

abbrev pub ArePorts : Option Ports → Type 0
ArePorts None = Unit {0}
ArePorts (Some (Names ns)) = Unit {0}
ArePorts (Some (Declared ps)) = BeginsHeaded ps × AllByRecursion IsPort ps

-- ---- how many gates

-- buf and not have many outputs and one input, the others one output and many inputs
abbrev pub has_many_outputs : Kind → Bool
has_many_outputs kinds.Buf = true
has_many_outputs kinds.Not = true
has_many_outputs k = false

-- how many terminals are outputs, of this number of terminals; each makes a gate
abbrev pub output_count : Kind → ℕ → ℕ
output_count k terminals = if has_many_outputs k then terminals - 1 else 1

abbrev pub instance_gates : Kind → Instance → ℕ
instance_gates k i = output_count k (length i.terminals)

abbrev pub item_gates : Item → ℕ
item_gates (Declares d) = 0
item_gates (Gates s) = sum_by (instance_gates s.kind) s.instances

-- ---- gates

abbrev pub IsNet : Terminal → Type 0
IsNet (Level b) = ⊥
IsNet t = Unit {0}

-- an output and an input, or more; no output is a constant
pub record IsInstance (k : Kind) (i : Instance) : Type 0 where
  pub terminals : LiesWithin 2 1024 (length i.terminals)
  pub outputs : AllByRecursion IsNet (take (instance_gates k i) i.terminals)

pub record IsStatement (tens : ℕ) (s : Statement) : Type 0 where
  pub delay : IsStatedDelay tens s.delay
  pub instances : 1 ≤ length s.instances
  pub each : AllByRecursion (IsInstance s.kind) s.instances

abbrev pub IsItem : ℕ → Item → Type 0
IsItem tens (Declares d) = IsDeclaration d
IsItem tens (Gates s) = IsStatement tens s

-- what a module keeps beside its order of tokens
pub record IsModule (m : Module) : Type 0 where
  pub ports : ArePorts m.ports
  pub items : AllByRecursion (IsItem (unit_exponent m.fronts)) m.items
  pub gates : sum_by item_gates m.items ≤ 200000
