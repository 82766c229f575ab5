-- The text of waves as a value change dump (IEEE 1364-2005, clause 18).
use Rattle.std.specs.Prelude.{ℕ, zero, suc, ◌+◌, ◌/◌, ◌%◌, List, [], ◌∷◌, ◌++◌, map, codes, false, None, nat_lt, ◌==◌, if◌then◌else◌}
use Rattle.std.specs.List.{flat_map, filter}
use Rattle.std.specs.Fmt.{digits_onto}
use Rattle.td_gates.specs.declared.primitives.Level.{Level}
use Rattle.td_gates.specs.declared.primitives.Level.TheVariants.{Zero, One, X}
use Rattle.td_gates.specs.declared.timing.Change.{Change}
use Rattle.td_gates.specs.Wave.{Wave}
use Rattle.td_nets.specs.declared.netlist.Unit.{Unit as Step}
use Rattle.td_nets.specs.Netlist.{Name, Net, Named, Netlist}
use Rattle.td_nets.specs.WellFormed.{driven}
use Rattle.td_nets.specs.Printed.{printed}
use Rattle.td_nets.specs.Scales.{scale_text}
use Rattle.td_vcd.specs.declared.events.Event.{Event}

-- ---- lines

-- a line: a keyword with what follows it, a number, or a level of a variable
pub data Line : Type 0 where
  Keyword : List ℕ → Line
  Number : ℕ → Line
  Sets : ℕ → Level → Line

-- the digits of a number in base 94, the least first, each the character 33 + digit; the first
-- number bounds how many
abbrev pub code_within : ℕ → ℕ → List ℕ
code_within zero number = []
code_within (suc digits) number = (33 + number % 94) ∷ (if nat_lt number 94 then [] else code_within digits (number / 94))

-- the identifier code of a variable
unfoldable pub code : ℕ → List ℕ
code variable = code_within (suc variable) variable

-- all decimal digits of a number (`decimal` of std gives the last 64)
unfoldable pub numeral : ℕ → List ℕ
numeral number = digits_onto (suc number) 10 false number []

abbrev pub level_character : Level → ℕ
level_character Zero = 48
level_character One = 49
level_character X = 120

abbrev pub line_text : Line → List ℕ
line_text (Keyword words) = codes "$" ++ words
line_text (Number number) = codes "#" ++ numeral number
line_text (Sets variable level) = level_character level ∷ code variable

-- a line and its newline
abbrev pub ended : Line → List ℕ
ended line = line_text line ++ 10 ∷ []

abbrev pub text_of : List Line → List ℕ
text_of lines = flat_map ended lines

-- ---- the head

-- how long a step takes
abbrev pub timescale : Step → Line
timescale unit = Keyword (codes "timescale " ++ numeral unit.magnitude ++ codes " " ++ scale_text unit.scale ++ codes " $end")

-- the module, by its printed name
abbrev pub scope : List ℕ → Line
scope name = Keyword (codes "scope module " ++ printed (record { text = name; bit = None }) ++ codes " $end")

abbrev pub dump_head : Netlist → List Line
dump_head netlist = Keyword (codes "version tdelay 1 $end") ∷ timescale netlist.unit ∷ scope netlist.name ∷ []

-- a variable of this number and name
abbrev pub declaration : ℕ → Name → Line
declaration variable name = Keyword (codes "var wire 1 " ++ code variable ++ codes " " ++ printed name ++ codes " $end")

-- the level of a variable before the first change
abbrev pub start_line : ℕ → Wave → Line
start_line variable wave = Sets variable wave.start

-- a line for each, numbered from this number on
abbrev pub numbered : {A : Type 0} → (ℕ → A → Line) → ℕ → List A → List Line
numbered line number [] = []
numbered line number (x ∷ others) = line number x ∷ numbered line (suc number) others

-- between the declarations and the settled levels
abbrev pub dump_begins : List Line
dump_begins = Keyword (codes "upscope $end") ∷ Keyword (codes "enddefinitions $end") ∷ Number 0 ∷ Keyword (codes "dumpvars") ∷ []

-- after the settled levels
abbrev pub dump_ends : List Line
dump_ends = Keyword (codes "end") ∷ []

-- ---- the changes

abbrev pub event_of : ℕ → Change → Event
event_of variable change = record { moment = change.moment; variable = variable; level = change.level }

-- the changes of waves, one variable after another, where the first has this number
abbrev pub events_from : ℕ → List Wave → List Event
events_from variable [] = []
events_from variable (wave ∷ others) = map (event_of variable) wave.changes ++ events_from (suc variable) others

abbrev pub moment_of : Event → ℕ
moment_of event = event.moment

-- the events of a moment
abbrev pub events_at : ℕ → List Event → List Event
events_at moment events = filter (λ event. event.moment == moment) events

abbrev pub event_line : Event → Line
event_line event = Sets event.variable event.level

-- the number that stands for a moment, since 0 stands for the settled levels
abbrev pub time_number : ℕ → ℕ
time_number moment = suc moment

-- the lines of a moment: its number, and its changes in the order of the variables
abbrev pub moment_lines : List Event → ℕ → List Line
moment_lines events moment = Number (time_number moment) ∷ map event_line (events_at moment events)

-- a number put among rising ones, unless it is there
abbrev pub with_number : ℕ → List ℕ → List ℕ
with_number new [] = new ∷ []
with_number new (first ∷ others) =
    if nat_lt new first then new ∷ first ∷ others
    else (if first == new then first ∷ others else first ∷ with_number new others)

-- these numbers in rising order, each of them once
abbrev pub rising : List ℕ → List ℕ
rising [] = []
rising (first ∷ others) = with_number first (rising others)

-- the lines of all moments at which a variable changes
abbrev pub change_lines : List Event → List Line
change_lines events = flat_map (moment_lines events) (rising (map moment_of events))

-- ---- the text

-- the lines of a dump of variables with these names and waves
abbrev pub dump_lines : Netlist → List Name → List Wave → List Line
dump_lines netlist names waves =
    dump_head netlist
    ++ numbered declaration 0 names
    ++ dump_begins
    ++ numbered start_line 0 waves
    ++ dump_ends
    ++ change_lines (events_from 0 waves)

unfoldable pub named_dump : Netlist → List Name → List Wave → List ℕ
named_dump netlist names waves = text_of (dump_lines netlist names waves)

-- the dump of a wave for each driven net: the inputs, and then the outputs of the gates
abbrev pub dump : Netlist → List Wave → List ℕ
dump netlist waves = named_dump netlist (driven netlist) waves

-- the waves of the variables
abbrev pub variable_waves : Netlist → (Net → Wave) → List Wave
variable_waves netlist waves = map (λ name. waves (Named name)) (driven netlist)
