-- The text of a report.
use Rattle.std.specs.Prelude.{ℕ, ◌-◌, nat_lt, Bool, true, false, List, [], ◌∷◌, ◌++◌, map, codes, decimal, Option, Some, None, ◌==◌, if◌then◌else◌}
use Rattle.std.specs.List.{flat_map}
use Rattle.td_gates.specs.declared.primitives.Kind.{Kind}
use Rattle.td_gates.specs.declared.primitives.Kind.TheVariants as kind
use Rattle.td_gates.specs.declared.primitives.Level.{Level}
use Rattle.td_gates.specs.declared.primitives.Level.TheVariants as level
use Rattle.td_nets.specs.declared.netlist.Unit.{Unit as Step}
use Rattle.td_nets.specs.Scales.{scale_text}
use Rattle.td_lines.specs.declared.line.Cause.{Cause}
use Rattle.td_lines.specs.declared.line.Cause.TheVariants as cause
use Rattle.td_lines.specs.declared.line.Standing.{Standing}
use Rattle.td_lines.specs.declared.line.Standing.TheVariants as standing
use Rattle.td_lines.specs.declared.line.Figure.{Figure}
use Rattle.td_lines.specs.declared.line.Figure.TheVariants as figure
use Rattle.td_lines.specs.declared.line.Span.{Span}
use Rattle.td_lines.specs.declared.line.Place.{Place}
use Rattle.td_lines.specs.declared.line.Last.{Last}
use Rattle.td_lines.specs.declared.line.Driver.{Driver}
use Rattle.td_lines.specs.declared.line.Change.{Change}
use Rattle.td_lines.specs.declared.line.Part.{Part}
use Rattle.td_lines.specs.declared.line.Found.{Found}
use Rattle.td_lines.specs.declared.line.Found.TheVariants as found
use Rattle.td_lines.specs.declared.line.Changes.{Changes}
use Rattle.td_lines.specs.declared.line.Requirement.{Requirement}
use Rattle.td_lines.specs.declared.line.Row.{Row}
use Rattle.td_lines.specs.declared.line.Vectors.{Vectors}
use Rattle.td_lines.specs.declared.line.Hazard.{Hazard}
use Rattle.td_lines.specs.declared.line.Hazard.TheVariants as hazard
use Rattle.td_lines.specs.declared.line.HazardRow.{HazardRow}
use Rattle.td_lines.specs.declared.line.Line.{Line}
use Rattle.td_lines.specs.declared.line.Line.TheVariants as line

abbrev pub newline : List ℕ
newline = 10 ∷ []

abbrev pub unit_line : Step → List ℕ
unit_line unit = codes "unit " ++ decimal unit.magnitude ++ codes " " ++ scale_text unit.scale ++ newline

-- a key with its space, and a number
abbrev pub number_line : List ℕ → ℕ → List ℕ
number_line key number = key ++ decimal number ++ newline

-- or a word
abbrev pub word_line : List ℕ → List ℕ → List ℕ
word_line key word = key ++ word ++ newline

abbrev pub delay_line : Option Span → List ℕ
delay_line None = codes "delay none" ++ newline
delay_line (Some span) = codes "delay " ++ decimal span.least ++ codes " " ++ decimal span.greatest ++ newline

abbrev pub place_line : List ℕ → Place → List ℕ
place_line key row = key ++ decimal row.place ++ codes " " ++ row.net ++ newline

abbrev pub place_lines : List ℕ → List Place → List ℕ
place_lines key rows = flat_map (place_line key) rows

abbrev pub moment_text : Option ℕ → List ℕ
moment_text None = codes "never"
moment_text (Some moment) = decimal moment

abbrev pub last_line : Last → List ℕ
last_line row = codes "last " ++ row.output ++ codes " " ++ moment_text row.moment ++ newline

abbrev pub level_text : Level → List ℕ
level_text level.Zero = codes "0"
level_text level.One = codes "1"
level_text level.X = codes "x"

abbrev pub kind_text : Kind → List ℕ
kind_text kind.And = codes "and"
kind_text kind.Nand = codes "nand"
kind_text kind.Or = codes "or"
kind_text kind.Nor = codes "nor"
kind_text kind.Xor = codes "xor"
kind_text kind.Xnor = codes "xnor"
kind_text kind.Buf = codes "buf"
kind_text kind.Not = codes "not"

-- the gate that made a net change and its delay; an input changes by itself
abbrev pub by_text : Option Driver → List ℕ
by_text None = codes "input" ++ newline
by_text (Some driver) = kind_text driver.kind ++ codes " " ++ decimal driver.delay ++ newline

abbrev pub levels_text : Level → Level → List ℕ
levels_text from to = codes " " ++ level_text from ++ codes " " ++ level_text to ++ codes " "

abbrev pub changed_text : Change → List ℕ
changed_text row = codes "change " ++ decimal row.moment ++ codes " " ++ row.net

abbrev pub change_line : Change → List ℕ
change_line row = changed_text row ++ levels_text row.from row.to ++ by_text row.by

abbrev pub bound_text : Option ℕ → List ℕ
bound_text None = codes "none"
bound_text (Some moment) = decimal moment

abbrev pub figure_key : Figure → List ℕ
figure_key figure.Arrivals = codes "a"
figure_key figure.Possibles = codes "t"
figure_key figure.Both = codes "m"
figure_key figure.Edges = codes "e"
figure_key figure.EdgesAndPossibles = codes "n"
figure_key figure.Earliest = codes "earliest"

abbrev pub bound_line : Figure → Option ℕ → List ℕ
bound_line by bound = figure_key by ++ codes " " ++ bound_text bound ++ newline

-- what says a lower and an upper figure, after these words
abbrev pub figures_line : List ℕ → ℕ → ℕ → List ℕ
figures_line front low high = front ++ decimal low ++ codes " " ++ decimal high ++ newline

abbrev pub cause_line : Cause → List ℕ
cause_line cause.Budget = codes "cause budget" ++ newline
cause_line cause.Memory = codes "cause memory" ++ newline
cause_line cause.Time = codes "cause time" ++ newline
cause_line cause.Effort = codes "cause effort" ++ newline
cause_line cause.Stop = codes "cause stop" ++ newline
cause_line cause.Required = codes "cause required" ++ newline

abbrev pub standing_text : Standing → List ℕ
standing_text standing.Met = codes "met"
standing_text standing.Violated = codes "violated"
standing_text standing.Open = codes "open"

abbrev pub required_line : ℕ → Standing → List ℕ
required_line moment standing = codes "required " ++ decimal moment ++ codes " " ++ standing_text standing ++ newline

abbrev pub bit : Bool → ℕ
bit false = 48
bit true = 49

-- a character for each bit, or `none`
abbrev pub bits : List Bool → List ℕ
bits [] = codes "none"
bits (first ∷ others) = map bit (first ∷ others)

abbrev pub vector_line : List ℕ → List Bool → List ℕ
vector_line key vector = key ++ bits vector ++ newline

abbrev pub found_text : Found → List ℕ
found_text (found.Exact time) = codes "exact " ++ decimal time
found_text (found.Between low high) = codes "between " ++ decimal low ++ codes " " ++ decimal high
found_text (found.AtMost high) = codes "between none " ++ decimal high
found_text found.NoPair = codes "none"

abbrev pub edges_text : Option ℕ → List ℕ
edges_text bound = codes " edges " ++ bound_text bound

-- a pair that has the figure, or the lower one, where there is one
abbrev pub pair_text : Option Vectors → List ℕ
pair_text None = []
pair_text (Some pair) = codes " from " ++ bits pair.from ++ codes " to " ++ bits pair.to

-- a moment after 0, if this is one
abbrev pub late : ℕ → Option ℕ
late time = if time == 0 then None else Some time

-- a moment, or `never` where it is 0; `L..H` where it is open, `none..H` where no pair is known
abbrev pub column_text : Found → List ℕ
column_text (found.Exact time) = moment_text (late time)
column_text (found.Between low high) = decimal low ++ codes ".." ++ decimal high
column_text (found.AtMost high) = codes "none.." ++ decimal high
column_text found.NoPair = codes "none"

abbrev pub changes_text : Option Changes → List ℕ
changes_text None = []
changes_text (Some changes) =
    codes " rise " ++ column_text changes.rise ++ codes " fall " ++ column_text changes.fall ++ codes " glitch " ++ column_text changes.glitch

-- a required moment less a figure, below 0 where the figure is later
abbrev pub slack_text : ℕ → ℕ → List ℕ
slack_text moment figure = if nat_lt moment figure then codes "-" ++ decimal (figure - moment) else decimal (moment - figure)

-- that of the figure; of two figures both, the lower slack first, which is that of the upper figure;
-- `none` in place of that of a figure that isn't known, and of both where there is no pair
abbrev pub slacks_text : ℕ → Found → List ℕ
slacks_text moment (found.Exact time) = slack_text moment time
slacks_text moment (found.Between low high) = slack_text moment high ++ codes ".." ++ slack_text moment low
slacks_text moment (found.AtMost high) = slack_text moment high ++ codes "..none"
slacks_text moment found.NoPair = codes "none"

-- how a required moment stands, and its slack, where one is required
abbrev pub requirement_text : Option Requirement → Found → List ℕ
requirement_text None found = []
requirement_text (Some required) found =
    codes " required " ++ standing_text required.standing ++ codes " slack " ++ slacks_text required.moment found

abbrev pub figures_text : Row → List ℕ
figures_text row = codes "each " ++ row.output ++ codes " " ++ found_text row.found ++ edges_text row.edges

abbrev pub columns_text : Row → List ℕ
columns_text row = pair_text row.pair ++ changes_text row.changes ++ requirement_text row.required row.found

abbrev pub row_line : Row → List ℕ
row_line row = figures_text row ++ columns_text row ++ newline

-- a pair of vectors, or why there is none
abbrev pub hazard_text : Hazard → List ℕ
hazard_text (hazard.Can from to) = codes " can " ++ bits from ++ codes " " ++ bits to
hazard_text hazard.Never = codes " never"
hazard_text hazard.NoPair = codes " none"
hazard_text hazard.Open = codes " open"

abbrev pub hazard_line : HazardRow → List ℕ
hazard_line row = codes "hazard " ++ row.output ++ codes " " ++ (bit row.level ∷ []) ++ hazard_text row.hazard ++ newline

abbrev pub spaced_word : List ℕ → List ℕ
spaced_word word = codes " " ++ word

-- with a space between each two
abbrev pub words_text : List (List ℕ) → List ℕ
words_text [] = []
words_text (word ∷ words) = word ++ flat_map spaced_word words

abbrev pub part_line : Part → List ℕ
part_line part = words_text part.words.items ++ newline

abbrev pub spaced_moment : ℕ → List ℕ
spaced_moment moment = codes " " ++ decimal moment

-- a space and a number for each, or ` none`
abbrev pub spaced : List ℕ → List ℕ
spaced [] = codes " none"
spaced (moment ∷ moments) = flat_map spaced_moment (moment ∷ moments)

abbrev pub at_line : List ℕ → List ℕ
at_line moments = codes "at" ++ spaced moments ++ newline

abbrev pub place_text : Option ℕ → List ℕ
place_text None = []
place_text (Some line) = codes " line " ++ decimal line

abbrev pub refused_line : ℕ → List ℕ → Option ℕ → List ℕ
refused_line number name line = codes "refused " ++ decimal number ++ codes " " ++ name ++ place_text line ++ newline

abbrev pub default_line : ℕ → ℕ → List ℕ
default_line rise fall = codes "default " ++ decimal rise ++ codes " " ++ decimal fall ++ newline

abbrev pub output_line : Option (List ℕ) → List ℕ
output_line None = codes "output all" ++ newline
output_line (Some numbers) = codes "output" ++ spaced numbers ++ newline

abbrev pub line_text : Line → List ℕ
line_text (line.Module name) = word_line (codes "module ") name
line_text (line.Unit unit) = unit_line unit
line_text (line.Inputs count) = number_line (codes "inputs ") count
line_text (line.Outputs count) = number_line (codes "outputs ") count
line_text (line.Gates count) = number_line (codes "gates ") count
line_text (line.Defaulted count) = number_line (codes "defaulted ") count
line_text (line.Depth count) = number_line (codes "depth ") count
line_text (line.Delay span) = delay_line span
line_text (line.InputPlaces rows) = place_lines (codes "input ") rows.items
line_text (line.OutputPlaces rows) = place_lines (codes "output ") rows.items
line_text (line.Lasts rows) = flat_map last_line rows.items
line_text (line.Time time) = number_line (codes "time ") time
line_text (line.Output name) = word_line (codes "output ") name
line_text (line.Changes rows) = flat_map change_line rows.items
line_text (line.Bound by moment) = bound_line by moment
line_text (line.Exact time) = number_line (codes "exact ") time
line_text (line.Between low high) = figures_line (codes "between ") low high
line_text (line.AtMost high) = number_line (codes "between none ") high
line_text line.NoPair = codes "none" ++ newline
line_text (line.Cause why) = cause_line why
line_text (line.From vector) = vector_line (codes "from ") vector
line_text (line.To vector) = vector_line (codes "to ") vector
line_text (line.Nodes count) = number_line (codes "nodes ") count
line_text (line.Units count) = number_line (codes "units ") count
line_text (line.Required moment standing) = required_line moment standing
line_text (line.Each rows) = flat_map row_line rows.items
line_text (line.Hazards rows) = flat_map hazard_line rows.items
line_text (line.Parts parts) = flat_map part_line parts.items
line_text (line.Accepted time) = number_line (codes "accepted ") time
line_text (line.AcceptedBetween time high) = figures_line (codes "accepted between ") time high
line_text line.AcceptedNone = codes "accepted none" ++ newline
line_text (line.Unchecked time) = number_line (codes "unchecked ") time
line_text (line.UncheckedBetween time high) = figures_line (codes "unchecked between ") time high
line_text line.UncheckedNone = codes "unchecked none" ++ newline
line_text (line.Default rise fall) = default_line rise fall
line_text (line.OutputNumbers numbers) = output_line numbers
line_text (line.First pins) = word_line (codes "first ") pins
line_text (line.Second pins) = word_line (codes "second ") pins
line_text (line.Hold mask) = word_line (codes "hold ") mask
line_text (line.Flips count) = number_line (codes "flips ") count
line_text (line.At moments) = at_line moments
line_text (line.Keep conditions) = word_line (codes "keep ") conditions
line_text (line.Refused number name line) = refused_line number name.now line

abbrev pub report_text : List Line → List ℕ
report_text report = flat_map line_text report
