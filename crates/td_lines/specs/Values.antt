-- The JSON of a report: an object with a member for each line.
use Rattle.std.specs.Prelude.{◌≡◌, ℕ, true, List, [], ◌∷◌, ◌++◌, codes, decimal, Option, Some, None}
use Rattle.std.specs.List.{flat_map}
use Rattle.json.specs.Json.{Json, null, boolean, number, string, array, object, Items, no_items, item, Members, no_members, member}
use Rattle.json.specs.Token.{Token}
use Rattle.json.specs.Token as token
use Rattle.json.specs.Tree.{json_tokens}
use Rattle.json.specs.Written.{Written}
use Rattle.td_nets.specs.declared.netlist.Unit.{Unit as Step}
use Rattle.td_nets.specs.Scales.{scale_text}
use Rattle.td_lines.specs.declared.line.Cause.{Cause}
use Rattle.td_lines.specs.declared.line.Cause.TheVariants as cause
use Rattle.td_lines.specs.declared.line.Standing.{Standing}
use Rattle.td_lines.specs.declared.line.Span.{Span}
use Rattle.td_lines.specs.declared.line.Place.{Place}
use Rattle.td_lines.specs.declared.line.Last.{Last}
use Rattle.td_lines.specs.declared.line.Driver.{Driver}
use Rattle.td_lines.specs.declared.line.Change.{Change}
use Rattle.td_lines.specs.declared.line.Part.{Part}
use Rattle.td_lines.specs.declared.line.Found.{Found}
use Rattle.td_lines.specs.declared.line.Found.TheVariants as found
use Rattle.td_lines.specs.declared.line.Changes.{Changes}
use Rattle.td_lines.specs.declared.line.Requirement.{Requirement}
use Rattle.td_lines.specs.declared.line.Row.{Row}
use Rattle.td_lines.specs.declared.line.Vectors.{Vectors}
use Rattle.td_lines.specs.declared.line.Hazard.{Hazard}
use Rattle.td_lines.specs.declared.line.Hazard.TheVariants as hazard
use Rattle.td_lines.specs.declared.line.HazardRow.{HazardRow}
use Rattle.td_lines.specs.declared.line.Line.{Line}
use Rattle.td_lines.specs.declared.line.Line.TheVariants as line
use Rattle.td_lines.specs.Texts.{bit, bits, figure_key, level_text, kind_text, slack_text, standing_text}

-- these tokens were added, and what stood before them stays
pub record Adds (old new : Written) (tokens : List Token) : Type 0 where
  pub added : new.tokens ≡ old.tokens ++ tokens
  pub before : new.before ≡ old.before

-- the tokens of values that follow one another
abbrev pub rows_tokens : {A : Type 0} → (A → Json) → List A → List Token
rows_tokens value rows = flat_map (λ row. json_tokens (value row)) rows

-- the items of an array of values
abbrev pub items_by : {A : Type 0} → (A → Json) → List A → Items
items_by value [] = no_items
items_by value (row ∷ rows) = item (value row) (items_by value rows)

abbrev pub count_value : ℕ → Json
count_value count = number (decimal count)

abbrev pub unit_text : Step → List ℕ
unit_text unit = decimal unit.magnitude ++ codes " " ++ scale_text unit.scale

abbrev pub cause_text : Cause → List ℕ
cause_text cause.Budget = codes "budget"
cause_text cause.Memory = codes "memory"
cause_text cause.Time = codes "time"
cause_text cause.Effort = codes "effort"
cause_text cause.Stop = codes "stop"
cause_text cause.Required = codes "required"

-- an object of one member
abbrev pub sole : List ℕ → Json → Json
sole key value = object (member key value no_members)

abbrev pub moment_of : Option ℕ → Json
moment_of None = null
moment_of (Some moment) = number (decimal moment)

abbrev pub numbers_of : ℕ → ℕ → Json
numbers_of low high = array (item (number (decimal low)) (item (number (decimal high)) no_items))

-- no lower figure, and an upper one
abbrev pub none_to : ℕ → Json
none_to high = array (item null (item (number (decimal high)) no_items))

-- a required moment, and whether it is met
abbrev pub required_value : ℕ → Standing → Json
required_value moment standing =
    object (member (codes "time") (number (decimal moment)) (member (codes "standing") (string (standing_text standing)) no_members))

abbrev pub spanned_value : ℕ → ℕ → Json
spanned_value least greatest =
    object (member (codes "least") (number (decimal least)) (member (codes "greatest") (number (decimal greatest)) no_members))

abbrev pub span_value : Option Span → Json
span_value None = null
span_value (Some span) = spanned_value span.least span.greatest

abbrev pub place_value : Place → Json
place_value row =
    object (member (codes "index") (number (decimal row.place)) (member (codes "name") (string row.net) no_members))

abbrev pub last_value : Last → Json
last_value row = object (member (codes "output") (string row.output) (member (codes "time") (moment_of row.moment) no_members))

-- what makes a net change, and the gate's delay
abbrev pub driven_value : Option Driver → Members
driven_value None = member (codes "by") (string (codes "input")) no_members
driven_value (Some driver) =
    member (codes "by") (string (kind_text driver.kind)) (member (codes "delay") (number (decimal driver.delay)) no_members)

-- the level after a change, and what makes it
abbrev pub new_value : Change → Members
new_value row = member (codes "new") (string (level_text row.to)) (driven_value row.by)

abbrev pub change_value : Change → Json
change_value row =
    object (member (codes "time") (number (decimal row.moment)) (member (codes "net") (string row.net)
    (member (codes "old") (string (level_text row.from)) (new_value row))))

-- what is found of a delay: the key says how far it is known
abbrev pub found_key : Found → List ℕ
found_key (found.Exact time) = codes "exact"
found_key (found.Between low high) = codes "between"
found_key (found.AtMost high) = codes "between"
found_key found.NoPair = codes "none"

abbrev pub found_value : Found → Json
found_value (found.Exact time) = number (decimal time)
found_value (found.Between low high) = numbers_of low high
found_value (found.AtMost high) = none_to high
found_value found.NoPair = boolean true

-- the same, as an object of its own
abbrev pub found_object : Found → Json
found_object found = sole (found_key found) (found_value found)

-- what is found by the levels, and the members after it
abbrev pub glitch_value : Changes → Members → Members
glitch_value changes others = member (codes "glitch") (found_object changes.glitch) others

abbrev pub fall_value : Changes → Members → Members
fall_value changes others = member (codes "fall") (found_object changes.fall) (glitch_value changes others)

-- the same, where that is asked for
abbrev pub changes_value : Option Changes → Members → Members
changes_value None others = others
changes_value (Some changes) others = member (codes "rise") (found_object changes.rise) (fall_value changes others)

-- a required moment less a figure
abbrev pub slack_value : ℕ → ℕ → Json
slack_value moment figure = number (slack_text moment figure)

-- that of the figure; of two figures both, the lower slack first; null in place of that of a figure
-- that isn't known, and true where there is no pair
abbrev pub slacks_value : ℕ → Found → Json
slacks_value moment (found.Exact time) = slack_value moment time
slacks_value moment (found.Between low high) = array (item (slack_value moment high) (item (slack_value moment low) no_items))
slacks_value moment (found.AtMost high) = array (item (slack_value moment high) (item null no_items))
slacks_value moment found.NoPair = boolean true

-- the slack under the key of what is found
abbrev pub slack_object : ℕ → Found → Json
slack_object moment found = sole (found_key found) (slacks_value moment found)

-- how a required moment stands, and its slack, where one is required
abbrev pub requirement_value : Option Requirement → Found → Members
requirement_value None found = no_members
requirement_value (Some required) found =
    member (codes "standing") (string (standing_text required.standing)) (member (codes "slack") (slack_object required.moment found) no_members)

-- a pair, where there is one, and the members after it
abbrev pub pair_value : Option Vectors → Members → Members
pair_value None others = others
pair_value (Some pair) others = member (codes "from") (string (bits pair.from)) (member (codes "to") (string (bits pair.to)) others)

-- the bound by edges of a row, its pair, what is found by the levels, and how a required moment stands
abbrev pub edges_value : Row → Members
edges_value row =
    member (codes "edges") (moment_of row.edges)
    (pair_value row.pair (changes_value row.changes (requirement_value row.required row.found)))

abbrev pub row_value : Row → Json
row_value row = object (member (codes "output") (string row.output) (member (found_key row.found) (found_value row.found) (edges_value row)))

-- a pair of vectors, or why there is none
abbrev pub hazard_value : Hazard → Members
hazard_value (hazard.Can from to) =
    member (codes "answer") (string (codes "can")) (member (codes "from") (string (bits from)) (member (codes "to") (string (bits to)) no_members))
hazard_value hazard.Never = member (codes "answer") (string (codes "never")) no_members
hazard_value hazard.NoPair = member (codes "answer") (string (codes "none")) no_members
hazard_value hazard.Open = member (codes "answer") (string (codes "open")) no_members

abbrev pub hazard_row_value : HazardRow → Json
hazard_row_value row =
    object (member (codes "output") (string row.output) (member (codes "level") (string (bit row.level ∷ [])) (hazard_value row.hazard)))

abbrev pub part_value : Part → Json
part_value part = sole (codes "options") (array (items_by string part.words.items))

-- a name alone in an array
abbrev pub named : List ℕ → Json
named name = array (item (sole (codes "name") (string name)) no_items)

abbrev pub at_value : List ℕ → Json
at_value moments = array (items_by count_value moments)

-- a verdict's name, and its line
abbrev pub named_line : List ℕ → ℕ → Members
named_line name line = member (codes "verdict") (string name) (member (codes "line") (number (decimal line)) no_members)

-- the verdict that refuses a certificate, and its line
abbrev pub refused_value : ℕ → List ℕ → Option ℕ → Json
refused_value count name None = object (member (codes "number") (number (decimal count)) (member (codes "verdict") (string name) no_members))
refused_value count name (Some line) = object (member (codes "number") (number (decimal count)) (named_line name line))

-- the delays of gates that state none
abbrev pub delays_value : ℕ → ℕ → Json
delays_value rise fall = object (member (codes "rise") (number (decimal rise)) (member (codes "fall") (number (decimal fall)) no_members))

-- a number of an output
abbrev pub index_value : ℕ → Json
index_value place = sole (codes "index") (count_value place)

-- the numbers of outputs; none where all are meant
abbrev pub output_value : Option (List ℕ) → Json
output_value None = array no_items
output_value (Some numbers) = array (items_by index_value numbers)

abbrev pub key_of : Line → List ℕ
key_of (line.Module name) = codes "module"
key_of (line.Unit unit) = codes "unit"
key_of (line.Inputs count) = codes "inputs"
key_of (line.Outputs count) = codes "outputs"
key_of (line.Gates count) = codes "gates"
key_of (line.Defaulted count) = codes "defaulted"
key_of (line.Depth count) = codes "depth"
key_of (line.Delay span) = codes "delay"
key_of (line.InputPlaces rows) = codes "input"
key_of (line.OutputPlaces rows) = codes "output"
key_of (line.Lasts rows) = codes "last"
key_of (line.Time time) = codes "time"
key_of (line.Output name) = codes "output"
key_of (line.Changes rows) = codes "change"
key_of (line.Bound by moment) = figure_key by
key_of (line.Exact time) = codes "exact"
key_of (line.Between low high) = codes "between"
key_of (line.AtMost high) = codes "between"
key_of line.NoPair = codes "none"
key_of (line.Cause why) = codes "cause"
key_of (line.From vector) = codes "from"
key_of (line.To vector) = codes "to"
key_of (line.Nodes count) = codes "nodes"
key_of (line.Units count) = codes "units"
key_of (line.Required moment standing) = codes "required"
key_of (line.Each rows) = codes "each"
key_of (line.Hazards rows) = codes "hazard"
key_of (line.Parts parts) = codes "parts"
key_of (line.Accepted time) = codes "accepted"
key_of (line.AcceptedBetween time high) = codes "accepted"
key_of line.AcceptedNone = codes "accepted"
key_of (line.Unchecked time) = codes "unchecked"
key_of (line.UncheckedBetween time high) = codes "unchecked"
key_of line.UncheckedNone = codes "unchecked"
key_of (line.Default rise fall) = codes "default"
key_of (line.OutputNumbers numbers) = codes "output"
key_of (line.First pins) = codes "first"
key_of (line.Second pins) = codes "second"
key_of (line.Hold mask) = codes "hold"
key_of (line.Flips count) = codes "flips"
key_of (line.At moments) = codes "at"
key_of (line.Keep conditions) = codes "keep"
key_of (line.Refused count name line) = codes "refused"

abbrev pub value_of : Line → Json
value_of (line.Module name) = string name
value_of (line.Unit unit) = string (unit_text unit)
value_of (line.Inputs count) = number (decimal count)
value_of (line.Outputs count) = number (decimal count)
value_of (line.Gates count) = number (decimal count)
value_of (line.Defaulted count) = number (decimal count)
value_of (line.Depth count) = number (decimal count)
value_of (line.Delay span) = span_value span
value_of (line.InputPlaces rows) = array (items_by place_value rows.items)
value_of (line.OutputPlaces rows) = array (items_by place_value rows.items)
value_of (line.Lasts rows) = array (items_by last_value rows.items)
value_of (line.Time time) = number (decimal time)
value_of (line.Output name) = named name
value_of (line.Changes rows) = array (items_by change_value rows.items)
value_of (line.Bound by moment) = moment_of moment
value_of (line.Exact time) = number (decimal time)
value_of (line.Between low high) = numbers_of low high
value_of (line.AtMost high) = none_to high
value_of line.NoPair = boolean true
value_of (line.Cause why) = string (cause_text why)
value_of (line.From vector) = string (bits vector)
value_of (line.To vector) = string (bits vector)
value_of (line.Nodes count) = number (decimal count)
value_of (line.Units count) = number (decimal count)
value_of (line.Required moment standing) = required_value moment standing
value_of (line.Each rows) = array (items_by row_value rows.items)
value_of (line.Hazards rows) = array (items_by hazard_row_value rows.items)
value_of (line.Parts parts) = array (items_by part_value parts.items)
value_of (line.Accepted time) = found_object (found.Exact time)
value_of (line.AcceptedBetween time high) = found_object (found.Between time high)
value_of line.AcceptedNone = found_object found.NoPair
value_of (line.Unchecked time) = found_object (found.Exact time)
value_of (line.UncheckedBetween time high) = found_object (found.Between time high)
value_of line.UncheckedNone = found_object found.NoPair
value_of (line.Default rise fall) = delays_value rise fall
value_of (line.OutputNumbers numbers) = output_value numbers
value_of (line.First pins) = string pins
value_of (line.Second pins) = string pins
value_of (line.Hold mask) = string mask
value_of (line.Flips count) = number (decimal count)
value_of (line.At moments) = at_value moments
value_of (line.Keep conditions) = string conditions
value_of (line.Refused count name line) = refused_value count name.now line

-- a member of an object
abbrev pub member_tokens : List ℕ → Json → List Token
member_tokens key value = token.key key ∷ json_tokens value

abbrev pub line_tokens : Line → List Token
line_tokens printed = member_tokens (key_of printed) (value_of printed)

abbrev pub members_of : List Line → Members
members_of [] = no_members
members_of (printed ∷ lines) = member (key_of printed) (value_of printed) (members_of lines)
