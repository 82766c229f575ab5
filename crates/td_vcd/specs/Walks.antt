-- Internal: the lines of changes that come in the order of their moments, and the nets of the
-- variables.
use Rattle.std.specs.Prelude.{ℕ, List, [], ◌∷◌, ◌++◌, ◌==◌, map, codes, if◌then◌else◌}
use Rattle.td_gates.specs.Wave.{Wave}
use Rattle.td_nets.specs.Netlist.{Name, Named}
use Rattle.td_nets.specs.WellFormed.{driven}
use Rattle.td_circuit.specs.Numbering.{Numbered, nets, AreNumbersOf}
use Rattle.td_vcd.specs.declared.events.Event.{Event}
use Rattle.td_vcd.specs.Text.{Line, Number, text_of, numbered, declaration, start_line, time_number, event_line}

-- the lines of a change after the line of this number
abbrev pub event_lines : ℕ → Event → List Line
event_lines number event =
    if time_number event.moment == number then event_line event ∷ [] else Number (time_number event.moment) ∷ event_line event ∷ []

-- the lines of changes after the line of this number
abbrev pub lines_from : ℕ → List Event → List Line
lines_from number [] = []
lines_from number (event ∷ later) = event_lines number event ++ lines_from (time_number event.moment) later

-- between the declarations and the settled levels
abbrev pub begins_text : List ℕ
begins_text = codes "$upscope $end\n$enddefinitions $end\n#0\n$dumpvars\n"

-- the text after the head, where the variables have these names and waves and the changes come in
-- this order
abbrev pub body_text : List Name → List Wave → List Event → List ℕ
body_text names waves events =
    text_of (numbered declaration 0 names)
    ++ (begins_text
    ++ (text_of (numbered start_line 0 waves)
    ++ (codes "$end\n" ++ text_of (lines_from 0 events))))

-- these are the nets of the variables
abbrev pub AreVariables : Numbered → List ℕ → Type 0
AreVariables circuit numbers = AreNumbersOf (nets circuit) numbers (map (λ name. Named name) (driven circuit.netlist))
