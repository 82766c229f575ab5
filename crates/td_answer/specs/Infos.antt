-- What is true of the outcome of `info`.
use Rattle.std.specs.Prelude.{◌≡◌, ℕ, ◌+◌, List, [], ◌∷◌, ◌++◌, length, Option, Some, None}
use Rattle.td_nets.specs.Netlist.{Name, Netlist}
use Rattle.td_reading.specs.declared.reading.Reading.{Reading}
use Rattle.td_source.specs.Reads.{HasCircuit}
use Rattle.td_source.specs.Faults.{IsSourceFault}
use Rattle.td_info.specs.declared.ranges.Range.{Range}
use Rattle.td_info.specs.Sizes.{IsDepth, HasRange}
use Rattle.td_question.specs.declared.fault.QuestionFault.TheVariants as question
use Rattle.td_lines.specs.declared.line.Span.{Span}
use Rattle.td_lines.specs.declared.line.Place.{Place}
use Rattle.td_lines.specs.declared.line.Line.{Line}
use Rattle.td_lines.specs.declared.line.Line.TheVariants as line
use Rattle.td_answer.specs.Names.{label}
use Rattle.td_answer.specs.Rows.{HasRows}
use Rattle.td_answer.specs.declared.outcome.Outcome.{Outcome}
use Rattle.td_answer.specs.declared.refusal.Refusal.{Refusal}
use Rattle.td_answer.specs.declared.refusal.Refusal.TheVariants as refusal
use Rattle.td_answer.specs.declared.status.Status.TheVariants.{Done}

-- the nets in order, by their places from this one on
abbrev pub places_from : ℕ → List Name → List Place
places_from place [] = []
places_from place (name ∷ others) = record { place = place; net = label name } ∷ places_from (place + 1) others

-- the line of inputs, where there are any
abbrev pub AreInputs : List Place → List Line → Type 0
AreInputs = HasRows (λ rows. line.InputPlaces rows)

-- that of outputs
abbrev pub AreOutputs : List Place → List Line → Type 0
AreOutputs = HasRows (λ rows. line.OutputPlaces rows)

abbrev pub span_of : Option Range → Option Span
span_of None = None
span_of (Some range) = Some (record { least = range.least; greatest = range.greatest })

abbrev pub module_name : Netlist → Name
module_name netlist = record { text = netlist.name; bit = None }

-- the name of the module, the unit of a step, and how many inputs, outputs and gates there are
abbrev pub size_lines : Netlist → List Line
size_lines netlist =
    line.Module (label (module_name netlist)) ∷ line.Unit netlist.unit ∷ line.Inputs (length netlist.inputs)
    ∷ line.Outputs (length netlist.outputs) ∷ line.Gates (length netlist.gates) ∷ []

-- how many gates the default delay serves, the depth, and the least and the greatest delay
pub record AreDelays (netlist : Netlist) (lines : List Line) : Type 0 where
  pub depth : ℕ
  pub is_depth : IsDepth netlist depth
  pub range : Option Range
  pub has_range : HasRange netlist range
  pub are : lines ≡ line.Defaulted netlist.defaulted ∷ line.Depth depth ∷ line.Delay (span_of range) ∷ []

-- the inputs and the outputs
pub record ArePlaces (netlist : Netlist) (lines : List Line) : Type 0 where
  pub inputs : List Line
  pub are_inputs : AreInputs (places_from 0 netlist.inputs) inputs
  pub outputs : List Line
  pub are_outputs : AreOutputs (places_from 0 netlist.outputs) outputs
  pub are : lines ≡ inputs ++ outputs

-- the report tells what is in this netlist
pub record TellsNetlist (netlist : Netlist) (report : List Line) : Type 0 where
  pub delays : List Line
  pub are_delays : AreDelays netlist delays
  pub places : List Line
  pub are_places : ArePlaces netlist places
  pub is : report ≡ size_lines netlist ++ delays ++ places

-- the netlist that is read of the text has no loop, and the report tells what is in it
pub record IsTrueInfo (text : List ℕ) (reading : Reading) (outcome : Outcome) : Type 0 where
  pub netlist : Netlist
  pub circuit : HasCircuit text reading netlist
  pub tells : TellsNetlist netlist outcome.report
  pub ends : outcome.status ≡ Done

abbrev pub IsRefusedInfo : List ℕ → Reading → Refusal → Type 0
IsRefusedInfo text reading refusal.OutOfMemory = Unit {0}
IsRefusedInfo text reading (refusal.Question (question.Source fault)) = IsSourceFault text reading fault
IsRefusedInfo text reading other = ⊥
