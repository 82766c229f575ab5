-- Lines: what their numbers say.
use Rattle.std.specs.Prelude.{ℕ, ◌==◌, nat_lt, nat_le, Bool, true, false, ◌&&◌, List, [], ◌∷◌, length, map, take, drop, Option, Some, None, if◌then◌else◌}
use Rattle.std.specs.List.{list_all}
use Rattle.td_circuit.specs.Numbering.{Numbered}
use Rattle.td_propagation.specs.declared.literal.Literal.{Literal}
pub use Rattle.td_propagation.specs.Literals.{literal_at}
use Rattle.td_spans.specs.declared.reason.Reason.{Reason}
use Rattle.td_spans.specs.declared.reason.Reason.TheVariants as reason
use Rattle.td_spans.specs.declared.variable.Variable.{Variable}
use Rattle.td_spans.specs.declared.variable.Variable.TheVariants as variable
use Rattle.td_spans.specs.Lookups.{net_named}
use Rattle.td_spans.specs.Times.{is_by}
use Rattle.td_refutation.specs.declared.kind.StepKind.{StepKind}
use Rattle.td_refutation.specs.declared.kind.StepKind.TheVariants.{First, Last, Span, Flips, Gate, Table, Net, Pairs, Keep, Lemma, End, Again}

-- a line: what it does, and its numbers
pub record Step : Type 0 where
  pub kind : StepKind
  pub numbers : List ℕ

-- what a line says
pub data Deed : Type 0 where
  -- nothing: its numbers aren't those of such a line
  NoDeed : Deed
  -- there is this variable
  Having : Variable → Deed
  -- the reason gives the clause
  Naming : Reason → List Literal → Deed
  -- the hints show the clause
  Showing : List Literal → List ℕ → Deed
  -- the net's end for the level is the place, by a clause that the hints show
  Lowering : ℕ → Bool → ℕ → List Literal → List ℕ → Deed
  -- the ends of the net are those by its gate
  Retaking : ℕ → Deed

-- ---- literals

-- whether it is the number of a literal
abbrev pub is_literal : ℕ → Bool
is_literal number = nat_lt number 8589934592

abbrev pub naming : Reason → List ℕ → Deed
naming why numbers = if list_all is_literal numbers then Naming why (map literal_at numbers) else NoDeed

-- the numbers of a clause's literals, of which there are as many as the first number says, and the
-- hints after them
abbrev pub shown_by_numbers : List ℕ → Option (List ℕ × List ℕ)
shown_by_numbers [] = None
shown_by_numbers (count ∷ rest) =
    if nat_le count (length rest) then (if list_all is_literal (take count rest) then Some (take count rest, drop count rest) else None) else None

-- ---- variables

abbrev pub of_net : Bool → Option ℕ → Option Variable
of_net last None = None
of_net true (Some net) = Some (variable.Last net)
of_net false (Some net) = Some (variable.First net)

-- the variable of the start of a net, or of its end
abbrev pub net_variable : Numbered → Bool → ℕ → Option Variable
net_variable circuit last number = of_net last (net_named circuit number)

abbrev pub of_span : Bool → ℕ → Option ℕ → Option ℕ → Option Variable
of_span level first last None = None
of_span level first last (Some net) = Some (variable.Span (record { net = net; level = level; first = first; last = last }))

-- the variable of a net's level at all places of a span
abbrev pub span_variable : Numbered → ℕ → ℕ → ℕ → Option ℕ → Option Variable
span_variable circuit number level first last =
    if nat_lt level 2 && is_by first last then of_span (level == 1) first last (net_named circuit number) else None

-- the variable of how many of the first inputs differ
abbrev pub flips_variable : Numbered → ℕ → ℕ → Option Variable
flips_variable circuit inputs count = if nat_le inputs (length circuit.netlist.inputs) then Some (variable.Flips inputs count) else None

-- the variable of a line, if it is one's
abbrev pub variable_at : Numbered → StepKind → List ℕ → Option Variable
variable_at circuit First (net ∷ []) = net_variable circuit false net
variable_at circuit Last (net ∷ []) = net_variable circuit true net
variable_at circuit Span (net ∷ level ∷ first ∷ []) = span_variable circuit net level first None
variable_at circuit Span (net ∷ level ∷ first ∷ last ∷ []) = span_variable circuit net level first (Some last)
variable_at circuit Flips (inputs ∷ count ∷ []) = flips_variable circuit inputs count
variable_at circuit kind numbers = None

-- ---- deeds

abbrev pub having : Option Variable → Deed
having None = NoDeed
having (Some new) = Having new

abbrev pub showing : Option (List ℕ × List ℕ) → Deed
showing None = NoDeed
showing (Some shown) = Showing (map literal_at shown.0) shown.1

abbrev pub lowering_of : ℕ → Bool → ℕ → Option (List ℕ × List ℕ) → Deed
lowering_of net level place None = NoDeed
lowering_of net level place (Some shown) = Lowering net level place (map literal_at shown.0) shown.1

abbrev pub lowering_at : Option ℕ → Bool → ℕ → Option (List ℕ × List ℕ) → Deed
lowering_at None level place shown = NoDeed
lowering_at (Some net) level place shown = lowering_of net level place shown

abbrev pub lowering : Numbered → List ℕ → Deed
lowering circuit (net ∷ level ∷ place ∷ rest) =
    if nat_lt level 2 then lowering_at (net_named circuit net) (level == 1) place (shown_by_numbers rest) else NoDeed
lowering circuit numbers = NoDeed

abbrev pub retaking_at : Option ℕ → Deed
retaking_at None = NoDeed
retaking_at (Some net) = Retaking net

abbrev pub retaking : Numbered → List ℕ → Deed
retaking circuit (net ∷ []) = retaking_at (net_named circuit net)
retaking circuit numbers = NoDeed

-- what a line says
abbrev pub deed_of : Numbered → StepKind → List ℕ → Deed
deed_of circuit First numbers = having (variable_at circuit First numbers)
deed_of circuit Last numbers = having (variable_at circuit Last numbers)
deed_of circuit Span numbers = having (variable_at circuit Span numbers)
deed_of circuit Flips numbers = having (variable_at circuit Flips numbers)
deed_of circuit Gate numbers = naming reason.Gate numbers
deed_of circuit Table numbers = naming reason.Table numbers
deed_of circuit Net numbers = naming reason.Net numbers
deed_of circuit Pairs numbers = naming reason.Pairs numbers
deed_of circuit Keep numbers = naming reason.Keep numbers
deed_of circuit Lemma numbers = showing (shown_by_numbers numbers)
deed_of circuit End numbers = lowering circuit numbers
deed_of circuit Again numbers = retaking circuit numbers
