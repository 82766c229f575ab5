-- Internal: conditions as they are found, by the names of nets and in order.
use Rattle.std.specs.Prelude.{◌≡◌, ◌≢◌, ◌↔◌, ℕ, ◌⊎◌, ◌+◌, ◌-◌, ◌*◌, ◌<◌, ◌≤◌, true, List, [], ◌∷◌, ◌++◌, length, slice_get, slice_index_or, Option, None, Some}
use Rattle.std.specs.List.{Contains, position_from}
use Rattle.std.specs.Str.{bytes_eq}
use Rattle.td_nets.specs.Netlist.{Name, Named, Netlist}
use Rattle.td_nets.specs.Printed.{printed}
use Rattle.td_spans.specs.declared.condition.Form.{Form}
use Rattle.td_spans.specs.declared.condition.Form.TheVariants.{Levels, Equal}
use Rattle.td_refutation.specs.declared.conditions.NamedCondition.{NamedCondition}
use Rattle.td_refutation.specs.Asking.{net_at}
use Rattle.td_certificate.specs.Text.{form_text, level_byte}
use Rattle.td_certificate.specs.Accepts.{form_order, are_fit}
use Rattle.td_question.specs.KeepLines.{Quote}
use Rattle.td_question.specs.Keeping.{is_asking, Spells, NoneBefore, IsFirstNet, HasNoNet, SaysCondition}

-- these characters ask for the levels of this form, of which not both may be any
abbrev pub AreLevels : ℕ → ℕ → Form → Type 0
AreLevels first second (Levels before after) = (first ≡ level_byte before) × (second ≡ level_byte after) × (is_asking (Levels before after) ≡ true)
AreLevels first second Equal = ⊥

-- these characters ask this of a net
abbrev pub AsksForm : ℕ → ℕ → Form → Type 0
AsksForm first second form = (first ∷ second ∷ [] ≡ form_text form) × (is_asking form ≡ true)

-- the names of the words and lines that name a net
abbrev pub AreNames : List Quote → List (List ℕ) → Type 0
AreNames quotes names = (quote : Quote) (name : List ℕ) (form : Form) → Contains quotes quote → Spells quote name form → Contains names name

-- ---- nets by their names

-- the first place of a name
abbrev pub place_in : List (List ℕ) → List ℕ → Option ℕ
place_in names name = position_from (bytes_eq name) 0 names

abbrev pub number_at : List (Option ℕ) → Option ℕ → Option ℕ
number_at numbers None = None
number_at numbers (Some place) = slice_index_or numbers place None

-- the number that stands for a name
abbrev pub number_in : List (List ℕ) → List (Option ℕ) → List ℕ → Option ℕ
number_in names numbers name = number_at numbers (place_in names name)

-- the net with this number is printed so
abbrev pub IsPrinted : Netlist → ℕ → List ℕ → Type 0
IsPrinted netlist number text = (net : Name) × (net_at netlist number ≡ Some (Named net)) × (printed net ≡ text)

abbrev pub or_number : Option ℕ → ℕ → Option ℕ
or_number None number = Some number
or_number (Some earlier) number = Some earlier

-- this number stands for the name, where none did, and all others are the same
pub record IsNoted (names : List (List ℕ)) (text : List ℕ) (number : ℕ) (old new : List (Option ℕ)) : Type 0 where
  pub count : length new ≡ length old
  pub here : Contains names text → number_in names new text ≡ or_number (number_in names old text) number
  pub others : (name : List ℕ) → name ≢ text → number_in names new name ≡ number_in names old name

-- the number of the first net that is printed so, if there is one
abbrev pub IsFound : Netlist → List ℕ → Option ℕ → Type 0
IsFound netlist name None = HasNoNet netlist name
IsFound netlist name (Some number) = IsFirstNet netlist name number

-- for each name the number of the first net that is printed so, if there is one
abbrev pub AreFound : Netlist → List (List ℕ) → List (Option ℕ) → Type 0
AreFound netlist names numbers = (name : List ℕ) → Contains names name → IsFound netlist name (number_in names numbers name)

-- the number of the first net, of those with numbers less than the count, that is printed so, if
-- there is one
abbrev pub IsFoundBefore : Netlist → ℕ → List ℕ → Option ℕ → Type 0
IsFoundBefore netlist count name None = NoneBefore netlist name count
IsFoundBefore netlist count name (Some number) = IsFirstNet netlist name number

pub record AreFoundBefore (netlist : Netlist) (count : ℕ) (names : List (List ℕ)) (numbers : List (Option ℕ)) : Type 0 where
  pub length_is : length numbers ≡ length names
  pub each : (name : List ℕ) → Contains names name → IsFoundBefore netlist count name (number_in names numbers name)

-- ---- conditions in order

-- the condition that each word and line says
abbrev pub AreSaid : Netlist → List Quote → List NamedCondition → Type 0
AreSaid netlist [] [] = Unit {0}
AreSaid netlist (quote ∷ quotes) (condition ∷ said) = SaysCondition netlist quote condition × AreSaid netlist quotes said
AreSaid netlist quotes said = ⊥

-- a condition's place among others, by its net, and then by the bytes of its form
abbrev pub condition_order : NamedCondition → ℕ
condition_order condition = 65536 * condition.net + form_order condition.form

abbrev pub IsLastOf : List NamedCondition → NamedCondition → Type 0
IsLastOf kept last = slice_get kept (length kept - 1) ≡ Some last

-- the condition is added to those that are kept, where it stands behind the last one
abbrev pub IsPushed : List NamedCondition → NamedCondition → List NamedCondition → Type 0
IsPushed old next new =
    ((new ≡ old) × ((last : NamedCondition) × IsLastOf old last × (condition_order next ≤ condition_order last)))
    ⊎ ((new ≡ old ++ next ∷ []) × ((last : NamedCondition) → IsLastOf old last → condition_order last < condition_order next))

-- each condition is on an input or a gate's output
abbrev pub AreOnNets : ℕ → List NamedCondition → Type 0
AreOnNets count said = (condition : NamedCondition) → Contains said condition → (2 ≤ condition.net) × (condition.net < count)

-- the last of the conditions that are kept is the one before this place of the sorted ones
abbrev pub IsLastBefore : List NamedCondition → ℕ → List NamedCondition → Type 0
IsLastBefore sorted place kept =
    ((kept ≡ []) × (place ≡ 0))
    ⊎ ((last : NamedCondition) × (i : ℕ) × IsLastOf kept last × (place ≡ i + 1) × (slice_get sorted i ≡ Some last))

-- the sorted conditions before this place, each once, in order
pub record IsKeptTo (sorted : List NamedCondition) (place : ℕ) (kept : List NamedCondition) : Type 0 where
  pub rising : (count : ℕ) → AreOnNets count sorted → are_fit count kept ≡ true
  pub last : IsLastBefore sorted place kept
  pub from : (condition : NamedCondition) → Contains kept condition → Contains sorted condition
  pub each : (i : ℕ) (condition : NamedCondition) → i < place → slice_get sorted i ≡ Some condition → Contains kept condition

-- the same conditions, each once, in the order of a certificate
pub record AreInOrder (said keep : List NamedCondition) : Type 0 where
  pub rising : (count : ℕ) → AreOnNets count said → are_fit count keep ≡ true
  pub same : (condition : NamedCondition) → Contains keep condition ↔ Contains said condition
