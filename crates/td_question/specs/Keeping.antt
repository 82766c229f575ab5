-- Words and lines of conditions on nets: what each says of a netlist, and what all say together.
use Rattle.std.specs.Prelude.{◌≡◌, ◌≢◌, ◌⊎◌, ℕ, ◌+◌, ◌<◌, Bool, true, false, List, [], ◌∷◌, ◌++◌, length, codes, Option, Some, None, if◌then◌else◌}
use Rattle.std.specs.Char.{is_ascii_whitespace}
use Rattle.std.specs.List.{Contains}
use Rattle.td_gates.specs.declared.primitives.Level.TheVariants.{X}
use Rattle.td_nets.specs.Netlist.{Name, Named, Netlist}
use Rattle.td_nets.specs.Printed.{printed}
use Rattle.td_inputs.specs.declared.topic.Topic.TheVariants.{Keep}
use Rattle.td_inputs.specs.Readings.{same_topic}
use Rattle.td_inputs.specs.Scans.{Taken}
use Rattle.td_spans.specs.declared.condition.Form.{Form}
use Rattle.td_spans.specs.declared.condition.Form.TheVariants.{Levels, Equal}
use Rattle.td_refutation.specs.declared.conditions.NamedCondition.{NamedCondition}
use Rattle.td_refutation.specs.Asking.{net_at}
use Rattle.td_certificate.specs.Text.{form_text}
use Rattle.td_certificate.specs.Accepts.{are_fit}
use Rattle.td_question.specs.KeepLines.{Quote, end_trimmed, quote_in}
use Rattle.td_question.specs.declared.keeping.KeepFault.{KeepFault}
use Rattle.td_question.specs.declared.keeping.KeepFault.TheVariants as fault

-- ---- words

-- the word that asks this of the net of that name
abbrev pub keep_word : List ℕ → Form → List ℕ
keep_word name (Levels first second) = name ++ codes "=" ++ form_text (Levels first second)
keep_word name Equal = name ++ form_text Equal

-- something is asked: not both levels may be any
abbrev pub is_asking : Form → Bool
is_asking (Levels X X) = false
is_asking form = true

-- the word names this net and asks this of it
pub record HasParts (word name : List ℕ) (form : Form) : Type 0 where
  pub spelled : word ≡ keep_word name form
  pub named : 0 < length name
  pub asks : is_asking form ≡ true

-- The last field of the line asks this, and what stands before it, without the blanks at its end, is
-- this name of a net.
pub record HasFields (line name : List ℕ) (form : Form) : Type 0 where
  pub front : List ℕ
  pub blank : ℕ
  pub spelled : line ≡ front ++ blank ∷ form_text form
  pub apart : is_ascii_whitespace blank ≡ true
  pub name_is : name ≡ end_trimmed front
  pub named : 0 < length name
  pub asks : is_asking form ≡ true

abbrev pub SpellsAt : Option ℕ → List ℕ → List ℕ → Form → Type 0
SpellsAt None text name form = HasParts text name form
SpellsAt (Some number) text name form = HasFields text name form

-- the word, or the line of a file, names this net and asks this of it
abbrev pub Spells : Quote → List ℕ → Form → Type 0
Spells quote name form = SpellsAt quote.line quote.text name form

-- the words of conditions among those of options by name, in order
abbrev pub keep_texts : List Taken → List (List ℕ)
keep_texts [] = []
keep_texts (taken ∷ others) = if same_topic Keep taken.topic then taken.text ∷ keep_texts others else keep_texts others

-- ---- nets by their printed names

-- none of the nets with numbers less than this is printed so
abbrev pub NoneBefore : Netlist → List ℕ → ℕ → Type 0
NoneBefore netlist name count = (number : ℕ) (net : Name) → number < count → net_at netlist number ≡ Some (Named net) → printed net ≢ name

-- the net with this number is the first one, of the inputs and then the outputs of the gates, that
-- reports print so
pub record IsFirstNet (netlist : Netlist) (name : List ℕ) (number : ℕ) : Type 0 where
  pub net : Name
  pub stands : net_at netlist number ≡ Some (Named net)
  pub named : printed net ≡ name
  pub first : NoneBefore netlist name number

-- no net is printed so
abbrev pub HasNoNet : Netlist → List ℕ → Type 0
HasNoNet netlist name = (number : ℕ) (net : Name) → net_at netlist number ≡ Some (Named net) → printed net ≢ name

-- ---- conditions

-- the word or line says this condition on a net of the netlist
pub record SaysCondition (netlist : Netlist) (quote : Quote) (condition : NamedCondition) : Type 0 where
  pub name : List ℕ
  pub parts : Spells quote name condition.form
  pub net : IsFirstNet netlist name condition.net

-- the number of the netlist's nets, the two constants among them
abbrev pub count_nets : Netlist → ℕ
count_nets netlist = 2 + length netlist.inputs + length netlist.gates

-- These are the conditions that the words and lines say, each of them once, in the order of a
-- certificate.
pub record AreConditions (netlist : Netlist) (quotes : List Quote) (keep : List NamedCondition) : Type 0 where
  pub rising : are_fit (count_nets netlist) keep ≡ true
  pub said : (condition : NamedCondition) → Contains keep condition
      → (quote : Quote) × Contains quotes quote × SaysCondition netlist quote condition
  pub each : (quote : Quote) → Contains quotes quote
      → (condition : NamedCondition) × Contains keep condition × SaysCondition netlist quote condition

-- ---- words and lines that say none

-- this is wrong with the word or line: it names no net and asks nothing, or there is no net of the
-- name
abbrev pub IsFaultOfQuote : Netlist → Quote → KeepFault → Type 0
IsFaultOfQuote netlist quote (fault.Bad told) = (quote_in told ≡ quote) × ((name : List ℕ) (form : Form) → ¬ Spells quote name form)
IsFaultOfQuote netlist quote (fault.NoNet told) =
    (told.line ≡ quote.line) × ((form : Form) × Spells quote told.text.now form × HasNoNet netlist told.text.now)
IsFaultOfQuote netlist quote fault.TooLong = ⊥

-- this is wrong with the first of the words and lines that says no condition
abbrev pub IsFirstFault : Netlist → List Quote → KeepFault → Type 0
IsFirstFault netlist [] wrong = ⊥
IsFirstFault netlist (quote ∷ quotes) wrong =
    IsFaultOfQuote netlist quote wrong
    ⊎ (((condition : NamedCondition) × SaysCondition netlist quote condition) × IsFirstFault netlist quotes wrong)
