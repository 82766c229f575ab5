-- Certificates and their one spelling: lines, each ended by a newline.
use Rattle.std.specs.Prelude.{◌≡◌, ◌≢◌, ℕ, ◌*◌, ◌≤◌, ◌<◌, false, List, [], ◌∷◌, ◌++◌, length, map, codes, decimal, Option, Some, None}
use Rattle.std.specs.List.{flat_map, AllByRecursion}
use Rattle.td_gates.specs.declared.primitives.Level.TheVariants.{X}
use Rattle.td_spans.specs.declared.condition.Form.TheVariants.{Levels}
use Rattle.td_refutation.specs.declared.conditions.NamedCondition.{NamedCondition}
use Rattle.td_certificate.specs.declared.tree.Node.{Node}
use Rattle.td_certificate.specs.declared.tree.Node.TheVariants as node
use Rattle.td_certificate.specs.declared.question.Version.{Version}
use Rattle.td_certificate.specs.declared.question.Version.TheVariants.{First, Second, Third, Fourth}
use Rattle.td_certificate.specs.declared.certificate.Certificate.{Certificate}
use Rattle.td_certificate.specs.declared.certificate.Claim.{Claim}
use Rattle.td_certificate.specs.Questions.{Terms, Question, inputs_of, version_of, version_number}
use Rattle.td_certificate.specs.Trees.{IsTree, is_of_edges}
use Rattle.td_certificate.specs.Steps.{IsRefutedText}
pub use Rattle.td_certificate.specs.Steps.{greatest}
use Rattle.td_certificate.specs.Text.{row, bits, node_line, trit, first_trits, second_trits, hold, numbers, outputs, conditions}
use Rattle.td_gates.specs.Delays.{IsInRange}

-- ---- the lines

-- the number of inputs of the circuit
abbrev pub inputs : Certificate → ℕ
inputs c = inputs_of c.question

-- the version of its text
abbrev pub version_in : Certificate → Version
version_in c = version_of c.question

-- what the lines of a question tell, each one of these
pub data Field : Type 0 where
  DefaultField : Field
  OutputField : Field
  FirstField : Field
  SecondField : Field
  HoldField : Field
  FlipsField : Field
  AtField : Field
  KeepField : Field

-- the lines of a question, by the version
abbrev pub fields_of : Version → List Field
fields_of First = []
fields_of Second = FirstField ∷ SecondField ∷ HoldField ∷ FlipsField ∷ []
fields_of Third = FirstField ∷ SecondField ∷ HoldField ∷ FlipsField ∷ AtField ∷ []
fields_of Fourth = DefaultField ∷ OutputField ∷ FirstField ∷ SecondField ∷ HoldField ∷ FlipsField ∷ AtField ∷ KeepField ∷ []

-- the terms that a question without any is read by
abbrev pub plain_terms : Terms
plain_terms = record { default = record { rise = 1; fall = 1 }; outputs = None; keep = [] }

abbrev pub terms_or_plain : Option Terms → Terms
terms_or_plain None = plain_terms
terms_or_plain (Some terms) = terms

abbrev pub terms_of : Question → Terms
terms_of question = terms_or_plain question.terms

abbrev pub default_line : Terms → List ℕ
default_line terms = codes "default " ++ decimal terms.default.rise ++ codes " " ++ decimal terms.default.fall

abbrev pub output_line : Terms → List ℕ
output_line terms = codes "output " ++ outputs terms.outputs

abbrev pub keep_line : Terms → List ℕ
keep_line terms = codes "keep " ++ conditions terms.keep

abbrev pub field_line : Question → Field → List ℕ
field_line question DefaultField = default_line (terms_of question)
field_line question OutputField = output_line (terms_of question)
field_line question FirstField = codes "first " ++ row trit (first_trits question.admit.pins)
field_line question SecondField = codes "second " ++ row trit (second_trits question.admit.pins)
field_line question HoldField = codes "hold " ++ row hold question.admit.held
field_line question FlipsField = codes "flips " ++ decimal question.admit.flips
field_line question AtField = codes "at " ++ numbers question.moments
field_line question KeepField = keep_line (terms_of question)

abbrev pub question_lines : Version → Question → List (List ℕ)
question_lines version question = map (field_line question) (fields_of version)

abbrev pub version_line : Version → List ℕ
version_line version = codes "tdelay-cert " ++ decimal (version_number version)

abbrev pub circuit_line : Certificate → List ℕ
circuit_line c = codes "circuit " ++ decimal (inputs c) ++ codes " " ++ decimal c.gates

abbrev pub time_line : Claim → List ℕ
time_line claim = codes "time " ++ decimal claim.time

-- in the fourth version a line tells the moment after which no admitted pair changes an output
abbrev pub high_lines : Version → ℕ → List (List ℕ)
high_lines First high = []
high_lines Second high = []
high_lines Third high = []
high_lines Fourth high = (codes "high " ++ decimal high) ∷ []

abbrev pub from_line : Claim → List ℕ
from_line claim = codes "from " ++ bits claim.pair.first

abbrev pub to_line : Claim → List ℕ
to_line claim = codes "to " ++ bits claim.pair.second

-- the lines of a claim, or the one that tells that no pair is admitted
abbrev pub claim_lines : Version → Option Claim → List (List ℕ)
claim_lines version None = codes "time none" ∷ []
claim_lines version (Some claim) = time_line claim ∷ (high_lines version claim.high ++ from_line claim ∷ to_line claim ∷ [])

-- the lines before the tree
abbrev pub head_lines : Certificate → List (List ℕ)
head_lines c =
    version_line (version_in c) ∷ circuit_line c
    ∷ (question_lines (version_in c) c.question ++ claim_lines (version_in c) c.claim)

-- a line and its newline
abbrev pub ended : List ℕ → List ℕ
ended line = line ++ 10 ∷ []

-- the text of these lines
abbrev pub text_of : List (List ℕ) → List ℕ
text_of lines = flat_map ended lines

-- the text of a question's lines in this version
abbrev pub question_text : Version → Question → List ℕ
question_text version question = text_of (question_lines version question)

unfoldable pub spelling : Certificate → List ℕ
spelling c = text_of (head_lines c ++ map node_line c.tree)

-- ---- what has a spelling

-- the latest moment of an input
abbrev pub latest : ℕ
latest = 1000000000

-- A node of a text of this version: numbers up to the greatest, leaves without an admitted pair only
-- from the second version on, and those that are bounded by edges or refuted only in the fourth.
abbrev pub IsNode : Version → Node → Type 0
IsNode version (node.Split position) = position ≤ greatest
IsNode version (node.Bound domain bound) = (bound ≤ greatest) × (version ≢ Fourth → is_of_edges domain ≡ false)
IsNode version (node.Point time) = time ≤ greatest
IsNode version node.Empty = version ≢ First
IsNode version (node.Refuted refuted) = IsRefutedText refuted × (version ≡ Fourth)

-- before the fourth version the time alone is told
abbrev pub IsHigh : Version → ℕ → ℕ → Type 0
IsHigh First time high = high ≡ time
IsHigh Second time high = high ≡ time
IsHigh Third time high = high ≡ time
IsHigh Fourth time high = high ≤ greatest

-- moments within their limits, and a bit of each vector for each of this number of inputs
pub record IsClaimText (version : Version) (count : ℕ) (claim : Claim) : Type 0 where
  pub time : claim.time ≤ greatest
  pub high : IsHigh version claim.time claim.high
  pub first : length claim.pair.first ≡ count
  pub second : length claim.pair.second ≡ count

-- only a text of the fourth version can tell that no pair is admitted
abbrev pub MayClaim : Version → ℕ → Option Claim → Type 0
MayClaim version count None = version ≡ Fourth
MayClaim version count (Some claim) = IsClaimText version count claim

-- numbers of outputs, at least one, each up to the greatest
abbrev pub AreOutputs : Option (List ℕ) → Type 0
AreOutputs None = Unit {0}
AreOutputs (Some numbers) = (0 < length numbers) × AllByRecursion (λ number. number ≤ greatest) numbers

-- a condition that asks for something, on a net whose number is up to the greatest
abbrev pub IsCondition : NamedCondition → Type 0
IsCondition asked = (asked.net ≤ greatest) × (asked.form ≢ Levels X X)

abbrev pub AreConditions : List NamedCondition → Type 0
AreConditions keep = AllByRecursion IsCondition keep

abbrev pub AreTerms : Option Terms → Type 0
AreTerms None = Unit {0}
AreTerms (Some terms) = IsInRange terms.default × AreOutputs terms.outputs × AreConditions terms.keep

-- its numbers are within their limits, there are two pins, a moment and a bit of each vector that
-- it claims for each input, and its nodes are one tree's
pub record HasSpelling (c : Certificate) : Type 0 where
  pub inputs : inputs_of c.question ≤ 4096
  pub gates : c.gates ≤ 200000
  pub pins : length c.question.admit.pins ≡ 2 * inputs_of c.question
  pub flips : c.question.admit.flips ≤ inputs_of c.question
  pub count : length c.question.moments ≡ inputs_of c.question
  pub moments : AllByRecursion (λ moment. moment ≤ latest) c.question.moments
  pub terms : AreTerms c.question.terms
  pub claim : MayClaim (version_in c) (inputs_of c.question) c.claim
  pub nodes : AllByRecursion (IsNode (version_in c)) c.tree
  pub tree : IsTree c.tree

-- the certificate is spelled so
pub record Spells (c : Certificate) (text : List ℕ) : Type 0 where
  pub has : HasSpelling c
  pub parts : text ≡ spelling c

-- Each certificate has at most one spelling, and none begins another.
abbrev pub SpellsOnce : Type 0
SpellsOnce = (this that : Certificate) (text other more : List ℕ) → Spells this text → Spells that other → text ≡ other ++ more
    → (this ≡ that) × (more ≡ [])
