-- Lengths of texts.
use Rattle.std.proofs.Common.{◌≡◌, ℕ, zero, suc, ◌+◌, ◌*◌, ◌<◌, ◌≤◌, ◌^◌, Bool, List, [], ◌∷◌, ◌++◌, length, length-append, Option, Some, None, refl, sym, ap, subst, arith}
use Rattle.std.specs.Prelude.{codes, decimal, map}
use Rattle.std.specs.List.{AllByRecursion}
use Rattle.std.proofs.lemmas.List.{length-map}
use Rattle.std.proofs.lemmas.Fmt.{length-decimal-le}
use Rattle.td_domain.specs.declared.cubes.Trit.{Trit}
use Rattle.td_spans.specs.declared.condition.Form.{Form}
use Rattle.td_spans.specs.declared.condition.Form.TheVariants.{Levels, Equal}
use Rattle.td_refutation.specs.declared.conditions.NamedCondition.{NamedCondition}
use Rattle.td_certificate.specs.declared.tree.BoundedBy.TheVariants.{Arrival, Possible, Both, Edges, EdgesAndPossible}
use Rattle.td_certificate.specs.declared.tree.Node.{Node}
use Rattle.td_certificate.specs.declared.tree.Node.TheVariants as node
use Rattle.td_certificate.specs.declared.question.Version.{Version}
use Rattle.td_certificate.specs.declared.question.Version.TheVariants.{First, Second, Third, Fourth}
use Rattle.td_certificate.specs.declared.certificate.Certificate.{Certificate}
use Rattle.td_certificate.specs.declared.certificate.Claim.{Claim}
use Rattle.td_gates.specs.Delays.{IsInRange}
use Rattle.td_certificate.specs.Questions.{Terms, Question, inputs_of}
use Rattle.td_certificate.specs.Text.{bit, row, trit, first_trits, second_trits, hold, numbers, outputs, form_text, condition, conditions}
use Rattle.td_certificate.specs.Spelling.{inputs, version_in, FirstField, SecondField, HoldField, FlipsField, AtField, KeepField, terms_or_plain, terms_of, plain_terms, default_line, output_line, keep_line, field_line, ended, question_text, greatest, latest, AreOutputs, IsCondition, AreConditions, AreTerms, IsNode, MayClaim, HasSpelling}
use Rattle.td_certificate.specs.Lengths.{IsShort, IsShortClaim, AreFew, HaveFew, SearchedTextsFit, RefutedTextsFit}
use Rattle.td_certificate.specs.Steps.{Refuted, or_none, steps_text, IsBoundText}
use Rattle.td_certificate.proofs.FieldCodes.{number_text}
use Rattle.td_certificate.proofs.VectorCodes.{vector_text}
use Rattle.td_certificate.proofs.VersionCode.{version_text}
use Rattle.td_certificate.proofs.QuestionCodes.{four_text, third_parts, fourth_parts}
use Rattle.td_certificate.proofs.NodeCodes.{node_text}
use Rattle.td_certificate.proofs.TreeCodes.{nodes_text, nodes_text-cons}
use Rattle.td_certificate.proofs.CertificateCode.{text_from_second, text_from_first, high_text, text_from_high, claim_text, text_from_claim, text_from_question, text_from_gates, text_from_inputs, lines_text, spelling_is}

short : (n : ℕ) → n < 10 ^ 15 → length (decimal n) ≤ 15
short n small = length-decimal-le 15 n (omega arith) small (omega arith)

-- a line of a number after a word
line_length : (word : List ℕ) (n : ℕ) → n < 10 ^ 15 → length ((word ++ decimal n) ++ 10 ∷ []) ≤ length word + 16
line_length word n small = omega (arith, short n small, length-append (word ++ decimal n) (10 ∷ []), length-append word (decimal n))

node_length : (n : Node) → IsShort n → length (node_text n) ≤ 20
node_length (node.Split position) small = let here = line_length (codes "s ") position small in omega (arith, here)
node_length (node.Bound Arrival bound) small = let here = line_length (codes "b a ") bound small in omega (arith, here)
node_length (node.Bound Possible bound) small = let here = line_length (codes "b t ") bound small in omega (arith, here)
node_length (node.Bound Both bound) small = let here = line_length (codes "b m ") bound small in omega (arith, here)
node_length (node.Bound Edges bound) small = let here = line_length (codes "b e ") bound small in omega (arith, here)
node_length (node.Bound EdgesAndPossible bound) small = let here = line_length (codes "b n ") bound small in omega (arith, here)
node_length (node.Point time) small = let here = line_length (codes "p ") time small in omega (arith, here)
node_length node.Empty small = omega arith
node_length (node.Refuted refuted) small = absurd small

nodes_length : (nodes : List Node) → AllByRecursion IsShort nodes → length (nodes_text nodes) ≤ 20 * length nodes
nodes_length [] small = omega arith
nodes_length (n ∷ nodes) small =
    omega (arith, nodes_length nodes small.1, node_length n small.0, ap length (nodes_text-cons n nodes), length-append (node_text n) (nodes_text nodes))

vector_length : (vector : List Bool) → length (vector_text vector) ≤ length vector + 5
vector_length [] = omega arith
vector_length (b ∷ bs) = omega (arith, length-append (map bit (b ∷ bs)) (10 ∷ []), length-map (b ∷ bs) bit)

-- a word and a number, with the byte that closes it
number_length : (word : List ℕ) (close n : ℕ) → n < 10 ^ 15 → length (word ++ number_text close n) ≤ length word + 16
number_length word close n small = omega (arith, short n small, length-append word (number_text close n), length-append (decimal n) (close ∷ []))

-- a word and a vector
behind_length : (word : List ℕ) (vector : List Bool) → length (word ++ vector_text vector) ≤ length word + length vector + 5
behind_length word vector = omega (arith, vector_length vector, length-append word (vector_text vector))

-- ---- the question

first_few : (pins : List Trit) (count : ℕ) → length pins ≡ 2 * count → length (first_trits pins) ≤ count
first_few [] count e = omega arith
first_few (p ∷ []) count e = omega arith
first_few (p ∷ q ∷ pins) zero e = absurd (omega (arith, e))
first_few (p ∷ q ∷ pins) (suc count) e = let rest = first_few pins count (omega (arith, e)) in omega (arith, rest)

second_few : (pins : List Trit) (count : ℕ) → length pins ≡ 2 * count → length (second_trits pins) ≤ count
second_few [] count e = omega arith
second_few (p ∷ []) count e = omega arith
second_few (p ∷ q ∷ pins) zero e = absurd (omega (arith, e))
second_few (p ∷ q ∷ pins) (suc count) e = let rest = second_few pins count (omega (arith, e)) in omega (arith, rest)

row_few : {A : Type 0} (byte : A → ℕ) (xs : List A) → length (row byte xs) ≤ length xs + 4
row_few byte [] = omega arith
row_few byte (x ∷ xs) = omega (arith, length-map xs byte)

row_length : {A : Type 0} (word : List ℕ) (byte : A → ℕ) (xs : List A) → length (ended (word ++ row byte xs)) ≤ length word + length xs + 5
row_length word byte xs = omega (arith, length-append (word ++ row byte xs) (10 ∷ []), length-append word (row byte xs), row_few byte xs)

numbers_length : (ms : List ℕ) → AllByRecursion (λ moment. moment ≤ latest) ms → length (numbers ms) ≤ 16 * length ms + 4
numbers_length [] within = omega arith
numbers_length (m ∷ []) within = omega (arith, short m (omega (arith, within.0)))
numbers_length (m ∷ n ∷ ms) within =
    omega (arith, short m (omega (arith, within.0)), numbers_length (n ∷ ms) within.1, length-append (decimal m ++ codes " ") (numbers (n ∷ ms)), length-append (decimal m) (codes " "))

-- the numbers of outputs, each at most 19 digits and a space
listed_length : (ns : List ℕ) → AllByRecursion (λ number. number ≤ greatest) ns → length (numbers ns) ≤ 20 * length ns + 4
listed_length [] within = omega arith
listed_length (n ∷ []) within = omega (arith, length-decimal-le 19 n (omega arith) (omega (arith, within.0)) (omega arith))
listed_length (n ∷ m ∷ ns) within =
    omega (
      arith,
      length-decimal-le 19 n (omega arith) (omega (arith, within.0)) (omega arith),
      listed_length (m ∷ ns) within.1,
      length-append (decimal n ++ codes " ") (numbers (m ∷ ns)),
      length-append (decimal n) (codes " "),
    )

outputs_length : (asked : Option (List ℕ)) → AreOutputs asked → AreFew asked → length (outputs asked) ≤ 200004
outputs_length None are few = omega arith
outputs_length (Some ns) are few = omega (arith, listed_length ns are.1, few)

record IsAsked (q : Question) : Type 0 where
  inputs : inputs_of q ≤ 4096
  pins : length q.admit.pins ≡ 2 * inputs_of q
  flips : q.admit.flips ≤ inputs_of q
  count : length q.moments ≡ inputs_of q
  moments : AllByRecursion (λ moment. moment ≤ latest) q.moments
  terms : AreTerms q.terms
  few : HaveFew q.terms

four_length : (a b c d : List ℕ) → length (a ++ (b ++ (c ++ d))) ≡ length a + length b + length c + length d
four_length a b c d = omega (arith, length-append a (b ++ (c ++ d)), length-append b (c ++ d), length-append c d)

admit_length : (q : Question) → IsAsked q → length (question_text Second q) ≤ 12400
admit_length q has =
    let a = q.admit in
    omega (
      arith,
      ap length (four_text (field_line q FirstField) (field_line q SecondField) (field_line q HoldField) (field_line q FlipsField)),
      four_length (ended (field_line q FirstField)) (ended (field_line q SecondField)) (ended (field_line q HoldField)) (ended (field_line q FlipsField)),
      row_length (codes "first ") trit (first_trits a.pins),
      row_length (codes "second ") trit (second_trits a.pins),
      row_length (codes "hold ") hold a.held,
      line_length (codes "flips ") a.flips (omega (arith, has.flips, has.inputs)),
      first_few a.pins (inputs_of q) has.pins,
      second_few a.pins (inputs_of q) has.pins,
      has.inputs,
    )

at_length : (q : Question) → IsAsked q → length (ended (field_line q AtField)) ≤ 65600
at_length q has =
    omega (arith, length-append (codes "at " ++ numbers q.moments) (10 ∷ []), length-append (codes "at ") (numbers q.moments), numbers_length q.moments has.moments, has.count, has.inputs)

-- the lines of the third version
dated_length : (q : Question) → IsAsked q → length (question_text Third q) ≤ 78000
dated_length q has =
    omega (
      arith,
      ap length (third_parts q),
      length-append (question_text Second q) (ended (field_line q AtField)),
      admit_length q has,
      at_length q has,
    )

default_length : (terms : Terms) → IsInRange terms.default → length (ended (default_line terms)) ≤ 40
default_length terms is =
    omega (
      arith,
      length-append (default_line terms) (10 ∷ []),
      length-append ((codes "default " ++ decimal terms.default.rise) ++ codes " ") (decimal terms.default.fall),
      length-append (codes "default " ++ decimal terms.default.rise) (codes " "),
      length-append (codes "default ") (decimal terms.default.rise),
      short terms.default.rise (omega (arith, is.greatest_rise)),
      short terms.default.fall (omega (arith, is.greatest_fall)),
    )

output_length : (terms : Terms) → AreOutputs terms.outputs → AreFew terms.outputs → length (ended (output_line terms)) ≤ 200012
output_length terms are few =
    omega (arith, length-append (output_line terms) (10 ∷ []), length-append (codes "output ") (outputs terms.outputs), outputs_length terms.outputs are few)

plain_range : IsInRange plain_terms.default
plain_range = record { least_rise = omega arith; greatest_rise = omega arith; least_fall = omega arith; greatest_fall = omega arith }

terms_length : (terms : Option Terms) → AreTerms terms → HaveFew terms
    → length (ended (default_line (terms_or_plain terms))) + length (ended (output_line (terms_or_plain terms))) ≤ 200052
terms_length None are few = omega (arith, default_length plain_terms plain_range, output_length plain_terms tt tt)
terms_length (Some terms) are few = omega (arith, default_length terms are.0, output_length terms are.1 few.0)

form_length : (form : Form) → length (form_text form) ≡ 2
form_length (Levels first second) = refl
form_length Equal = refl

condition_length : (asked : NamedCondition) → IsCondition asked → length (condition asked) ≤ 22
condition_length asked is =
    omega (
      arith,
      length-append (decimal asked.net ++ codes " ") (form_text asked.form),
      length-append (decimal asked.net) (codes " "),
      form_length asked.form,
      length-decimal-le 19 asked.net (omega arith) (omega (arith, is.0)) (omega arith),
    )

conditions_length : (keep : List NamedCondition) → AreConditions keep → length (conditions keep) ≤ 4 + 23 * length keep
conditions_length [] are = omega arith
conditions_length (asked ∷ []) are = omega (arith, condition_length asked are.0)
conditions_length (asked ∷ next ∷ others) are =
    omega (
      arith,
      condition_length asked are.0,
      conditions_length (next ∷ others) are.1,
      length-append (condition asked ++ codes " ") (conditions (next ∷ others)),
      length-append (condition asked) (codes " "),
    )

keep_length : (terms : Option Terms) → AreTerms terms → HaveFew terms → length (ended (keep_line (terms_or_plain terms))) ≤ 115010
keep_length None are few = omega arith
keep_length (Some terms) are few =
    omega (
      arith,
      length-append (keep_line terms) (10 ∷ []),
      length-append (codes "keep ") (conditions terms.keep),
      conditions_length terms.keep are.2,
      few.1,
    )

lines_length : (q : Question) (v : Version) → IsAsked q → length (question_text v q) ≤ 393500
lines_length q First has = omega arith
lines_length q Second has = omega (arith, admit_length q has)
lines_length q Third has = omega (arith, dated_length q has)
lines_length q Fourth has =
    omega (
      arith,
      ap length (fourth_parts q),
      length-append (ended (default_line (terms_of q)) ++ ended (output_line (terms_of q))) (question_text Third q ++ ended (field_line q KeepField)),
      length-append (ended (default_line (terms_of q))) (ended (output_line (terms_of q))),
      length-append (question_text Third q) (ended (field_line q KeepField)),
      terms_length q.terms has.terms has.few,
      keep_length q.terms has.terms has.few,
      dated_length q has,
    )

-- ---- the whole

version_length : (v : Version) → length (version_text v) ≤ 20
version_length First = omega arith
version_length Second = omega arith
version_length Third = omega arith
version_length Fourth = omega arith

high_length : (v : Version) (high : ℕ) → high < 10 ^ 15 → length (high_text v high) ≤ 21
high_length First high small = omega arith
high_length Second high small = omega arith
high_length Third high small = omega arith
high_length Fourth high small = number_length (codes "high ") 10 high small

claim_length : (v : Version) (count : ℕ) (z : Option Claim) → MayClaim v count z → IsShortClaim z → length (claim_text v z) ≤ 60 + 2 * count
claim_length v count None may small = omega arith
claim_length v count (Some claim) may small =
    let time : length (codes "time " ++ number_text 10 claim.time) ≤ 21 = number_length (codes "time ") 10 claim.time small.0 in
    let first : length (codes "from " ++ vector_text claim.pair.first) ≤ 10 + length claim.pair.first = omega (arith, behind_length (codes "from ") claim.pair.first) in
    let second : length (codes "to " ++ vector_text claim.pair.second) ≤ 8 + length claim.pair.second = omega (arith, behind_length (codes "to ") claim.pair.second) in
    omega (
      arith,
      length-append (codes "time ") (number_text 10 claim.time ++ text_from_high v claim),
      length-append (number_text 10 claim.time) (text_from_high v claim),
      length-append (codes "time ") (number_text 10 claim.time),
      length-append (high_text v claim.high) (text_from_first claim),
      high_length v claim.high small.1,
      length-append (codes "from " ++ vector_text claim.pair.first) (text_from_second claim),
      time,
      first,
      second,
      may.first,
      may.second,
    )

head_length : (v : Version) (c : Certificate) → HasSpelling c → v ≡ version_in c → HaveFew c.question.terms → IsShortClaim c.claim
    → length (lines_text v c) ≤ 405600 + length (nodes_text c.tree)
head_length v c has version few small =
    let question : length (question_text v c.question) ≤ 393500 =
    lines_length c.question v (record { inputs = has.inputs; pins = has.pins; flips = has.flips; count = has.count; moments = has.moments; terms = has.terms; few = few }) in
    let inputs_short : length (number_text 32 (inputs c)) ≤ 16 = number_length [] 32 (inputs c) (omega (arith, has.inputs)) in
    let gates : length (number_text 10 c.gates) ≤ 16 = number_length [] 10 c.gates (omega (arith, has.gates)) in
    let claim : length (claim_text v c.claim) ≤ 60 + 2 * inputs_of c.question =
    claim_length v (inputs_of c.question) c.claim (subst (λ (w : Version). MayClaim w (inputs_of c.question) c.claim) (sym version) has.claim) small in
    omega (
      arith,
      length-append (codes "circuit ") (text_from_inputs v c),
      length-append (number_text 32 (inputs c)) (text_from_gates v c),
      length-append (number_text 10 c.gates) (text_from_question v c),
      length-append (question_text v c.question) (text_from_claim v c),
      length-append (claim_text v c.claim) (nodes_text c.tree),
      question,
      inputs_short,
      gates,
      claim,
      has.inputs,
    )

pub searched_texts_fit : SearchedTextsFit
searched_texts_fit c has asked small short few =
    omega (
      arith,
      ap length (spelling_is c),
      length-append (version_text (version_in c)) (lines_text (version_in c) c),
      version_length (version_in c),
      head_length (version_in c) c has refl asked small,
      nodes_length c.tree short,
    )

-- ---- a leaf that is refuted

bound_length : (bound : Option ℕ) → IsBoundText bound → length (or_none bound) ≤ 19
bound_length None small = omega arith
bound_length (Some bound) small = length-decimal-le 19 bound (omega arith) (omega (arith, small)) (omega arith)

refuted_length : (refuted : Refuted) → IsBoundText refuted.bound → length (node_text (node.Refuted refuted)) ≤ length (steps_text refuted.steps) + 30
refuted_length refuted small =
    omega (
      arith,
      length-append (steps_text refuted.steps ++ (codes "q " ++ or_none refuted.bound)) (10 ∷ []),
      length-append (steps_text refuted.steps) (codes "q " ++ or_none refuted.bound),
      length-append (codes "q ") (or_none refuted.bound),
      bound_length refuted.bound small,
    )

leaf_length : (nodes : List Node) (refuted : Refuted) → nodes ≡ node.Refuted refuted ∷ [] → IsBoundText refuted.bound → length (nodes_text nodes) ≤ length (steps_text refuted.steps) + 30
leaf_length nodes refuted is small =
    omega (
      arith,
      ap (λ (ns : List Node). length (nodes_text ns)) is,
      ap length (nodes_text-cons (node.Refuted refuted) []),
      length-append (node_text (node.Refuted refuted)) (nodes_text []),
      refuted_length refuted small,
    )

pub refuted_texts_fit : RefutedTextsFit
refuted_texts_fit c refuted has asked small is few =
    let short = subst (AllByRecursion (IsNode (version_in c))) is has.nodes in
    omega (
      arith,
      ap length (spelling_is c),
      length-append (version_text (version_in c)) (lines_text (version_in c) c),
      version_length (version_in c),
      head_length (version_in c) c has refl asked small,
      leaf_length c.tree refuted is short.0.0.bound,
      few,
    )
