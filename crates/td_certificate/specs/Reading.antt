-- Reading a certificate from the front, up to the first byte that can't be read on.
use Rattle.std.specs.Prelude.{◌≡◌, ℕ, zero, suc, ◌+◌, ◌-◌, ◌*◌, ◌<◌, ◌≤◌, Bool, true, false, List, [], ◌∷◌, length, replicate, codes, Option, Some, None, Ok, Err, nat_le, ◌==◌, ◌||◌, ◌&&◌, not, if◌then◌else◌}
use Rattle.std.specs.List.{list_all}
use Rattle.std.specs.Char.{is_ascii_digit}
use Rattle.td_domain.specs.declared.cubes.Trit.{Trit}
use Rattle.td_domain.specs.declared.cubes.Trit.TheVariants.{Zero, One, Free}
use Rattle.td_domain.specs.Admits.{Admitted}
use Rattle.td_certificate.specs.declared.tree.BoundedBy.{BoundedBy}
use Rattle.td_certificate.specs.declared.tree.BoundedBy.TheVariants.{Arrival, Possible, Both, Edges, EdgesAndPossible}
use Rattle.td_certificate.specs.declared.tree.Node.{Node}
use Rattle.td_certificate.specs.declared.tree.Node.TheVariants as node
use Rattle.td_certificate.specs.declared.question.Version.{Version}
use Rattle.td_certificate.specs.declared.question.Version.TheVariants.{First, Second, Third, Fourth}
use Rattle.td_certificate.specs.declared.fields.Reason.{Reason}
use Rattle.td_certificate.specs.declared.fields.Reason.TheVariants.{Syntax, NumberTooLarge}
use Rattle.td_certificate.specs.declared.fields.Reason.TheVariants as reason
use Rattle.td_certificate.specs.declared.fields.Leaves.{Leaves}
use Rattle.td_certificate.specs.declared.fields.Leaves.TheVariants as leaves
use Rattle.td_certificate.specs.Trees.{sides}
use Rattle.td_certificate.specs.declared.certificate.Certificate.{Certificate}
use Rattle.td_certificate.specs.declared.certificate.Claim.{Claim}
use Rattle.td_gates.specs.Delays.{Delays}
use Rattle.td_certificate.specs.Questions.{Terms, Question, is_free, holds_none, all_at_once}
use Rattle.td_domain.specs.Cubes.{weave}
use Rattle.td_certificate.specs.Text.{bit, trit, hold}
use Rattle.td_certificate.specs.Spelling.{greatest, latest}
use Rattle.td_refutation.specs.declared.conditions.NamedCondition.{NamedCondition}
use Rattle.td_certificate.specs.StepReading.{numbers_at, refuted_at}
use Rattle.td_certificate.specs.ConditionReading.{kept_at}
pub use Rattle.td_certificate.specs.Fields.{Stop, Ends, Wrong, Reading, ◌>>=◌, Fails, Gives, byte_at, begins_with_zero, begins_none, written_as, taken, char_at}
unfoldable pub use Rattle.td_certificate.specs.Fields.{literal, digits_at, number_at, number_from, number_behind, number_or_none}

-- ---- characters

-- this number of characters
unfoldable pub chars_at : {A : Type 0} → (ℕ → Option A) → ℕ → List ℕ → Reading (List A)
chars_at value zero bytes = Ok ([], bytes)
chars_at value (suc count) bytes = do
  first ← char_at value bytes
  others ← chars_at value count first.1
  Ok (first.0 ∷ others.0, others.1)

abbrev pub bit_of : ℕ → Option Bool
bit_of b = written_as bit (false ∷ true ∷ []) b

abbrev pub trit_of : ℕ → Option Trit
trit_of b = written_as trit (Zero ∷ One ∷ Free ∷ []) b

abbrev pub hold_of : ℕ → Option Bool
hold_of b = written_as hold (true ∷ false ∷ []) b

-- a word, this number of characters, and the newline
unfoldable pub chars_behind : {A : Type 0} → List ℕ → (ℕ → Option A) → ℕ → List ℕ → Reading (List A)
chars_behind word value count bytes = do
  behind ← literal word bytes
  chars ← chars_at value count behind.1
  end ← literal (codes "\n") chars.1
  Ok (chars.0, end.1)

-- a word, a character for each input, or `none`, and the newline
unfoldable pub row_behind : {A : Type 0} → List ℕ → (ℕ → Option A) → ℕ → List ℕ → Reading (List A)
row_behind word value zero bytes = do
  behind ← literal word bytes
  none ← literal (codes "none\n") behind.1
  Ok ([], none.1)
row_behind word value (suc count) bytes = chars_behind word value (suc count) bytes

-- ---- the first line

-- a number's digits stand in front: one at least, and none after a leading 0
abbrev pub begins_number : List ℕ → Bool
begins_number [] = false
begins_number (d ∷ []) = is_ascii_digit d
begins_number (d ∷ e ∷ rest) = is_ascii_digit d && not (d == 48 && is_ascii_digit e)

-- the number of the digits in front, after those of a number so far
unfoldable pub front_number : ℕ → List ℕ → ℕ
front_number number [] = number
front_number number (b ∷ rest) = if is_ascii_digit b then front_number (10 * number + (b - 48)) rest else number

-- the number, or none where it passes the most
abbrev pub IsUpTo : ℕ → ℕ → Option ℕ → Type 0
IsUpTo most number (Some reported) = (reported ≡ number) × (number ≤ most)
IsUpTo most number None = most < number

-- one of the versions has this number
abbrev pub is_version : ℕ → Bool
is_version number = number == 1 || (number == 2 || (number == 3 || number == 4))

-- Why no version stands here: another number is another version, or passes the greatest; with no
-- other it is the syntax.
unfoldable pub version_reason : List ℕ → Reason
version_reason behind =
    if begins_number behind && not (is_version (front_number 0 behind)) then (
    if nat_le (front_number 0 behind) greatest then reason.Version else NumberTooLarge) else Syntax

-- where reading stops at a byte, it does for this reason
abbrev pub because : {A : Type 0} → Reason → Reading A → Reading A
because reason (Ok x) = Ok x
because reason (Err Ends) = Err Ends
because reason (Err (Wrong other rest)) = Err (Wrong reason rest)

-- the digit of a version
abbrev pub version_digit : Version → ℕ
version_digit First = 49
version_digit Second = 50
version_digit Third = 51
version_digit Fourth = 52

abbrev pub version_of_digit : ℕ → Option Version
version_of_digit b = written_as version_digit (First ∷ Second ∷ Third ∷ Fourth ∷ []) b

-- a version's digit and the newline
unfoldable pub digit_at : List ℕ → Reading Version
digit_at bytes = do
  version ← char_at version_of_digit bytes
  end ← literal (codes "\n") version.1
  Ok (version.0, end.1)

-- the first line: what stands after its word and space says why it isn't that of a version
unfoldable pub version_at : List ℕ → Reading Version
version_at bytes = do
  word ← literal (codes "tdelay-cert ") bytes
  because (version_reason word.1) (digit_at word.1)

-- ---- the question

-- In the second and the third version there is at least one input: without inputs all pairs are
-- admitted and nothing changes later.
abbrev pub has_inputs : Version → Bool
has_inputs First = false
has_inputs Second = true
has_inputs Third = true
has_inputs Fourth = false

-- the greatest number of flips: in the second version one less where nothing is pinned or held
abbrev pub most_flips : Version → List Trit → List Bool → ℕ
most_flips Second pins held = if list_all is_free pins && holds_none held then length held - 1 else length held
most_flips version pins held = length held

-- the number of flips; what passes the most is no number of this version
unfoldable pub flips_at : ℕ → List ℕ → Reading ℕ
flips_at most bytes = because Syntax (number_behind (codes "flips ") most 10 bytes)

abbrev pub with_pins : List Trit → List Trit → List Bool → ℕ → Admitted
with_pins firsts seconds held flips = record { pins = weave firsts seconds; held = held; flips = flips }

-- the lines `first` to `flips`
unfoldable pub admit_at : Version → ℕ → List ℕ → Reading Admitted
admit_at version inputs bytes = do
  firsts ← row_behind (codes "first ") trit_of inputs bytes
  seconds ← row_behind (codes "second ") trit_of inputs firsts.1
  held ← row_behind (codes "hold ") hold_of inputs seconds.1
  flips ← flips_at (most_flips version (weave firsts.0 seconds.0) held.0) held.1
  Ok (with_pins firsts.0 seconds.0 held.0 flips.0, flips.1)

-- the byte after a moment, where this number of others is to come
abbrev pub close_of : ℕ → ℕ
close_of zero = 10
close_of (suc others) = 32

-- a moment, where this number of others is to come; the last must not be 0 where all before are
abbrev pub moment_at : Bool → ℕ → List ℕ → Reading ℕ
moment_at at_once others bytes = because Syntax (number_from (at_once && others == 0) latest (close_of others) bytes)

-- this number of moments, after others that are all 0 or not
unfoldable pub moments_at : Bool → ℕ → List ℕ → Reading (List ℕ)
moments_at at_once zero bytes = Ok ([], bytes)
moments_at at_once (suc count) bytes = do
  first ← moment_at at_once count bytes
  others ← moments_at (at_once && first.0 == 0) count first.1
  Ok (first.0 ∷ others.0, others.1)

-- the line `at`, with a moment that isn't 0 where one has to be later
unfoldable pub at_line : Bool → ℕ → List ℕ → Reading (List ℕ)
at_line later zero bytes = do
  behind ← literal (codes "at ") bytes
  none ← literal (codes "none\n") behind.1
  Ok ([], none.1)
at_line later (suc count) bytes = do
  behind ← literal (codes "at ") bytes
  moments_at later (suc count) behind.1

abbrev pub asked : Admitted → List ℕ → Question
asked admit moments = record { admit = admit; moments = moments; terms = None }

-- the lines `first` to `at`, with a moment that isn't 0 where one has to be later
unfoldable pub dated_at : Version → Bool → ℕ → List ℕ → Reading Question
dated_at version later inputs bytes = do
  admit ← admit_at version inputs bytes
  moments ← at_line later inputs admit.1
  Ok (asked admit.0 moments.0, moments.1)

-- a delay, from 1 on; what passes the most is no delay
unfoldable pub steps_at : ℕ → List ℕ → Reading ℕ
steps_at close bytes = because Syntax (number_from true latest close bytes)

abbrev pub delays : ℕ → ℕ → Delays
delays rise fall = record { rise = rise; fall = fall }

-- the line `default`
unfoldable pub default_at : List ℕ → Reading Delays
default_at bytes = do
  word ← literal (codes "default ") bytes
  rise ← steps_at 32 word.1
  fall ← steps_at 10 rise.1
  Ok (delays rise.0 fall.0, fall.1)

-- all outputs, or the numbers of those that are asked about
unfoldable pub outputs_at : List ℕ → Reading (Option (List ℕ))
outputs_at [] = Err Ends
outputs_at (b ∷ rest) = if b == 97 then (literal (codes "all\n") (b ∷ rest) >>= λ word. Ok (None, word.1))
    else (numbers_at (b ∷ rest) >>= λ numbers. Ok (Some numbers.0, numbers.1))

abbrev pub terms_by : Delays → Option (List ℕ) → Terms
terms_by default outputs = record { default = default; outputs = outputs; keep = [] }

abbrev pub with_keep : List NamedCondition → Terms → Terms
with_keep keep terms = record { default = terms.default; outputs = terms.outputs; keep = keep }

-- the lines `default` and `output`
unfoldable pub terms_at : List ℕ → Reading Terms
terms_at bytes = do
  default ← default_at bytes
  word ← literal (codes "output ") default.1
  outputs ← outputs_at word.1
  Ok (terms_by default.0 outputs.0, outputs.1)

abbrev pub with_terms : Terms → Question → Question
with_terms terms question = record { admit = question.admit; moments = question.moments; terms = Some terms }

-- the lines `default` to `keep`
unfoldable pub told_at : ℕ → List ℕ → Reading Question
told_at inputs bytes = do
  terms ← terms_at bytes
  question ← dated_at Fourth false inputs terms.1
  word ← literal (codes "keep ") question.1
  keep ← kept_at word.1
  Ok (with_terms (with_keep keep.0 terms.0) question.0, keep.1)

-- the lines of a question
unfoldable pub question_at : Version → ℕ → List ℕ → Reading Question
question_at First inputs bytes = Ok (all_at_once inputs, bytes)
question_at Second inputs bytes = do
  admit ← admit_at Second inputs bytes
  Ok (asked admit.0 (replicate inputs 0), admit.1)
question_at Third inputs bytes = dated_at Third true inputs bytes
question_at Fourth inputs bytes = told_at inputs bytes

-- ---- the tree

-- the letter of a domain
abbrev pub domain_byte : BoundedBy → ℕ
domain_byte Arrival = 97
domain_byte Possible = 116
domain_byte Both = 109
domain_byte Edges = 101
domain_byte EdgesAndPossible = 110

-- the domains that a leaf may name
abbrev pub domains : Leaves → List BoundedBy
domains leaves.First = Arrival ∷ Possible ∷ Both ∷ []
domains leaves.Later = Arrival ∷ Possible ∷ Both ∷ []
domains leaves.Any = Arrival ∷ Possible ∷ Both ∷ Edges ∷ EdgesAndPossible ∷ []

abbrev pub domain_of : Leaves → ℕ → Option BoundedBy
domain_of here b = written_as domain_byte (domains here) b

unfoldable pub letter_at : Leaves → List ℕ → Reading BoundedBy
letter_at here bytes = char_at (domain_of here) bytes

-- how a node's line begins
pub data Tag : Type 0 where
  SplitTag : Tag
  BoundTag : Tag
  PointTag : Tag
  EmptyTag : Tag
  RefutedTag : Tag

abbrev pub tag_byte : Tag → ℕ
tag_byte SplitTag = 115
tag_byte BoundTag = 98
tag_byte PointTag = 112
tag_byte EmptyTag = 110
tag_byte RefutedTag = 120

-- in the first version each leaf has an admitted pair
abbrev pub tags : Leaves → List Tag
tags leaves.First = SplitTag ∷ BoundTag ∷ PointTag ∷ []
tags leaves.Later = SplitTag ∷ BoundTag ∷ PointTag ∷ EmptyTag ∷ []
tags leaves.Any = SplitTag ∷ BoundTag ∷ PointTag ∷ EmptyTag ∷ RefutedTag ∷ []

unfoldable pub tag_at : Leaves → List ℕ → Reading Tag
tag_at here bytes = char_at (λ b. written_as tag_byte (tags here) b) bytes

-- what stands after the first byte of a node
unfoldable pub behind_tag : Leaves → Tag → List ℕ → Reading Node
behind_tag here SplitTag bytes = do
  position ← number_behind (codes " ") greatest 10 bytes
  Ok (node.Split position.0, position.1)
behind_tag here BoundTag bytes = do
  space ← literal (codes " ") bytes
  domain ← letter_at here space.1
  bound ← number_behind (codes " ") greatest 10 domain.1
  Ok (node.Bound domain.0 bound.0, bound.1)
behind_tag here PointTag bytes = do
  time ← number_behind (codes " ") greatest 10 bytes
  Ok (node.Point time.0, time.1)
behind_tag here EmptyTag bytes = do
  word ← literal (codes "one\n") bytes
  Ok (node.Empty, word.1)
behind_tag here RefutedTag bytes = do
  newline ← literal (codes "\n") bytes
  refuted ← refuted_at newline.1
  Ok (node.Refuted refuted.0, refuted.1)

-- a node's line, or its lines
unfoldable pub node_at : Leaves → List ℕ → Reading Node
node_at here bytes = do
  tag ← tag_at here bytes
  behind_tag here tag.0 tag.1

-- the leaves of a tree, by the version
abbrev pub leaves_in : Version → Leaves
leaves_in First = leaves.First
leaves_in Second = leaves.Later
leaves_in Third = leaves.Later
leaves_in Fourth = leaves.Any

-- the nodes of `pending` subtrees, at most `count` of them
unfoldable pub nodes_within : Leaves → ℕ → ℕ → List ℕ → Reading (List Node)
nodes_within here count zero bytes = Ok ([], bytes)
nodes_within here zero (suc pending) bytes = Err Ends
nodes_within here (suc count) (suc pending) bytes = do
  first ← node_at here bytes
  others ← nodes_within here count (sides first.0 + pending) first.1
  Ok (first.0 ∷ others.0, others.1)

-- the nodes of `pending` subtrees
unfoldable pub nodes_at : Leaves → ℕ → List ℕ → Reading (List Node)
nodes_at here pending bytes = nodes_within here (length bytes) pending bytes

-- ---- the claim

-- only a text of the fourth version can tell that no pair is admitted
abbrev pub may_claim_none : Version → Bool
may_claim_none First = false
may_claim_none Second = false
may_claim_none Third = false
may_claim_none Fourth = true

-- the line of the moment after which no admitted pair changes an output; before the fourth version it
-- is the time
unfoldable pub high_at : Version → ℕ → List ℕ → Reading ℕ
high_at First time bytes = Ok (time, bytes)
high_at Second time bytes = Ok (time, bytes)
high_at Third time bytes = Ok (time, bytes)
high_at Fourth time bytes = number_behind (codes "high ") greatest 10 bytes

abbrev pub claim_of : ℕ → ℕ → List Bool → List Bool → Claim
claim_of time high first second = record { time = time; high = high; pair = record { first = first; second = second } }

-- the lines of a claim after that of its time
unfoldable pub timed_at : Version → ℕ → ℕ → List ℕ → Reading Claim
timed_at version inputs time bytes = do
  high ← high_at version time bytes
  first ← row_behind (codes "from ") bit_of inputs high.1
  second ← row_behind (codes "to ") bit_of inputs first.1
  Ok (claim_of time high.0 first.0 second.0, second.1)

-- the lines after that of the time, which are there where it tells one
unfoldable pub claim_behind : Version → ℕ → Option ℕ → List ℕ → Reading (Option Claim)
claim_behind version inputs None bytes = Ok (None, bytes)
claim_behind version inputs (Some time) bytes = do
  claim ← timed_at version inputs time bytes
  Ok (Some claim.0, claim.1)

-- the lines of the claim
unfoldable pub claim_at : Version → ℕ → List ℕ → Reading (Option Claim)
claim_at version inputs bytes = do
  word ← literal (codes "time ") bytes
  time ← number_or_none (may_claim_none version) word.1
  claim_behind version inputs time.0 time.1

-- ---- the whole

abbrev pub with_fields : ℕ → Question → Option Claim → List Node → Certificate
with_fields gates question claim tree = record { gates = gates; question = question; claim = claim; tree = tree }

-- the lines after the first, and the bytes after them
unfoldable pub lines_at : Version → List ℕ → Reading Certificate
lines_at version bytes = do
  word ← literal (codes "circuit ") bytes
  inputs ← number_from (has_inputs version) 4096 32 word.1
  gates ← number_at 200000 10 inputs.1
  question ← question_at version inputs.0 gates.1
  claim ← claim_at version inputs.0 question.1
  tree ← nodes_at (leaves_in version) 1 claim.1
  Ok (with_fields gates.0 question.0 claim.0 tree.0, tree.1)

-- a certificate, and the bytes after it
unfoldable pub certificate_at : List ℕ → Reading Certificate
certificate_at bytes = do
  version ← version_at bytes
  lines_at version.0 version.1
