-- The lines of a certificate that is accepted.
use Rattle.std.specs.Prelude.{ℕ, List, [], ◌∷◌, ◌==◌, map, if◌then◌else◌, Option, Some, None}
use Rattle.std.specs.List.{flat_map}
use Rattle.td_certificate.specs.declared.certificate.Certificate.{Certificate}
use Rattle.td_certificate.specs.declared.certificate.Claim.{Claim}
use Rattle.td_certificate.specs.declared.question.Version.{Version}
use Rattle.td_certificate.specs.declared.question.Version.TheVariants.{Fourth}
use Rattle.td_certificate.specs.Questions.{Question}
use Rattle.td_certificate.specs.Spelling.{Field, DefaultField, OutputField, FirstField, SecondField, HoldField, FlipsField, AtField, KeepField, fields_of, terms_of, version_in}
use Rattle.td_certificate.specs.Plain.{says_more}
use Rattle.td_certificate.specs.Text.{row, trit, hold, conditions, first_trits, second_trits}
use Rattle.td_lines.specs.declared.line.Line.{Line}
use Rattle.td_lines.specs.declared.line.Line.TheVariants as line

-- its time, and where that isn't surely the worst delay, the moment after which no admitted pair
-- changes an output
abbrev pub accepted_line : ℕ → ℕ → Line
accepted_line time high = if time == high then line.Accepted time else line.AcceptedBetween time high

-- what is claimed, if a pair is, or that none is admitted
abbrev pub claimed_line : Option Claim → Line
claimed_line None = line.AcceptedNone
claimed_line (Some claim) = accepted_line claim.time claim.high

-- what a line of the certificate's text tells
abbrev pub field_line : Question → Field → Line
field_line question DefaultField = line.Default (terms_of question).default.rise (terms_of question).default.fall
field_line question OutputField = line.OutputNumbers (terms_of question).outputs
field_line question FirstField = line.First (row trit (first_trits question.admit.pins))
field_line question SecondField = line.Second (row trit (second_trits question.admit.pins))
field_line question HoldField = line.Hold (row hold question.admit.held)
field_line question FlipsField = line.Flips question.admit.flips
field_line question AtField = line.At question.moments
field_line question KeepField = line.Keep (conditions (terms_of question).keep)

-- the line, unless it is plain
abbrev pub told_line : Question → Field → List Line
told_line question field = if says_more question field then field_line question field ∷ [] else []

-- what it is about, as its text of this version has it, of the fourth what isn't plain
abbrev pub question_lines : Version → Question → List Line
question_lines Fourth question = flat_map (told_line question) (fields_of Fourth)
question_lines version question = map (field_line question) (fields_of version)

abbrev pub claim_lines : Certificate → List Line
claim_lines certificate = claimed_line certificate.claim ∷ question_lines (version_in certificate) certificate.question
