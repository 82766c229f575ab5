-- Which lines of a question say more than the plain one. None does where the question is about all pairs and all outputs,
-- gates that state no delay have 1 and 1, and all inputs change at moment 0.
use Rattle.std.specs.Prelude.{ℕ, Bool, true, false, List, [], ◌∷◌, ◌==◌, ◌&&◌, ◌||◌, not, is_some, if◌then◌else◌}
use Rattle.std.specs.List.{flat_map, list_any}
use Rattle.td_refutation.specs.declared.conditions.NamedCondition.{NamedCondition}
use Rattle.td_certificate.specs.declared.question.Version.{Version}
use Rattle.td_certificate.specs.declared.question.Version.TheVariants.{Fourth}
use Rattle.td_certificate.specs.Questions.{Question, inputs_of, holds_none, is_at_once}
use Rattle.td_certificate.specs.Spelling.{Field, DefaultField, OutputField, FirstField, SecondField, HoldField, FlipsField, AtField, KeepField, fields_of, field_line, terms_of, ended, question_text}
use Rattle.td_certificate.specs.Text.{row, trit, first_trits, second_trits}

-- whether a row of trits has a level
abbrev pub has_level : List ℕ → Bool
has_level bytes = list_any (λ b. b == 48 || b == 49) bytes

abbrev pub keeps_none : List NamedCondition → Bool
keeps_none [] = true
keeps_none (condition ∷ keep) = false

-- whether a line says something else than the plain one
abbrev pub says_more : Question → Field → Bool
says_more question DefaultField = not ((terms_of question).default.rise == 1 && (terms_of question).default.fall == 1)
says_more question OutputField = is_some (terms_of question).outputs
says_more question FirstField = has_level (row trit (first_trits question.admit.pins))
says_more question SecondField = has_level (row trit (second_trits question.admit.pins))
says_more question HoldField = not (holds_none question.admit.held)
says_more question FlipsField = not (question.admit.flips == inputs_of question)
says_more question AtField = not (is_at_once question.moments)
says_more question KeepField = not (keeps_none (terms_of question).keep)

-- a line, unless it is plain
abbrev pub told_line : Question → Field → List ℕ
told_line question field = if says_more question field then ended (field_line question field) else []

-- The lines of a question that a report tells: in the fourth version those that aren't plain.
abbrev pub reported_text : Version → Question → List ℕ
reported_text Fourth question = flat_map (told_line question) (fields_of Fourth)
reported_text version question = question_text version question
