-- Nothing after the first line has the fault Version.
use Rattle.std.proofs.Common.{◌≡◌, ℕ, zero, suc, ◌+◌, ◌-◌, ◌*◌, Bool, true, false, cond, eqb, ltb, leb, List, [], ◌∷◌, Option, Some, None, Ok, Err, inl, inr}
use Rattle.std.specs.Prelude.{codes, replicate, ◌&&◌, ◌==◌}
use Rattle.std.specs.Char.{is_ascii_digit}
use Rattle.td_certificate.specs.declared.tree.Node.TheVariants as node
use Rattle.td_certificate.specs.declared.question.Version.{Version}
use Rattle.td_certificate.specs.declared.question.Version.TheVariants.{First, Second, Third, Fourth}
use Rattle.td_certificate.specs.declared.fields.Leaves.{Leaves}
use Rattle.td_certificate.specs.declared.certificate.Certificate.{Certificate}
use Rattle.td_certificate.specs.declared.fields.Reason.TheVariants.{Syntax, NumberTooLarge}
use Rattle.td_certificate.specs.declared.fields.Reason.TheVariants as reason
use Rattle.td_certificate.specs.Trees.{sides}
use Rattle.td_spans.specs.declared.condition.Form.{Form}
use Rattle.td_spans.specs.declared.condition.Form.TheVariants.{Levels, Equal}
use Rattle.td_refutation.specs.declared.conditions.NamedCondition.{NamedCondition}
use Rattle.td_certificate.specs.declared.conditions.Sign.{Sign}
use Rattle.td_certificate.specs.declared.conditions.Sign.TheVariants as sign
use Rattle.td_certificate.specs.Questions.{Terms, Question, all_at_once}
use Rattle.td_certificate.specs.Text.{level_byte}
use Rattle.td_certificate.specs.ConditionReading.{sign_byte, signs, second_levels, behind_sign, form_at, condition_by, condition_at, conditions_at, kept_at}
use Rattle.td_domain.specs.Cubes.{weave}
use Rattle.td_certificate.specs.Spelling.{greatest, latest}
use Rattle.td_certificate.specs.Reading.{Ends, Wrong, Reading, ◌>>=◌, literal, digits_at, number_at, begins_with_zero, begins_none, number_or_none, number_from, taken, char_at, chars_at, trit_of, hold_of, bit_of, chars_behind, letter_at, number_behind, row_behind, because, has_inputs, most_flips, flips_at, with_pins, admit_at, close_of, moment_at, moments_at, at_line, asked, dated_at, steps_at, delays, default_at, outputs_at, terms_by, terms_at, with_keep, with_terms, told_at, question_at, Tag, SplitTag, BoundTag, PointTag, EmptyTag, RefutedTag, written_as, tag_at, behind_tag, node_at, leaves_in, may_claim_none, high_at, claim_of, timed_at, claim_behind, claim_at, nodes_within, nodes_at, with_fields, lines_at}
use Rattle.td_certificate.specs.StepReading.{ended_by, until_within, until_at, open_digits_at, open_number_at, numbers_at, closing_byte, numbers_after, spaced_at, LineTag, StepTag, BoundEndTag, line_byte, line_tags, StepLine, BoundLine, behind_line_tag, refuted_line_at, is_bound_line, bound_alone, step_before, refuted_at}
use Rattle.td_certificate.proofs.Loops.{done}
use Rattle.td_certificate.proofs.Codes.{bind_err}
use Rattle.td_certificate.proofs.FieldCodes.{ends, wrong}

abbrev pub Plain : {A : Type 0} → Reading A → Type 0
Plain {A} read = (rest : List ℕ) → ¬ (read ≡ wrong {A = A} reason.Version rest)

plain_ok : {A : Type 0} (x : A × List ℕ) → Plain (done x)
plain_ok x rest e = cc

plain_ends : {A : Type 0} → Plain {A = A} ends
plain_ends rest e = cc

plain_syntax : {A : Type 0} (at : List ℕ) → Plain {A = A} (wrong Syntax at)
plain_syntax at rest e = cc

plain_large : {A : Type 0} (at : List ℕ) → Plain {A = A} (wrong NumberTooLarge at)
plain_large at rest e = cc

plain_then : {A B : Type 0} (r : Reading A) (f : A × List ℕ → Reading B) → Plain r → ((x : A × List ℕ) → Plain (f x)) → Plain (r >>= f)
plain_then r f p q rest e = elim (bind_err r f (Wrong reason.Version rest) e) as (λ _. ⊥) [ inl here ↦ p rest here | inr there ↦ q there.value rest there.stopped ]

plain_if : {A : Type 0} (b : Bool) (x y : Reading A) → Plain x → Plain y → Plain (cond b x y)
plain_if true x y p q = p
plain_if false x y p q = q

pub literal_plain : (word bytes : List ℕ) → Plain (literal word bytes)
unfolding literal
literal_plain [] bytes = plain_ok (tt, bytes)
literal_plain (c ∷ cs) [] = plain_ends
literal_plain (c ∷ cs) (b ∷ rest) = plain_if (eqb b c) (literal cs rest) (wrong Syntax (b ∷ rest)) (literal_plain cs rest) (plain_syntax (b ∷ rest))

digits_plain : (most close number : ℕ) (bytes : List ℕ) → Plain (digits_at most close number bytes)
unfolding digits_at
digits_plain most close number [] = plain_ends
digits_plain most close number (b ∷ rest) =
    let next : ℕ = 10 * number + (b - 48) in
    let syntax : Reading ℕ = wrong Syntax (b ∷ rest) in
    let goes_on : Reading ℕ = cond (leb next most) (digits_at most close next rest) (wrong NumberTooLarge (b ∷ rest)) in
    plain_if (eqb b close) (done (number, rest)) (cond (is_ascii_digit b) (cond (ltb 0 number) goes_on syntax) syntax) (plain_ok (number, rest))
    (plain_if (is_ascii_digit b) (cond (ltb 0 number) goes_on syntax) syntax
    (plain_if (ltb 0 number) goes_on syntax
    (plain_if (leb next most) (digits_at most close next rest) (wrong NumberTooLarge (b ∷ rest)) (digits_plain most close next rest) (plain_large (b ∷ rest)))
    (plain_syntax (b ∷ rest)))
    (plain_syntax (b ∷ rest)))

number_plain : (most close : ℕ) (bytes : List ℕ) → Plain (number_at most close bytes)
unfolding number_at
number_plain most close [] = plain_ends
number_plain most close (b ∷ rest) =
    let goes_on : Reading ℕ = cond (leb (b - 48) most) (digits_at most close (b - 48) rest) (wrong NumberTooLarge (b ∷ rest)) in
    plain_if (is_ascii_digit b) goes_on (wrong Syntax (b ∷ rest))
    (plain_if (leb (b - 48) most) (digits_at most close (b - 48) rest) (wrong NumberTooLarge (b ∷ rest)) (digits_plain most close (b - 48) rest) (plain_large (b ∷ rest)))
    (plain_syntax (b ∷ rest))

from_plain : (positive : Bool) (most close : ℕ) (bytes : List ℕ) → Plain (number_from positive most close bytes)
unfolding number_from
from_plain positive most close bytes =
    plain_if (positive && begins_with_zero bytes) (wrong Syntax bytes) (number_at most close bytes) (plain_syntax bytes) (number_plain most close bytes)

-- a fault that is reported as Syntax
syntax_plain : {A : Type 0} (read : Reading A) → Plain (because Syntax read)
syntax_plain (Ok x) = plain_ok x
syntax_plain (Err Ends) = plain_ends
syntax_plain (Err (Wrong other rest)) = plain_syntax rest

taken_plain : {A : Type 0} (o : Option A) (b : ℕ) (rest : List ℕ) → Plain (taken o b rest)
taken_plain (Some x) b rest = plain_ok (x, rest)
taken_plain None b rest = plain_syntax (b ∷ rest)

pub char_plain : {A : Type 0} (value : ℕ → Option A) (bytes : List ℕ) → Plain (char_at value bytes)
char_plain value [] = plain_ends
char_plain value (b ∷ rest) = taken_plain (value b) b rest

chars_plain : {A : Type 0} (value : ℕ → Option A) (count : ℕ) (bytes : List ℕ) → Plain (chars_at value count bytes)
unfolding chars_at
chars_plain value zero bytes = plain_ok ([], bytes)
chars_plain value (suc count) bytes =
    plain_then (char_at value bytes) (λ first. chars_at value count first.1 >>= λ others. Ok (first.0 ∷ others.0, others.1)) (char_plain value bytes)
    (λ first. plain_then (chars_at value count first.1) (λ others. Ok (first.0 ∷ others.0, others.1)) (chars_plain value count first.1) (λ others. plain_ok (first.0 ∷ others.0, others.1)))

chars_behind_plain : {A : Type 0} (word : List ℕ) (value : ℕ → Option A) (count : ℕ) (bytes : List ℕ) → Plain (chars_behind word value count bytes)
unfolding chars_behind
chars_behind_plain word value count bytes =
    plain_then (literal word bytes) (λ behind. chars_at value count behind.1 >>= λ chars. literal (codes "\n") chars.1 >>= λ end. Ok (chars.0, end.1)) (literal_plain word bytes)
    (λ behind. plain_then (chars_at value count behind.1) (λ chars. literal (codes "\n") chars.1 >>= λ end. Ok (chars.0, end.1)) (chars_plain value count behind.1)
    (λ chars. plain_then (literal (codes "\n") chars.1) (λ end. Ok (chars.0, end.1)) (literal_plain (codes "\n") chars.1) (λ end. plain_ok (chars.0, end.1))))

row_behind_plain : {A : Type 0} (word : List ℕ) (value : ℕ → Option A) (count : ℕ) (bytes : List ℕ) → Plain (row_behind word value count bytes)
unfolding row_behind
row_behind_plain word value zero bytes =
    plain_then (literal word bytes) (λ behind. literal (codes "none\n") behind.1 >>= λ none. Ok ([], none.1)) (literal_plain word bytes)
    (λ behind. plain_then (literal (codes "none\n") behind.1) (λ none. Ok ([], none.1)) (literal_plain (codes "none\n") behind.1) (λ none. plain_ok ([], none.1)))
row_behind_plain word value (suc count) bytes = chars_behind_plain word value (suc count) bytes

number_behind_plain : (word : List ℕ) (most close : ℕ) (bytes : List ℕ) → Plain (number_behind word most close bytes)
unfolding number_behind
number_behind_plain word most close bytes = plain_then (literal word bytes) (λ behind. number_at most close behind.1) (literal_plain word bytes) (λ behind. number_plain most close behind.1)

abbrev no_number : Unit {0} × List ℕ → Reading (Option ℕ)
no_number word = Ok (None, word.1)

abbrev some_number : ℕ × List ℕ → Reading (Option ℕ)
some_number number = Ok (Some number.0, number.1)

told_number_plain : (may : Bool) (bytes : List ℕ) → Plain (number_or_none may bytes)
unfolding number_or_none
told_number_plain may bytes =
    plain_if (begins_none may bytes) (literal (codes "none\n") bytes >>= no_number) (number_at greatest 10 bytes >>= some_number)
    (plain_then (literal (codes "none\n") bytes) no_number (literal_plain (codes "none\n") bytes) (λ word. plain_ok (None, word.1)))
    (plain_then (number_at greatest 10 bytes) some_number (number_plain greatest 10 bytes) (λ number. plain_ok (Some number.0, number.1)))

-- ---- the question

flips_plain : (most : ℕ) (bytes : List ℕ) → Plain (flips_at most bytes)
unfolding flips_at
flips_plain most bytes = syntax_plain (number_behind (codes "flips ") most 10 bytes)

admit_plain : (v : Version) (i : ℕ) (bytes : List ℕ) → Plain (admit_at v i bytes)
unfolding admit_at
admit_plain v i bytes =
    plain_then (row_behind (codes "first ") trit_of i bytes)
    (λ firsts. row_behind (codes "second ") trit_of i firsts.1 >>= λ seconds. row_behind (codes "hold ") hold_of i seconds.1 >>= λ held. flips_at (most_flips v (weave firsts.0 seconds.0) held.0) held.1 >>= λ flips. Ok (with_pins firsts.0 seconds.0 held.0 flips.0, flips.1))
    (row_behind_plain (codes "first ") trit_of i bytes)
    (λ firsts. plain_then (row_behind (codes "second ") trit_of i firsts.1)
    (λ seconds. row_behind (codes "hold ") hold_of i seconds.1 >>= λ held. flips_at (most_flips v (weave firsts.0 seconds.0) held.0) held.1 >>= λ flips. Ok (with_pins firsts.0 seconds.0 held.0 flips.0, flips.1))
    (row_behind_plain (codes "second ") trit_of i firsts.1)
    (λ seconds. plain_then (row_behind (codes "hold ") hold_of i seconds.1)
    (λ held. flips_at (most_flips v (weave firsts.0 seconds.0) held.0) held.1 >>= λ flips. Ok (with_pins firsts.0 seconds.0 held.0 flips.0, flips.1))
    (row_behind_plain (codes "hold ") hold_of i seconds.1)
    (λ held. plain_then (flips_at (most_flips v (weave firsts.0 seconds.0) held.0) held.1) (λ flips. Ok (with_pins firsts.0 seconds.0 held.0 flips.0, flips.1))
    (flips_plain (most_flips v (weave firsts.0 seconds.0) held.0) held.1) (λ flips. plain_ok (with_pins firsts.0 seconds.0 held.0 flips.0, flips.1)))))

moments_plain : (at_once : Bool) (count : ℕ) (bytes : List ℕ) → Plain (moments_at at_once count bytes)
unfolding moments_at
moments_plain at_once zero bytes = plain_ok ([], bytes)
moments_plain at_once (suc count) bytes =
    plain_then (moment_at at_once count bytes) (λ first. moments_at (at_once && first.0 == 0) count first.1 >>= λ others. Ok (first.0 ∷ others.0, others.1))
    (syntax_plain (number_from (at_once && count == 0) latest (close_of count) bytes))
    (λ first. plain_then (moments_at (at_once && first.0 == 0) count first.1) (λ others. Ok (first.0 ∷ others.0, others.1)) (moments_plain (at_once && first.0 == 0) count first.1) (λ others. plain_ok (first.0 ∷ others.0, others.1)))

at_plain : (later : Bool) (i : ℕ) (bytes : List ℕ) → Plain (at_line later i bytes)
unfolding at_line
at_plain later zero bytes =
    plain_then (literal (codes "at ") bytes) (λ behind. literal (codes "none\n") behind.1 >>= λ none. Ok ([], none.1)) (literal_plain (codes "at ") bytes)
    (λ behind. plain_then (literal (codes "none\n") behind.1) (λ none. Ok ([], none.1)) (literal_plain (codes "none\n") behind.1) (λ none. plain_ok ([], none.1)))
at_plain later (suc count) bytes =
    plain_then (literal (codes "at ") bytes) (λ behind. moments_at later (suc count) behind.1) (literal_plain (codes "at ") bytes) (λ behind. moments_plain later (suc count) behind.1)

dated_plain : (v : Version) (later : Bool) (i : ℕ) (bytes : List ℕ) → Plain (dated_at v later i bytes)
unfolding dated_at
dated_plain v later i bytes =
    plain_then (admit_at v i bytes) (λ admit. at_line later i admit.1 >>= λ moments. Ok (asked admit.0 moments.0, moments.1)) (admit_plain v i bytes)
    (λ admit. plain_then (at_line later i admit.1) (λ moments. Ok (asked admit.0 moments.0, moments.1)) (at_plain later i admit.1) (λ moments. plain_ok (asked admit.0 moments.0, moments.1)))

-- ---- steps

ended_plain : {A B : Type 0} (single : A → B) (put : A → B → B) (last : Bool) (x : A) (rest : List ℕ) (others : Reading B) → Plain others → Plain (ended_by single put last x rest others)
ended_plain single put true x rest others p = plain_ok (single x, rest)
ended_plain single put false x rest others p = plain_then others (λ y. Ok (put x y.0, y.1)) p (λ y. plain_ok (put x y.0, y.1))

until_within_plain : {A B : Type 0} (last : A → Bool) (single : A → B) (put : A → B → B) (read : List ℕ → Reading A) → ((bytes : List ℕ) → Plain (read bytes))
    → (count : ℕ) (bytes : List ℕ) → Plain (until_within last single put read count bytes)
unfolding until_within
until_within_plain last single put read plain zero bytes = plain_ends
until_within_plain last single put read plain (suc count) bytes =
    plain_then (read bytes) (λ x. ended_by single put (last x.0) x.0 x.1 (until_within last single put read count x.1)) (plain bytes)
    (λ x. ended_plain single put (last x.0) x.0 x.1 (until_within last single put read count x.1) (until_within_plain last single put read plain count x.1))

until_plain : {A B : Type 0} (last : A → Bool) (single : A → B) (put : A → B → B) (read : List ℕ → Reading A) → ((bytes : List ℕ) → Plain (read bytes))
    → (bytes : List ℕ) → Plain (until_at last single put read bytes)
unfolding until_at
until_plain last single put read plain bytes = until_within_plain last single put read plain _ bytes

open_digits_plain : (number : ℕ) (bytes : List ℕ) → Plain (open_digits_at number bytes)
unfolding open_digits_at
open_digits_plain number [] = plain_ends
open_digits_plain number (b ∷ rest) =
    let next : ℕ = 10 * number + (b - 48) in
    let syntax : Reading (ℕ × Bool) = wrong Syntax (b ∷ rest) in
    let goes_on : Reading (ℕ × Bool) = cond (leb next greatest) (open_digits_at next rest) (wrong NumberTooLarge (b ∷ rest)) in
    let digit : Reading (ℕ × Bool) = cond (is_ascii_digit b) (cond (ltb 0 number) goes_on syntax) syntax in
    plain_if (eqb b 10) (done ((number, true), rest)) (cond (eqb b 32) (done ((number, false), rest)) digit) (plain_ok ((number, true), rest))
    (plain_if (eqb b 32) (done ((number, false), rest)) digit (plain_ok ((number, false), rest))
    (plain_if (is_ascii_digit b) (cond (ltb 0 number) goes_on syntax) syntax
    (plain_if (ltb 0 number) goes_on syntax
    (plain_if (leb next greatest) (open_digits_at next rest) (wrong NumberTooLarge (b ∷ rest)) (open_digits_plain next rest) (plain_large (b ∷ rest)))
    (plain_syntax (b ∷ rest)))
    (plain_syntax (b ∷ rest))))

open_number_plain : (bytes : List ℕ) → Plain (open_number_at bytes)
unfolding open_number_at
open_number_plain [] = plain_ends
open_number_plain (b ∷ rest) =
    plain_if (is_ascii_digit b) (open_digits_at (b - 48) rest) (wrong Syntax (b ∷ rest)) (open_digits_plain (b - 48) rest) (plain_syntax (b ∷ rest))

numbers_plain : (bytes : List ℕ) → Plain (numbers_at bytes)
unfolding numbers_at
numbers_plain bytes = until_plain (λ x. x.1) (λ x. x.0 ∷ []) (λ x others. x.0 ∷ others) open_number_at open_number_plain bytes

steps_plain : (close : ℕ) (bytes : List ℕ) → Plain (steps_at close bytes)
unfolding steps_at
steps_plain close bytes = syntax_plain (number_from true latest close bytes)

default_plain : (bytes : List ℕ) → Plain (default_at bytes)
unfolding default_at
default_plain bytes =
    plain_then (literal (codes "default ") bytes) (λ word. steps_at 32 word.1 >>= λ rise. steps_at 10 rise.1 >>= λ fall. Ok (delays rise.0 fall.0, fall.1)) (literal_plain (codes "default ") bytes)
    (λ word. plain_then (steps_at 32 word.1) (λ rise. steps_at 10 rise.1 >>= λ fall. Ok (delays rise.0 fall.0, fall.1)) (steps_plain 32 word.1)
    (λ rise. plain_then (steps_at 10 rise.1) (λ fall. Ok (delays rise.0 fall.0, fall.1)) (steps_plain 10 rise.1) (λ fall. plain_ok (delays rise.0 fall.0, fall.1))))

abbrev all_outputs : Unit {0} × List ℕ → Reading (Option (List ℕ))
all_outputs word = Ok (None, word.1)

abbrev some_outputs : List ℕ × List ℕ → Reading (Option (List ℕ))
some_outputs numbers = Ok (Some numbers.0, numbers.1)

outputs_plain : (bytes : List ℕ) → Plain (outputs_at bytes)
unfolding outputs_at
outputs_plain [] = plain_ends
outputs_plain (b ∷ rest) =
    plain_if (eqb b 97) (literal (codes "all\n") (b ∷ rest) >>= all_outputs) (numbers_at (b ∷ rest) >>= some_outputs)
    (plain_then (literal (codes "all\n") (b ∷ rest)) all_outputs (literal_plain (codes "all\n") (b ∷ rest)) (λ word. plain_ok (None, word.1)))
    (plain_then (numbers_at (b ∷ rest)) some_outputs (numbers_plain (b ∷ rest)) (λ numbers. plain_ok (Some numbers.0, numbers.1)))

terms_plain : (bytes : List ℕ) → Plain (terms_at bytes)
unfolding terms_at
terms_plain bytes =
    plain_then (default_at bytes) (λ default. literal (codes "output ") default.1 >>= λ word. outputs_at word.1 >>= λ outputs. Ok (terms_by default.0 outputs.0, outputs.1)) (default_plain bytes)
    (λ default. plain_then (literal (codes "output ") default.1) (λ word. outputs_at word.1 >>= λ outputs. Ok (terms_by default.0 outputs.0, outputs.1)) (literal_plain (codes "output ") default.1)
    (λ word. plain_then (outputs_at word.1) (λ outputs. Ok (terms_by default.0 outputs.0, outputs.1)) (outputs_plain word.1) (λ outputs. plain_ok (terms_by default.0 outputs.0, outputs.1))))

behind_sign_plain : (begins : Sign) (bytes : List ℕ) → Plain (behind_sign begins bytes)
unfolding behind_sign
behind_sign_plain (sign.Level first) bytes =
    plain_then (char_at (λ b. written_as level_byte (second_levels first) b) bytes) (λ second. Ok (Levels first second.0, second.1)) (char_plain _ bytes)
    (λ second. plain_ok (Levels first second.0, second.1))
behind_sign_plain sign.Equal bytes = plain_then (literal (codes "=") bytes) (λ word. Ok (Equal, word.1)) (literal_plain (codes "=") bytes) (λ word. plain_ok (Equal, word.1))

form_plain : (bytes : List ℕ) → Plain (form_at bytes)
unfolding form_at
form_plain bytes =
    plain_then (char_at (λ b. written_as sign_byte signs b) bytes) (λ begins. behind_sign begins.0 begins.1) (char_plain _ bytes) (λ begins. behind_sign_plain begins.0 begins.1)

abbrev close_condition : ℕ → Form × List ℕ → Reading (NamedCondition × Bool)
close_condition net form = char_at (λ b. written_as closing_byte (true ∷ false ∷ []) b) form.1 >>= λ close. Ok ((condition_by net form.0, close.0), close.1)

condition_plain : (bytes : List ℕ) → Plain (condition_at bytes)
unfolding condition_at
condition_plain bytes =
    plain_then (number_at greatest 32 bytes) (λ net. form_at net.1 >>= close_condition net.0) (number_plain greatest 32 bytes)
    (λ net. plain_then (form_at net.1) (close_condition net.0) (form_plain net.1)
    (λ form. plain_then (char_at (λ b. written_as closing_byte (true ∷ false ∷ []) b) form.1) (λ close. Ok ((condition_by net.0 form.0, close.0), close.1)) (char_plain _ form.1)
    (λ close. plain_ok ((condition_by net.0 form.0, close.0), close.1))))

conditions_plain : (bytes : List ℕ) → Plain (conditions_at bytes)
unfolding conditions_at
conditions_plain bytes = until_plain (λ x. x.1) (λ x. x.0 ∷ []) (λ x others. x.0 ∷ others) condition_at condition_plain bytes

abbrev no_conditions : Unit {0} × List ℕ → Reading (List NamedCondition)
no_conditions word = Ok ([], word.1)

kept_plain : (bytes : List ℕ) → Plain (kept_at bytes)
unfolding kept_at
kept_plain [] = plain_ends
kept_plain (b ∷ rest) =
    plain_if (eqb b 110) (literal (codes "none\n") (b ∷ rest) >>= no_conditions) (conditions_at (b ∷ rest))
    (plain_then (literal (codes "none\n") (b ∷ rest)) no_conditions (literal_plain (codes "none\n") (b ∷ rest)) (λ word. plain_ok ([], word.1)))
    (conditions_plain (b ∷ rest))

abbrev with_kept : Terms → Question → List NamedCondition × List ℕ → Reading Question
with_kept terms question keep = Ok (with_terms (with_keep keep.0 terms) question, keep.1)

told_plain : (i : ℕ) (bytes : List ℕ) → Plain (told_at i bytes)
unfolding told_at
told_plain i bytes =
    plain_then (terms_at bytes) (λ terms. dated_at Fourth false i terms.1 >>= λ question. literal (codes "keep ") question.1 >>= λ word. kept_at word.1 >>= with_kept terms.0 question.0) (terms_plain bytes)
    (λ terms. plain_then (dated_at Fourth false i terms.1) (λ question. literal (codes "keep ") question.1 >>= λ word. kept_at word.1 >>= with_kept terms.0 question.0) (dated_plain Fourth false i terms.1)
    (λ question. plain_then (literal (codes "keep ") question.1) (λ word. kept_at word.1 >>= with_kept terms.0 question.0) (literal_plain (codes "keep ") question.1)
    (λ word. plain_then (kept_at word.1) (with_kept terms.0 question.0) (kept_plain word.1) (λ keep. plain_ok (with_terms (with_keep keep.0 terms.0) question.0, keep.1)))))

question_plain : (v : Version) (i : ℕ) (bytes : List ℕ) → Plain (question_at v i bytes)
unfolding question_at
question_plain First i bytes = plain_ok (all_at_once i, bytes)
question_plain Second i bytes =
    plain_then (admit_at Second i bytes) (λ admit. Ok (asked admit.0 (replicate i 0), admit.1)) (admit_plain Second i bytes) (λ admit. plain_ok (asked admit.0 (replicate i 0), admit.1))
question_plain Third i bytes = dated_plain Third true i bytes
question_plain Fourth i bytes = told_plain i bytes

numbers_after_plain : (last : Bool) (bytes : List ℕ) → Plain (numbers_after last bytes)
numbers_after_plain true bytes = plain_ok ([], bytes)
numbers_after_plain false bytes = numbers_plain bytes

spaced_plain : (bytes : List ℕ) → Plain (spaced_at bytes)
unfolding spaced_at
spaced_plain bytes =
    plain_then (char_at (λ b. written_as closing_byte (true ∷ false ∷ []) b) bytes) (λ close. numbers_after close.0 close.1) (char_plain _ bytes)
    (λ close. numbers_after_plain close.0 close.1)

line_tail_plain : (tag : LineTag) (bytes : List ℕ) → Plain (behind_line_tag tag bytes)
unfolding behind_line_tag
line_tail_plain (StepTag kind) bytes =
    plain_then (spaced_at bytes) (λ numbers. Ok (StepLine (record { kind = kind; numbers = numbers.0 }), numbers.1)) (spaced_plain bytes)
    (λ numbers. plain_ok (StepLine (record { kind = kind; numbers = numbers.0 }), numbers.1))
line_tail_plain BoundEndTag bytes =
    plain_then (literal (codes " ") bytes) (λ space. number_or_none true space.1 >>= λ bound. Ok (BoundLine bound.0, bound.1)) (literal_plain (codes " ") bytes)
    (λ space. plain_then (number_or_none true space.1) (λ bound. Ok (BoundLine bound.0, bound.1)) (told_number_plain true space.1) (λ bound. plain_ok (BoundLine bound.0, bound.1)))

line_plain : (bytes : List ℕ) → Plain (refuted_line_at bytes)
unfolding refuted_line_at
line_plain bytes =
    plain_then (char_at (λ b. written_as line_byte line_tags b) bytes) (λ tag. behind_line_tag tag.0 tag.1) (char_plain _ bytes) (λ tag. line_tail_plain tag.0 tag.1)

refuted_plain : (bytes : List ℕ) → Plain (refuted_at bytes)
unfolding refuted_at
refuted_plain bytes = until_plain is_bound_line bound_alone step_before refuted_line_at line_plain bytes

-- ---- the tree

letter_plain : (here : Leaves) (bytes : List ℕ) → Plain (letter_at here bytes)
unfolding letter_at
letter_plain here bytes = char_plain _ bytes

tag_plain : (here : Leaves) (bytes : List ℕ) → Plain (tag_at here bytes)
unfolding tag_at
tag_plain here bytes = char_plain _ bytes

last_plain : (bytes : List ℕ) → Plain (number_behind (codes " ") greatest 10 bytes)
last_plain bytes = number_behind_plain (codes " ") greatest 10 bytes

behind_tag_plain : (here : Leaves) (tag : Tag) (bytes : List ℕ) → Plain (behind_tag here tag bytes)
unfolding behind_tag
behind_tag_plain here SplitTag bytes =
    plain_then (number_behind (codes " ") greatest 10 bytes) (λ position. Ok (node.Split position.0, position.1)) (last_plain bytes) (λ position. plain_ok (node.Split position.0, position.1))
behind_tag_plain here BoundTag bytes =
    plain_then (literal (codes " ") bytes) (λ space. letter_at here space.1 >>= λ domain. number_behind (codes " ") greatest 10 domain.1 >>= λ bound. Ok (node.Bound domain.0 bound.0, bound.1)) (literal_plain (codes " ") bytes)
    (λ space. plain_then (letter_at here space.1) (λ domain. number_behind (codes " ") greatest 10 domain.1 >>= λ bound. Ok (node.Bound domain.0 bound.0, bound.1)) (letter_plain here space.1)
    (λ domain. plain_then (number_behind (codes " ") greatest 10 domain.1) (λ bound. Ok (node.Bound domain.0 bound.0, bound.1)) (last_plain domain.1) (λ bound. plain_ok (node.Bound domain.0 bound.0, bound.1))))
behind_tag_plain here PointTag bytes =
    plain_then (number_behind (codes " ") greatest 10 bytes) (λ time. Ok (node.Point time.0, time.1)) (last_plain bytes) (λ time. plain_ok (node.Point time.0, time.1))
behind_tag_plain here EmptyTag bytes =
    plain_then (literal (codes "one\n") bytes) (λ word. Ok (node.Empty, word.1)) (literal_plain (codes "one\n") bytes) (λ word. plain_ok (node.Empty, word.1))
behind_tag_plain here RefutedTag bytes =
    plain_then (literal (codes "\n") bytes) (λ newline. refuted_at newline.1 >>= λ refuted. Ok (node.Refuted refuted.0, refuted.1)) (literal_plain (codes "\n") bytes)
    (λ newline. plain_then (refuted_at newline.1) (λ refuted. Ok (node.Refuted refuted.0, refuted.1)) (refuted_plain newline.1) (λ refuted. plain_ok (node.Refuted refuted.0, refuted.1)))

node_plain : (here : Leaves) (bytes : List ℕ) → Plain (node_at here bytes)
unfolding node_at
node_plain here bytes = plain_then (tag_at here bytes) (λ tag. behind_tag here tag.0 tag.1) (tag_plain here bytes) (λ tag. behind_tag_plain here tag.0 tag.1)

within_plain : (here : Leaves) (count pending : ℕ) (bytes : List ℕ) → Plain (nodes_within here count pending bytes)
unfolding nodes_within
within_plain here zero zero bytes = plain_ok ([], bytes)
within_plain here (suc count) zero bytes = plain_ok ([], bytes)
within_plain here zero (suc pending) bytes = plain_ends
within_plain here (suc count) (suc pending) bytes =
    plain_then (node_at here bytes) (λ first. nodes_within here count (sides first.0 + pending) first.1 >>= λ others. Ok (first.0 ∷ others.0, others.1)) (node_plain here bytes)
    (λ first. plain_then (nodes_within here count (sides first.0 + pending) first.1) (λ others. Ok (first.0 ∷ others.0, others.1)) (within_plain here count (sides first.0 + pending) first.1)
    (λ others. plain_ok (first.0 ∷ others.0, others.1)))

nodes_plain : (here : Leaves) (pending : ℕ) (bytes : List ℕ) → Plain (nodes_at here pending bytes)
unfolding nodes_at
nodes_plain here pending bytes = within_plain here _ pending bytes

-- ---- the lines after the first

high_plain : (v : Version) (t : ℕ) (bytes : List ℕ) → Plain (high_at v t bytes)
unfolding high_at
high_plain First t bytes = plain_ok (t, bytes)
high_plain Second t bytes = plain_ok (t, bytes)
high_plain Third t bytes = plain_ok (t, bytes)
high_plain Fourth t bytes = number_behind_plain (codes "high ") greatest 10 bytes

timed_plain : (v : Version) (i t : ℕ) (bytes : List ℕ) → Plain (timed_at v i t bytes)
unfolding timed_at
timed_plain v i t bytes =
    plain_then (high_at v t bytes) (λ high. row_behind (codes "from ") bit_of i high.1 >>= λ first. row_behind (codes "to ") bit_of i first.1 >>= λ second. Ok (claim_of t high.0 first.0 second.0, second.1)) (high_plain v t bytes)
    (λ high. plain_then (row_behind (codes "from ") bit_of i high.1) (λ first. row_behind (codes "to ") bit_of i first.1 >>= λ second. Ok (claim_of t high.0 first.0 second.0, second.1)) (row_behind_plain (codes "from ") bit_of i high.1)
    (λ first. plain_then (row_behind (codes "to ") bit_of i first.1) (λ second. Ok (claim_of t high.0 first.0 second.0, second.1)) (row_behind_plain (codes "to ") bit_of i first.1)
    (λ second. plain_ok (claim_of t high.0 first.0 second.0, second.1))))

behind_time_plain : (v : Version) (i : ℕ) (time : Option ℕ) (bytes : List ℕ) → Plain (claim_behind v i time bytes)
unfolding claim_behind
behind_time_plain v i None bytes = plain_ok (None, bytes)
behind_time_plain v i (Some t) bytes =
    plain_then (timed_at v i t bytes) (λ claim. Ok (Some claim.0, claim.1)) (timed_plain v i t bytes) (λ claim. plain_ok (Some claim.0, claim.1))

claim_plain : (v : Version) (i : ℕ) (bytes : List ℕ) → Plain (claim_at v i bytes)
unfolding claim_at
claim_plain v i bytes =
    plain_then (literal (codes "time ") bytes) (λ word. number_or_none (may_claim_none v) word.1 >>= λ time. claim_behind v i time.0 time.1) (literal_plain (codes "time ") bytes)
    (λ word. plain_then (number_or_none (may_claim_none v) word.1) (λ time. claim_behind v i time.0 time.1) (told_number_plain (may_claim_none v) word.1)
    (λ time. behind_time_plain v i time.0 time.1))

abbrev behind_question : Version → ℕ → ℕ → Question → List ℕ → Reading Certificate
behind_question v i g q bytes = claim_at v i bytes >>= λ claim. nodes_at (leaves_in v) 1 claim.1 >>= λ tree. Ok (with_fields g q claim.0 tree.0, tree.1)

answer_plain : (v : Version) (i g : ℕ) (q : Question) (bytes : List ℕ) → Plain (behind_question v i g q bytes)
answer_plain v i g q bytes =
    plain_then (claim_at v i bytes) (λ claim. nodes_at (leaves_in v) 1 claim.1 >>= λ tree. Ok (with_fields g q claim.0 tree.0, tree.1)) (claim_plain v i bytes)
    (λ claim. plain_then (nodes_at (leaves_in v) 1 claim.1) (λ tree. Ok (with_fields g q claim.0 tree.0, tree.1)) (nodes_plain (leaves_in v) 1 claim.1) (λ tree. plain_ok (with_fields g q claim.0 tree.0, tree.1)))

abbrev behind_inputs : Version → ℕ → List ℕ → Reading Certificate
behind_inputs v i bytes = number_at 200000 10 bytes >>= λ gates. question_at v i gates.1 >>= λ question. behind_question v i gates.0 question.0 question.1

inputs_plain : (v : Version) (i : ℕ) (bytes : List ℕ) → Plain (behind_inputs v i bytes)
inputs_plain v i bytes =
    plain_then (number_at 200000 10 bytes) (λ gates. question_at v i gates.1 >>= λ question. behind_question v i gates.0 question.0 question.1) (number_plain 200000 10 bytes)
    (λ gates. plain_then (question_at v i gates.1) (λ question. behind_question v i gates.0 question.0 question.1) (question_plain v i gates.1) (λ question. answer_plain v i gates.0 question.0 question.1))

abbrev behind_word : Version → List ℕ → Reading Certificate
behind_word v bytes = number_from (has_inputs v) 4096 32 bytes >>= λ inputs. behind_inputs v inputs.0 inputs.1

pub lines_plain : (v : Version) (bytes : List ℕ) → Plain (lines_at v bytes)
unfolding lines_at
lines_plain v bytes =
    plain_then (literal (codes "circuit ") bytes) (λ word. behind_word v word.1) (literal_plain (codes "circuit ") bytes)
    (λ word. plain_then (number_from (has_inputs v) 4096 32 word.1) (λ inputs. behind_inputs v inputs.0 inputs.1) (from_plain (has_inputs v) 4096 32 word.1) (λ inputs. inputs_plain v inputs.0 inputs.1))
