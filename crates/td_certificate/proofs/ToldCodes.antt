-- A number, or `none` in its place, and the newline are a code.
use Rattle.std.proofs.Common.{◌≡◌, ℕ, ◌≤◌, ◌<◌, Bool, true, false, cond, eqb, List, [], ◌∷◌, ◌++◌, length, Ok, Err, Option, Some, None, ◌⊎◌, inl, inr, refl, sym, ap, ◌∙◌, arith}
use Rattle.std.specs.Prelude.{codes}
use Rattle.std.proofs.lemmas.List.{length-append}
use Rattle.td_certificate.specs.declared.fields.Reason.TheVariants.{Syntax}
use Rattle.td_certificate.specs.Steps.{greatest, or_none, IsBoundText}
use Rattle.td_certificate.specs.Reading.{Reading, Wrong, ◌>>=◌, literal, number_at, number_or_none}
use Rattle.td_certificate.proofs.Choices.{choice, IsChoice, choice_code}
use Rattle.td_certificate.proofs.Codes.{IsCode, IsCode-done}
use Rattle.td_certificate.proofs.FieldCodes.{IsLimit, AtMost, number_text, number_code}
use Rattle.td_certificate.proofs.VectorCodes.{behind_word, mapped_code, IsCode-as, same_code}

abbrev pub told_text : Option ℕ → List ℕ
told_text told = or_none told ++ 10 ∷ []

-- a number up to the greatest, or none where it may be
abbrev pub MayBeTold : Bool → Option ℕ → Type 0
MayBeTold may None = may ≡ true
MayBeTold may (Some number) = number ≤ greatest

abbrev some_number : ℕ → Option ℕ
some_number number = Some number

abbrev number_of : Option ℕ → ℕ
number_of None = 0
number_of (Some number) = number

abbrev IsNone : Option ℕ → Type 0
IsNone told = told ≡ None

abbrev IsNumber : Option ℕ → Type 0
IsNumber told = AtMost greatest (number_of told) × (told ≡ some_number (number_of told))

abbrev read_none : List ℕ → Reading (Option ℕ)
read_none bytes = literal (codes "none\n") bytes >>= λ word. Ok (None, word.1)

abbrev read_number : List ℕ → Reading (Option ℕ)
read_number bytes = number_at greatest 10 bytes >>= λ number. Ok (some_number number.0, number.1)

line_limit : IsLimit greatest 10
line_limit = record { high = omega arith; close_is = refl }

none_code : IsCode IsNone told_text read_none
none_code =
    IsCode-as IsNone IsNone (λ told. codes "none\n" ++ []) told_text read_none (λ told u. u) (λ told u. u) (λ told e. ap told_text e)
    (behind_word (codes "none\n") IsNone (λ told. []) (λ bytes. Ok (None, bytes)) (IsCode-done None))

some_code : IsCode IsNumber told_text read_number
some_code =
    IsCode-as IsNumber IsNumber (λ told. number_text 10 (number_of told)) told_text read_number (λ told u. u) (λ told u. u) (λ told u. ap told_text u.1)
    (mapped_code some_number number_of (AtMost greatest) (number_text 10) (number_at greatest 10) (λ n. refl) (number_code greatest 10 line_limit))

number_apart : (rest : List ℕ) → read_number (110 ∷ rest) ≡ Err (Wrong Syntax (110 ∷ rest))
unfolding number_at
number_apart rest = refl

told_choice : IsChoice 110 IsNone IsNumber told_text read_none read_number
told_choice = record {
  one_code = none_code;
  other_code = some_code;
  tail = λ told. codes "one\n";
  begins = λ told e. ap told_text e;
  long = λ told u. omega (arith, length-append (or_none told) (10 ∷ []));
  why = Syntax;
  stops = number_apart;
}

to_told : (told : Option ℕ) → IsNone told ⊎ IsNumber told → MayBeTold true told
to_told None u = refl
to_told (Some number) (inl e) = absurd (let wrong : some_number number ≡ None = e in cc)
to_told (Some number) (inr u) = u.0

from_told : (told : Option ℕ) → MayBeTold true told → IsNone told ⊎ IsNumber told
from_told None v = inl refl
from_told (Some number) v = inr (v, refl)

by_choice : (bytes : List ℕ) → number_or_none true bytes ≡ choice 110 read_none read_number bytes
unfolding number_or_none number_at
by_choice [] = refl
by_choice (b ∷ bytes) = refl

alone_to : (told : Option ℕ) → IsNumber told → MayBeTold false told
alone_to None u = absurd (let wrong : None ≡ some_number 0 = u.1 in cc)
alone_to (Some number) u = u.0

alone_from : (told : Option ℕ) → MayBeTold false told → IsNumber told
alone_from None v = absurd (let wrong : false ≡ true = v in cc)
alone_from (Some number) v = (v, refl)

number_alone : (bytes : List ℕ) → number_or_none false bytes ≡ read_number bytes
unfolding number_or_none
number_alone [] = refl
number_alone (b ∷ bytes) = refl

pub told_code : (may : Bool) → IsCode (MayBeTold may) told_text (number_or_none may)
told_code true =
    same_code (MayBeTold true) told_text (number_or_none true) (choice 110 read_none read_number) by_choice
    (IsCode-as (λ told. IsNone told ⊎ IsNumber told) (MayBeTold true) told_text told_text (choice 110 read_none read_number) to_told from_told (λ told u. refl)
    (choice_code 110 IsNone IsNumber told_text read_none read_number told_choice))
told_code false =
    same_code (MayBeTold false) told_text (number_or_none false) read_number number_alone
    (IsCode-as IsNumber (MayBeTold false) told_text told_text read_number alone_to alone_from (λ told u. refl) some_code)

to_bound : (bound : Option ℕ) → MayBeTold true bound → IsBoundText bound
to_bound None v = tt
to_bound (Some number) v = v

from_bound : (bound : Option ℕ) → IsBoundText bound → MayBeTold true bound
from_bound None v = refl
from_bound (Some number) v = v

-- the bound that steps are to show
pub bound_code : IsCode IsBoundText told_text (number_or_none true)
bound_code = IsCode-as (MayBeTold true) IsBoundText told_text told_text (number_or_none true) to_bound from_bound (λ bound u. refl) (told_code true)
