-- The lines `default` and `output` are a code.
use Rattle.std.proofs.Common.{◌≡◌, ℕ, ◌≤◌, ◌<◌, Bool, true, List, [], ◌∷◌, ◌++◌, length, Ok, Err, Option, Some, None, ◌⊎◌, inl, inr, refl, sym, ap, subst, ◌∙◌, append_assoc, arith}
use Rattle.std.specs.Prelude.{codes, decimal}
use Rattle.std.specs.List.{AllByRecursion}
use Rattle.std.proofs.lemmas.List.{append-nil, length-append}
use Rattle.td_gates.specs.Delays.{Delays, IsInRange}
use Rattle.td_refutation.specs.declared.conditions.NamedCondition.{NamedCondition}
use Rattle.td_certificate.specs.declared.fields.Reason.TheVariants.{Syntax}
use Rattle.td_certificate.specs.Questions.{Terms}
use Rattle.td_certificate.specs.Spelling.{greatest, latest, ended, AreOutputs, default_line, output_line}
use Rattle.td_certificate.specs.Text.{numbers, outputs}
use Rattle.td_certificate.specs.Reading.{Reading, Wrong, ◌>>=◌, literal, number_from, steps_at, delays, default_at, outputs_at, terms_by, terms_at}
use Rattle.td_certificate.specs.StepReading.{until_at, until_within, open_number_at, numbers_at}
use Rattle.td_certificate.proofs.Choices.{choice, IsChoice, choice_code}
use Rattle.td_certificate.proofs.Codes.{IsCode, IsCode-then, IsCode-done}
use Rattle.td_certificate.proofs.FieldCodes.{IsLimit, IsFrom, number_text, number_from_code}
use Rattle.td_certificate.proofs.StepCodes.{IsNumbers, numbers_text, numbers_code, to_small, from_small}
use Rattle.td_certificate.proofs.VectorCodes.{behind_word, mapped_code, IsCode-as, same_code, none_not}
use Rattle.td_certificate.proofs.VersionCode.{because_code}

-- ---- delays

space_limit : IsLimit latest 32
space_limit = record { high = omega arith; close_is = refl }

line_limit : IsLimit latest 10
line_limit = record { high = omega arith; close_is = refl }

steps_code : (close : ℕ) → IsLimit latest close → IsCode (IsFrom true latest) (number_text close) (steps_at close)
unfolding steps_at
steps_code close limit =
    because_code (λ bytes. Syntax) (IsFrom true latest) (number_text close) (number_from true latest close) (number_from_code true latest close limit (omega arith))

abbrev IsFallOf : ℕ → Delays → Type 0
IsFallOf rise d = IsFrom true latest d.fall × (d ≡ delays rise d.fall)

fall_code : (rise : ℕ) → IsCode (IsFallOf rise) (λ d. number_text 10 d.fall) (λ bytes. steps_at 10 bytes >>= λ fall. Ok (delays rise fall.0, fall.1))
fall_code rise = mapped_code (delays rise) (λ (d : Delays). d.fall) (IsFrom true latest) (number_text 10) (steps_at 10) (λ n. refl) (steps_code 10 line_limit)

abbrev AreSteps : Delays → Type 0
AreSteps d = IsFrom true latest d.rise × IsFrom true latest d.fall

abbrev delays_text : Delays → List ℕ
delays_text d = number_text 32 d.rise ++ number_text 10 d.fall

delays_code : IsCode AreSteps delays_text (λ bytes. steps_at 32 bytes >>= λ rise. steps_at 10 rise.1 >>= λ fall. Ok (delays rise.0 fall.0, fall.1))
delays_code =
    IsCode-then (λ (d : Delays). d.rise) (IsFrom true latest) (number_text 32) (steps_at 32) IsFallOf (λ rise d. number_text 10 d.fall)
    (λ rise bytes. steps_at 10 bytes >>= λ fall. Ok (delays rise fall.0, fall.1)) AreSteps delays_text (steps_code 32 space_limit)
    (λ rise u. fall_code rise)
    (record {
      down = λ d u. (u.0, (u.1, refl), refl);
      up = λ rise d u w.
          let p : d.rise ≡ rise = ap (λ (e : Delays). e.rise) w.1 in
          ((subst (IsFrom true latest) (sym p) u, w.0), ap (λ (n : ℕ). number_text 32 n ++ number_text 10 d.fall) p);
    })

abbrev pub default_text : Delays → List ℕ
default_text d = codes "default " ++ delays_text d

in_range : (d : Delays) → AreSteps d → IsInRange d
in_range d u = record { least_rise = u.0.1 refl; greatest_rise = u.0.0; least_fall = u.1.1 refl; greatest_fall = u.1.0 }

from_range : (d : Delays) → IsInRange d → AreSteps d
from_range d u = ((u.greatest_rise, λ e. u.least_rise), (u.greatest_fall, λ e. u.least_fall))

pub default_code : IsCode IsInRange default_text default_at
unfolding default_at
default_code =
    behind_word (codes "default ") IsInRange delays_text (λ bytes. steps_at 32 bytes >>= λ rise. steps_at 10 rise.1 >>= λ fall. Ok (delays rise.0 fall.0, fall.1))
    (IsCode-as AreSteps IsInRange delays_text delays_text (λ bytes. steps_at 32 bytes >>= λ rise. steps_at 10 rise.1 >>= λ fall. Ok (delays rise.0 fall.0, fall.1))
    in_range from_range (λ d u. refl) delays_code)

-- ---- outputs

abbrev pub outputs_text : Option (List ℕ) → List ℕ
outputs_text asked = outputs asked ++ codes "\n"

abbrev some_numbers : List ℕ → Option (List ℕ)
some_numbers ns = Some ns

abbrev numbers_of : Option (List ℕ) → List ℕ
numbers_of None = []
numbers_of (Some ns) = ns

abbrev IsAll : Option (List ℕ) → Type 0
IsAll asked = asked ≡ None

abbrev IsListed : Option (List ℕ) → Type 0
IsListed asked = IsNumbers (numbers_of asked) × (asked ≡ some_numbers (numbers_of asked))

all_code : IsCode IsAll outputs_text (λ bytes. literal (codes "all\n") bytes >>= λ word. Ok (None, word.1))
all_code =
    IsCode-as IsAll IsAll (λ asked. codes "all\n" ++ []) outputs_text (λ bytes. literal (codes "all\n") bytes >>= λ word. Ok (None, word.1)) (λ asked u. u) (λ asked u. u)
    (λ asked e. ap outputs_text e)
    (behind_word (codes "all\n") IsAll (λ asked. []) (λ bytes. Ok (None, bytes)) (IsCode-done None))

listed_text : (n : ℕ) (ns : List ℕ) → numbers (n ∷ ns) ++ codes "\n" ≡ numbers_text (n ∷ ns)
listed_text n [] = refl
listed_text n (m ∷ ns) = append_assoc (decimal n ++ codes " ") (numbers (m ∷ ns)) (codes "\n") ∙ ap (λ (t : List ℕ). (decimal n ++ codes " ") ++ t) (listed_text m ns) ∙ append_assoc (decimal n) (codes " ") (numbers_text (m ∷ ns))

listed_is : (ns : List ℕ) → IsNumbers ns → numbers ns ++ codes "\n" ≡ numbers_text ns
listed_is [] v = absurd v
listed_is (n ∷ ns) v = listed_text n ns

listed_code : IsCode IsListed outputs_text (λ bytes. numbers_at bytes >>= λ ns. Ok (some_numbers ns.0, ns.1))
listed_code =
    IsCode-as IsListed IsListed (λ asked. numbers_text (numbers_of asked)) outputs_text (λ bytes. numbers_at bytes >>= λ ns. Ok (some_numbers ns.0, ns.1)) (λ asked u. u) (λ asked u. u)
    (λ asked u. ap outputs_text u.1 ∙ listed_is (numbers_of asked) u.0)
    (mapped_code some_numbers numbers_of IsNumbers numbers_text numbers_at (λ ns. refl) numbers_code)

abbrev as_listed : List ℕ × List ℕ → Reading (Option (List ℕ))
as_listed ns = Ok (some_numbers ns.0, ns.1)

numbers_apart : (rest : List ℕ) → (numbers_at (97 ∷ rest) >>= as_listed) ≡ Err (Wrong Syntax (97 ∷ rest))
unfolding numbers_at until_at until_within open_number_at
numbers_apart rest = refl

outputs_choice : IsChoice 97 IsAll IsListed outputs_text (λ bytes. literal (codes "all\n") bytes >>= λ word. Ok (None, word.1)) (λ bytes. numbers_at bytes >>= λ ns. Ok (some_numbers ns.0, ns.1))
outputs_choice = record {
  one_code = all_code;
  other_code = listed_code;
  tail = λ asked. codes "ll\n";
  begins = λ asked e. ap outputs_text e;
  long = λ asked u. omega (arith, length-append (outputs asked) (codes "\n"));
  why = Syntax;
  stops = numbers_apart;
}

to_outputs : (asked : Option (List ℕ)) → IsAll asked ⊎ IsListed asked → AreOutputs asked
to_outputs asked (inl e) = subst AreOutputs (sym e) tt
to_outputs None (inr u) = tt
to_outputs (Some []) (inr u) = absurd u.0
to_outputs (Some (n ∷ ns)) (inr u) = (omega arith, to_small (n ∷ ns) u.0)

from_outputs : (asked : Option (List ℕ)) → AreOutputs asked → IsAll asked ⊎ IsListed asked
from_outputs None v = inl refl
from_outputs (Some []) v = absurd (omega (arith, v.0))
from_outputs (Some (n ∷ ns)) v = inr (from_small n ns v.1, refl)

outputs_by_choice : (bytes : List ℕ) → outputs_at bytes ≡ choice 97 (λ bytes. literal (codes "all\n") bytes >>= λ word. Ok (None, word.1)) (λ bytes. numbers_at bytes >>= λ ns. Ok (some_numbers ns.0, ns.1)) bytes
unfolding outputs_at
outputs_by_choice [] = refl
outputs_by_choice (b ∷ bytes) = refl

pub outputs_code : IsCode AreOutputs outputs_text outputs_at
outputs_code =
    same_code AreOutputs outputs_text outputs_at (choice 97 (λ bytes. literal (codes "all\n") bytes >>= λ word. Ok (None, word.1)) (λ bytes. numbers_at bytes >>= λ ns. Ok (some_numbers ns.0, ns.1))) outputs_by_choice
    (IsCode-as (λ asked. IsAll asked ⊎ IsListed asked) AreOutputs outputs_text outputs_text
    (choice 97 (λ bytes. literal (codes "all\n") bytes >>= λ word. Ok (None, word.1)) (λ bytes. numbers_at bytes >>= λ ns. Ok (some_numbers ns.0, ns.1)))
    to_outputs from_outputs (λ asked u. refl)
    (choice_code 97 IsAll IsListed outputs_text (λ bytes. literal (codes "all\n") bytes >>= λ word. Ok (None, word.1)) (λ bytes. numbers_at bytes >>= λ ns. Ok (some_numbers ns.0, ns.1)) outputs_choice))

-- ---- both lines

-- the terms of these lines have no conditions yet
abbrev pub IsTerms : Terms → Type 0
IsTerms terms = IsInRange terms.default × AreOutputs terms.outputs × (terms.keep ≡ [])

abbrev pub terms_text : Terms → List ℕ
terms_text terms = default_text terms.default ++ (codes "output " ++ outputs_text terms.outputs)

abbrev AreOutputsOf : Delays → Terms → Type 0
AreOutputsOf default terms = AreOutputs terms.outputs × (terms ≡ terms_by default terms.outputs)

without_keep : (terms : Terms) → terms.keep ≡ [] → terms ≡ terms_by terms.default terms.outputs
without_keep terms none = ap (λ (keep : List NamedCondition). record { default = terms.default; outputs = terms.outputs; keep = keep }) none

outputs_behind : (default : Delays) → IsCode (AreOutputsOf default) (λ terms. codes "output " ++ outputs_text terms.outputs)
    (λ bytes. literal (codes "output ") bytes >>= λ word. outputs_at word.1 >>= λ outputs. Ok (terms_by default outputs.0, outputs.1))
outputs_behind default =
    behind_word (codes "output ") (AreOutputsOf default) (λ terms. outputs_text terms.outputs) (λ bytes. outputs_at bytes >>= λ outputs. Ok (terms_by default outputs.0, outputs.1))
    (mapped_code (terms_by default) (λ (terms : Terms). terms.outputs) AreOutputs outputs_text outputs_at (λ asked. refl) outputs_code)

pub terms_code : IsCode IsTerms terms_text terms_at
unfolding terms_at
terms_code =
    IsCode-then (λ (terms : Terms). terms.default) IsInRange default_text default_at AreOutputsOf (λ default terms. codes "output " ++ outputs_text terms.outputs)
    (λ default bytes. literal (codes "output ") bytes >>= λ word. outputs_at word.1 >>= λ outputs. Ok (terms_by default outputs.0, outputs.1)) IsTerms terms_text default_code
    (λ default u. outputs_behind default)
    (record {
      down = λ terms u. (u.0, (u.1, without_keep terms u.2), refl);
      up = λ default terms u w.
          let p : terms.default ≡ default = ap (λ (t : Terms). t.default) w.1 in
          ((subst IsInRange (sym p) u, w.0, ap (λ (t : Terms). t.keep) w.1), ap (λ (d : Delays). default_text d ++ (codes "output " ++ outputs_text terms.outputs)) p);
    })

regroup : (d r s f n : List ℕ) → (((d ++ r) ++ s) ++ f) ++ n ≡ d ++ ((r ++ s) ++ (f ++ n))
regroup d r s f n = simp append_assoc

pub terms_lines : (terms : Terms) → ended (default_line terms) ++ ended (output_line terms) ≡ terms_text terms
terms_lines terms =
    ap (λ (t : List ℕ). t ++ ended (output_line terms)) (regroup (codes "default ") (decimal terms.default.rise) (codes " ") (decimal terms.default.fall) (codes "\n"))
    ∙ ap (λ (t : List ℕ). default_text terms.default ++ t) (append_assoc (codes "output ") (outputs terms.outputs) (codes "\n"))
