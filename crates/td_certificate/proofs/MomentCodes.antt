-- The line of the moments of a question is a code.
use Rattle.std.proofs.Common.{◌≡◌, ℕ, zero, suc, ◌≤◌, ◌<◌, Bool, true, false, eqb, List, [], ◌∷◌, ◌++◌, length, Ok, refl, sym, ap, subst, ◌∙◌, append_assoc, arith}
use Rattle.std.specs.Prelude.{codes, decimal, ◌&&◌, ◌==◌}
use Rattle.std.specs.List.{AllByRecursion}
use Rattle.std.proofs.lemmas.List.{append-nil, nil_from_length}
use Rattle.std.proofs.lemmas.Bool.{eqb-true, and_parts}
use Rattle.td_certificate.specs.declared.fields.Reason.TheVariants.{Syntax}
use Rattle.td_certificate.specs.Questions.{is_at_once}
use Rattle.td_certificate.specs.Text.{numbers}
use Rattle.td_certificate.specs.Spelling.{latest}
use Rattle.td_certificate.specs.Reading.{◌>>=◌, number_from, close_of, moment_at, moments_at, at_line}
use Rattle.td_certificate.proofs.Loops.{done, done_is}
use Rattle.td_certificate.proofs.Codes.{IsCode, IsCode-then}
use Rattle.td_certificate.proofs.FieldCodes.{IsLimit, IsFrom, number_text, number_from_code}
use Rattle.td_certificate.proofs.VectorCodes.{behind_word, same_code, HasFirst, first_of, tail_of, pushed_code, none_code, IsCode-as}
use Rattle.td_certificate.proofs.VersionCode.{because_code}

-- ---- moments

close_limit : (others : ℕ) → IsLimit latest (close_of others)
close_limit zero = record { high = omega arith; close_is = refl }
close_limit (suc others) = record { high = omega arith; close_is = refl }

moment_code : (at_once : Bool) (others : ℕ) → IsCode (IsFrom (at_once && others == 0) latest) (number_text (close_of others)) (moment_at at_once others)
moment_code at_once others =
    because_code (λ bytes. Syntax) (IsFrom (at_once && others == 0) latest) (number_text (close_of others)) (number_from (at_once && others == 0) latest (close_of others))
    (number_from_code (at_once && others == 0) latest (close_of others) (close_limit others) (omega arith))

abbrev pub moments_text : List ℕ → List ℕ
moments_text [] = []
moments_text (m ∷ ms) = number_text (close_of (length ms)) m ++ moments_text ms

abbrev pub AreWithin : List ℕ → Type 0
AreWithin ms = AllByRecursion (λ moment. moment ≤ latest) ms

-- `count` moments, one of which isn't 0 where all before them are
pub record AreMoments (at_once : Bool) (count : ℕ) (ms : List ℕ) : Type 0 where
  pub long : length ms ≡ count
  pub within : AreWithin ms
  pub later : (at_once && is_at_once ms) ≡ false

and_once : (a b c : Bool) → ((a && b) && c) ≡ (a && (b && c))
and_once true b c = refl
and_once false b c = refl

last_not : (a : Bool) (m : ℕ) → (a && (eqb m 0 && true)) ≡ false → a ≡ true → 0 < m
last_not true zero e t = absurd cc
last_not true (suc m) e t = omega arith
last_not false m e t = absurd cc

last_from : (at_once : Bool) (count m : ℕ) (ms : List ℕ) → length ms ≡ count → (at_once && is_at_once (m ∷ ms)) ≡ false → (at_once && count == 0) ≡ true → 0 < m
last_from at_once count m [] e later is = last_not at_once m later (and_parts at_once (count == 0) is).0
last_from at_once count m (n ∷ ms) e later is = absurd (omega (arith, e, eqb-true count 0 (and_parts at_once (count == 0) is).1))

-- some moment can still be later than 0
abbrev pub CanChange : Bool → ℕ → Type 0
CanChange at_once count = at_once ≡ true → 0 < count

still_can : (at_once : Bool) (count m : ℕ) → IsFrom (at_once && count == 0) latest m → CanChange (at_once && m == 0) count
still_can at_once (suc count) m v e = omega arith
still_can at_once zero m v e =
    let p = and_parts at_once (m == 0) e in
    let pos : 0 < m = v.1 (rw p.0 refl) in
    absurd (omega (arith, pos, eqb-true m 0 p.1))

none_later : (at_once : Bool) → CanChange at_once 0 → (at_once && true) ≡ false
none_later true can = absurd (omega (arith, can refl))
none_later false can = refl

moments_zero : (at_once : Bool) → CanChange at_once 0 → IsCode (AreMoments at_once 0) moments_text (moments_at at_once 0)
unfolding moments_at
moments_zero at_once can = record {
  some = [];
  some_valid = record { long = refl; within = tt; later = none_later at_once can };
  takes = λ bytes ms rest e.
      let p : ([], bytes) ≡ (ms, rest) = done_is ([], bytes) (ms, rest) e in
      subst (λ (q : List ℕ × List ℕ). AreMoments at_once 0 q.0 × (bytes ≡ moments_text q.0 ++ q.1)) p (record { long = refl; within = tt; later = none_later at_once can }, refl);
  again = λ ms rest v. let n : ms ≡ [] = nil_from_length ms v.long in ap (λ (ys : List ℕ). done {A = List ℕ} ([], moments_text ys ++ rest)) n ∙ ap (λ (ys : List ℕ). done (ys, rest)) (sym n);
  ends = λ bytes e. absurd cc;
  stops = λ bytes rest reason e. absurd cc;
}

moments_by_one : (at_once : Bool) (count : ℕ) (bytes : List ℕ) → moments_at at_once (suc count) bytes ≡ (moment_at at_once count bytes >>= λ x. moments_at (at_once && x.0 == 0) count x.1 >>= λ others. Ok (x.0 ∷ others.0, others.1))
unfolding moments_at
moments_by_one at_once count bytes = refl

record IsFirst (at_once : Bool) (count : ℕ) (ms : List ℕ) : Type 0 where
  first : IsFrom (at_once && count == 0) latest (first_of 0 ms)
  others : HasFirst (AreMoments (at_once && first_of 0 ms == 0) count) (first_of 0 ms) ms
  text : moments_text ms ≡ number_text (close_of count) (first_of 0 ms) ++ moments_text (tail_of ms)

first_moment : (at_once : Bool) (count : ℕ) (ms : List ℕ) → AreMoments at_once (suc count) ms → IsFirst at_once count ms
first_moment at_once count [] v = absurd (omega (arith, v.long))
first_moment at_once count (m ∷ ms) v =
    let few : length ms ≡ count = omega (arith, v.long) in
    record {
      first = (v.within.0, λ is. last_from at_once count m ms few v.later is);
      others = record { others = ms; parts = refl; has = record { long = few; within = v.within.1; later = and_once at_once (eqb m 0) (is_at_once ms) ∙ v.later } };
      text = ap (λ (n : ℕ). number_text (close_of n) m ++ moments_text ms) few;
    }

behind_first : (at_once : Bool) (count m : ℕ) (ms : List ℕ) → IsFrom (at_once && count == 0) latest m → HasFirst (AreMoments (at_once && m == 0) count) m ms
    → AreMoments at_once (suc count) ms × (moments_text ms ≡ number_text (close_of count) m ++ moments_text (tail_of ms))
behind_first at_once count m ms u v =
    let all : AreMoments at_once (suc count) (m ∷ v.others) = record { long = ap suc v.has.long; within = (u.0, v.has.within); later = sym (and_once at_once (eqb m 0) (is_at_once v.others)) ∙ v.has.later } in
    subst (λ (ns : List ℕ). AreMoments at_once (suc count) ns × (moments_text ns ≡ number_text (close_of count) m ++ moments_text (tail_of ns))) (sym v.parts)
    (all, ap (λ (n : ℕ). number_text (close_of n) m ++ moments_text v.others) v.has.long)

moments_code : (at_once : Bool) (count : ℕ) → CanChange at_once count → IsCode (AreMoments at_once count) moments_text (moments_at at_once count)
moments_code at_once zero can = moments_zero at_once can
moments_code at_once (suc count) can =
    same_code (AreMoments at_once (suc count)) moments_text (moments_at at_once (suc count)) (λ bytes. moment_at at_once count bytes >>= λ x. moments_at (at_once && x.0 == 0) count x.1 >>= λ others. Ok (x.0 ∷ others.0, others.1)) (moments_by_one at_once count)
    (IsCode-then (first_of 0) (IsFrom (at_once && count == 0) latest) (number_text (close_of count)) (moment_at at_once count)
    (λ m ms. HasFirst (AreMoments (at_once && m == 0) count) m ms) (λ m ms. moments_text (tail_of ms)) (λ m bytes. moments_at (at_once && m == 0) count bytes >>= λ others. Ok (m ∷ others.0, others.1))
    (AreMoments at_once (suc count)) moments_text
    (moment_code at_once count)
    (λ m v. pushed_code (AreMoments (at_once && m == 0) count) moments_text (moments_at (at_once && m == 0) count) m (moments_code (at_once && m == 0) count (still_can at_once count m v)))
    (record {
      down = λ ms v. let f = first_moment at_once count ms v in (f.first, f.others, f.text);
      up = λ m ms u v. behind_first at_once count m ms u v;
    }))

abbrev pub at_text : List ℕ → List ℕ
at_text ms = codes "at " ++ (numbers ms ++ codes "\n")

numbers_text : (m : ℕ) (ms : List ℕ) → numbers (m ∷ ms) ++ codes "\n" ≡ moments_text (m ∷ ms)
numbers_text m [] = sym (append-nil (number_text 10 m))
numbers_text m (n ∷ ms) =
    append_assoc (decimal m ++ codes " ") (numbers (n ∷ ms)) (codes "\n") ∙ ap (λ (t : List ℕ). (decimal m ++ codes " ") ++ t) (numbers_text n ms)

some_moments : (count : ℕ) (ms : List ℕ) → length ms ≡ suc count → at_text ms ≡ codes "at " ++ moments_text ms
some_moments count [] e = absurd (omega (arith, e))
some_moments count (m ∷ ms) e = ap (λ (t : List ℕ). codes "at " ++ t) (numbers_text m ms)

pub at_code : (later : Bool) (i : ℕ) → CanChange later i → IsCode (AreMoments later i) at_text (at_line later i)
unfolding at_line
at_code later zero can =
    IsCode-as (λ (ms : List ℕ). ms ≡ []) (AreMoments later 0) (λ ms. codes "at " ++ (codes "none\n" ++ [])) at_text (at_line later zero)
    (λ ms e. subst (AreMoments later 0) (sym e) (record { long = refl; within = tt; later = none_later later can })) (λ ms v. nil_from_length ms v.long) (λ ms e. ap at_text e)
    (none_code (codes "at "))
at_code later (suc count) can =
    IsCode-as (AreMoments later (suc count)) (AreMoments later (suc count)) (λ ms. codes "at " ++ moments_text ms) at_text (at_line later (suc count))
    (λ ms v. v) (λ ms v. v) (λ ms v. some_moments count ms v.long)
    (behind_word (codes "at ") (AreMoments later (suc count)) moments_text (moments_at later (suc count)) (moments_code later (suc count) can))
