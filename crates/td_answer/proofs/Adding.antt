-- Reports that get more lines, and lists that get more elements.
use Rattle.std.proofs.Common.{◌≡◌, ◌∙◌, ◌<◌, ◌+◌, ℕ, zero, suc, List, [], ◌∷◌, ◌++◌, length, take, drop, map, get_or, refl, sym, ap, arith, append_assoc, append-nil, Some}
use Rattle.std.specs.Prelude.{slice_get}
use Rattle.std.proofs.lemmas.List.{take_more, map-append}
use Rattle.td_gates.proofs.Places.{some-same, slice_get-get}
use Rattle.td_lines.specs.declared.line.Line.{Line}
use Rattle.td_answer.specs.Additions.{AddsLines}

-- ---- reports

-- no line
pub nothing : (Are : List Line → Type 0) (now : List Line) → Are [] → AddsLines Are now now
nothing Are now are = ([], sym (append-nil now), are)

-- these lines
pub some : (Are : List Line → Type 0) (old new lines : List Line) → new ≡ old ++ lines → Are lines → AddsLines Are old new
some Are old new lines added are = (lines, added, are)

-- two kinds of lines, one after the other
pub two : (One Other Both : List Line → Type 0) (old mid new : List Line) → ((first second : List Line) → One first → Other second → Both (first ++ second))
    → AddsLines One old mid → AddsLines Other mid new → AddsLines Both old new
two One Other Both old mid new join first second = (
  first.0 ++ second.0,
  second.1 ∙ ap (λ (lines : List Line). lines ++ second.0) first.1 ∙ append_assoc old first.0 second.0,
  join first.0 second.0 first.2 second.2,
)

-- lists to which two, three or four were appended in turn
pub two_appended : {A : Type 0} (old t new a b : List A) → t ≡ old ++ a → new ≡ t ++ b → new ≡ old ++ (a ++ b)
two_appended old t new a b is_t is = rw (is, is_t, append_assoc old a b) refl

pub three_appended : {A : Type 0} (old t u new a b c : List A) → t ≡ old ++ a → u ≡ t ++ b → new ≡ u ++ c → new ≡ old ++ (a ++ b ++ c)
three_appended old t u new a b c is_t is_u is = two_appended old u new (a ++ b) c (two_appended old t u a b is_t is_u) is

pub four_appended : {A : Type 0} (old t u v new a b c d : List A) → t ≡ old ++ a → u ≡ t ++ b → v ≡ u ++ c → new ≡ v ++ d → new ≡ old ++ (a ++ b ++ c ++ d)
four_appended old t u v new a b c d is_t is_u is_v is = two_appended old v new (a ++ b ++ c) d (three_appended old t u v a b c is_t is_u is_v) is

-- two words, each with what stands before it, and a reason
pub two_told : (old t u new front one between other behind why : List ℕ) → t ≡ old ++ (front ++ one) → u ≡ t ++ (between ++ other ++ behind) → new ≡ u ++ why
    → new ≡ old ++ (front ++ one ++ between ++ other ++ behind ++ why)
two_told old t u new front one between other behind why is_t is_u is = rw (is, is_u, is_t) (simp append_assoc)

-- ---- lists

-- one more element of a list, mapped
pub map_more : {A B : Type 0} (f : A → B) (xs : List A) (i : ℕ) (x : A) → slice_get xs i ≡ Some x → i < length xs
    → map f (take (i + 1) xs) ≡ map f (take i xs) ++ f x ∷ []
map_more f xs i x at less =
    ap (map f) (take_more xs i x less) ∙ map-append f (take i xs) (get_or xs i x ∷ [])
    ∙ ap (λ y. map f (take i xs) ++ f y ∷ []) (slice_get-get xs i x x at)

-- one more of what is mapped
pub mapped_more : {A B : Type 0} (f : A → B) (xs : List A) (i : ℕ) (x : A) (sofar new : List B) (y : B) → slice_get xs i ≡ Some x → i < length xs
    → sofar ≡ map f (take i xs) → y ≡ f x → new ≡ sofar ++ y ∷ [] → new ≡ map f (take (i + 1) xs)
mapped_more f xs i x sofar new y at less before is added =
    added ∙ ap (λ (ys : List _). ys ++ y ∷ []) before ∙ ap (λ z. map f (take i xs) ++ z ∷ []) is ∙ sym (map_more f xs i x at less)

-- the first of what is left
pub drop_next : {A : Type 0} (xs : List A) (i : ℕ) (x : A) → slice_get xs i ≡ Some x → drop i xs ≡ x ∷ drop (i + 1) xs
drop_next [] i x at = absurd cc
drop_next (first ∷ others) zero x at = (let same = some-same first x at in ap (λ y. y ∷ others) same)
drop_next (first ∷ others) (suc i) x at =
    let next : suc i + 1 ≡ suc (i + 1) = omega arith in
    rw next (drop_next others i x at)

-- the lines of seven kinds, one after the other
pub seven_added : (old t u v w x y new a b c d e f g h : List Line) → t ≡ old ++ (a ++ b) → u ≡ t ++ c → v ≡ u ++ d → w ≡ v ++ e → x ≡ w ++ f → y ≡ x ++ g
    → new ≡ y ++ h → new ≡ old ++ (a ++ (b ++ (c ++ (d ++ (e ++ (f ++ (g ++ (h ++ []))))))))
seven_added old t u v w x y new a b c d e f g h is_t is_u is_v is_w is_x is_y is = rw (is, is_y, is_x, is_w, is_v, is_u, is_t) (simp (append_assoc, append-nil))
