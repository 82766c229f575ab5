-- Where all pairs are admitted, each cube has one: what the first version of a text is about.
use Rattle.std.proofs.Common.{◌≡◌, ℕ, ◌*◌, ◌≤◌, Bool, true, false, if◌then◌else◌, List, [], ◌∷◌, length, refl, ap, sym, ◌∙◌, arith}
use Rattle.std.specs.Prelude.{◌&&◌, ◌==◌, not, slice_get, Option, Some, None}
use Rattle.std.specs.List.{list_all}
use Rattle.std.proofs.lemmas.Bool.{eqb-true, and_parts}
use Rattle.td_domain.specs.declared.cubes.Trit.{Trit}
use Rattle.td_domain.specs.declared.cubes.Trit.TheVariants.{Zero, One, Free}
use Rattle.td_domain.specs.Cubes.{Allows, AllowsBits}
use Rattle.td_domain.specs.Admits.{Admitted, flips_of, AreHeld, HasAdmitted}
use Rattle.td_domain.proofs.Flips.{one_flip}
use Rattle.td_gates.proofs.Places.{none-some}
use Rattle.td_nets.specs.Netlist.{Netlist}
use Rattle.td_refutation.specs.declared.conditions.NamedCondition.{NamedCondition}
use Rattle.td_refutation.specs.Asking.{MayLie}
use Rattle.td_certificate.specs.declared.question.Version.TheVariants.{First, Second, Third, Fourth}
use Rattle.td_certificate.specs.Questions.{Terms, Question, inputs_of, is_free, holds_none, admits_all, is_at_once, version_by, version_of, keep_by, asking_of}

some_allowed : (p : Trit) → (bit : Bool) × Allows p bit
some_allowed Zero = (false, tt)
some_allowed One = (true, tt)
some_allowed Free = (false, tt)

free_allows : (p : Trit) (bit : Bool) → is_free p ≡ true → Allows p bit
free_allows Free bit e = tt
free_allows Zero bit e = absurd (let f : false ≡ true = e in cc)
free_allows One bit e = absurd (let f : false ≡ true = e in cc)

record IsSome (pins : List Trit) (held : List Bool) (cube : List Trit) : Type 0 where
  before : List Bool
  after : List Bool
  inside : AllowsBits cube before after
  pinned : AllowsBits pins before after
  kept : AreHeld held before after
  few : flips_of before after ≤ length held

some_pair : (pins : List Trit) (held : List Bool) (cube : List Trit) → length pins ≡ 2 * length held → length cube ≡ 2 * length held
    → list_all is_free pins ≡ true → list_all not held ≡ true → IsSome pins held cube
some_pair [] [] [] e f free loose = record { before = []; after = []; inside = tt; pinned = tt; kept = tt; few = omega arith }
some_pair [] [] (p ∷ cube) e f free loose = absurd (omega arith)
some_pair (u ∷ pins) [] cube e f free loose = absurd (omega arith)
some_pair [] (h ∷ held) cube e f free loose = absurd (omega arith)
some_pair (u ∷ []) (h ∷ held) cube e f free loose = absurd (omega arith)
some_pair (u ∷ v ∷ pins) (h ∷ held) [] e f free loose = absurd (omega arith)
some_pair (u ∷ v ∷ pins) (h ∷ held) (p ∷ []) e f free loose = absurd (omega arith)
some_pair (u ∷ v ∷ pins) (h ∷ held) (p ∷ q ∷ cube) e f free loose =
    let first = and_parts (is_free u) (is_free v && list_all is_free pins) free in
    let second = and_parts (is_free v) (list_all is_free pins) first.1 in
    let others = and_parts (not h) (list_all not held) loose in
    let rest = some_pair pins held cube (omega arith) (omega arith) second.1 others.1 in
    let a = some_allowed p in
    let b = some_allowed q in
    let one = one_flip a.0 b.0 in
    let few = rest.few in
    record {
      before = a.0 ∷ rest.before;
      after = b.0 ∷ rest.after;
      inside = (a.1, b.1, rest.inside);
      pinned = (free_allows u a.0 first.0, free_allows v b.0 second.0, rest.pinned);
      kept = (λ is. absurd (is_not_held h others.0 is), rest.kept);
      few = omega arith;
    }
  where
    is_not_held : (h : Bool) → not h ≡ true → h ≡ true → ⊥
    is_not_held true e is = (let f : false ≡ true = e in cc)
    is_not_held false e is = (let f : false ≡ true = is in cc)

first_version : (terms : Option Terms) (moments : List ℕ) (admit : Admitted) → version_by terms admit moments ≡ First → admits_all admit ≡ true
first_version (Some terms) moments admit e = absurd cc
first_version None moments admit e = at (is_at_once moments) (admits_all admit) e
  where
    at : (once all : Bool) → (if once then (if all then First else Second) else Third) ≡ First → all ≡ true
    at true true e = refl
    at true false e = absurd cc
    at false all e = absurd cc

pub has_admitted : (question : Question) (cube : List Trit) → version_of question ≡ First → length question.admit.pins ≡ 2 * inputs_of question
    → length cube ≡ 2 * inputs_of question → HasAdmitted question.admit cube
has_admitted question cube first pins size =
    let admit : Admitted = question.admit in
    let all = first_version question.terms question.moments admit first in
    let free = and_parts (list_all is_free admit.pins) (holds_none admit.held && (admit.flips == length admit.held)) all in
    let loose = and_parts (holds_none admit.held) (admit.flips == length admit.held) free.1 in
    let full : admit.flips ≡ length admit.held = eqb-true admit.flips (length admit.held) loose.1 in
    let some = some_pair admit.pins admit.held cube pins size free.0 loose.0 in
    let few = some.few in
    (record { first = some.before; second = some.after }, record { pinned = some.pinned; held = some.kept; few = omega arith }, some.inside)

no_keep : (terms : Option Terms) (admit : Admitted) (moments : List ℕ) → version_by terms admit moments ≡ First → keep_by terms ≡ []
no_keep None admit moments first = refl
no_keep (Some terms) admit moments first = absurd (let e : Fourth ≡ First = first in cc)

-- in what the first version tells, a pair may lie in each cube
pub may_lie : (netlist : Netlist) (question : Question) (cube : List Trit) → version_of question ≡ First → length question.admit.pins ≡ 2 * inputs_of question
    → length cube ≡ 2 * inputs_of question → MayLie netlist (asking_of question) cube
may_lie netlist question cube first pins size = (
  has_admitted question cube first pins size,
  λ broken. absurd (none-some broken.condition
      (ap (λ (keep : List NamedCondition). slice_get keep broken.place) (sym (no_keep question.terms question.admit question.moments first)) ∙ broken.stands)),
)
