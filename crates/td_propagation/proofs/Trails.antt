-- Trails: the values of an assignment, and the trail of those that are known.
use Rattle.std.proofs.Common.{◌≡◌, ℕ, zero, suc, ◌<◌, List, [], ◌∷◌, ◌++◌, length, get_or, set, Option, Some, replicate, refl, ap, sym, ◌∙◌, subst, inl, inr, arith, get_or-set_other, get_or-set_same}
use Rattle.std.specs.List.{All, Contains}
use Rattle.std.proofs.lemmas.Bool.{cases_eq}
use Rattle.std.proofs.lemmas.List.{length-replicate, get_or-replicate, ext_get_or}
use Rattle.std.proofs.lemmas.List.Elements.{Contains-push, Contains-append_left, Contains-push_cases, All-push, All-pop}
use Rattle.std.specs.Option.{option_to_list}
use Rattle.std.proofs.Math.ListN.{length-set}
use Rattle.td_propagation.specs.declared.denied.Mark.{Mark}
use Rattle.td_propagation.specs.Marks.{no_mark}

-- what isn't on the trail isn't known
abbrev pub Listed : List Mark → List ℕ → Type 0
Listed values trail = (variable : ℕ) → (Contains trail variable → ⊥) → get_or values variable no_mark ≡ no_mark

nothing : (n variable : ℕ) → get_or {A = Mark} (replicate n no_mark) variable no_mark ≡ no_mark
nothing zero variable = refl
nothing (suc n) zero = refl
nothing (suc n) (suc variable) = nothing n variable

pub listed_new : (n : ℕ) → Listed (replicate n no_mark) []
listed_new n variable out = nothing n variable

pub listed_known : (values : List Mark) (trail : List ℕ) (i : ℕ) (value : Mark) → Listed values trail
    → Listed (set values i value) (trail ++ i ∷ [])
listed_known values trail i value listed variable out = elim (cases_eq variable i) [
  | inl same ↦ absurd (out (subst (λ (v : ℕ). Contains (trail ++ i ∷ []) v) (sym same) (Contains-push trail i)))
  | inr other ↦ rw get_or-set_other (listed variable (λ there. out (Contains-append_left trail (i ∷ []) variable there)))
]

pub listed_forgotten : (values : List Mark) (trail : List ℕ) (i : ℕ) → i < length values → Listed values (trail ++ i ∷ [])
    → Listed (set values i no_mark) trail
listed_forgotten values trail i low listed variable out = elim (cases_eq variable i) [
  | inl same ↦ rw same (get_or-set_same values i no_mark no_mark low)
  | inr other ↦ rw get_or-set_other (listed variable (λ there. elim (Contains-push_cases trail i variable there) [
    | inl before ↦ out before
    | inr last ↦ other (sym last)
  ]))
]

pub none_known : (values : List Mark) → Listed values [] → values ≡ replicate (length values) no_mark
none_known values listed = ext_get_or no_mark values (replicate (length values) no_mark) (sym (length-replicate (length values) no_mark)) (λ i low.
    listed i (λ there. absurd (empty i there)) ∙ sym (get_or-replicate (length values) i no_mark no_mark low))
  where
    empty : (i : ℕ) → Contains {X = ℕ} [] i → ⊥
    empty i there = let low = there.1 in absurd (omega arith)

-- what stands on the trail is a variable
abbrev pub Inside : List Mark → List ℕ → Type 0
Inside values trail = All (λ variable. variable < length values) trail

pub inside_known : (values : List Mark) (trail after : List ℕ) (i : ℕ) (value : Mark) → after ≡ trail ++ i ∷ []
    → i < length values → Inside values trail → Inside (set values i value) after
inside_known values trail after i value is low inside = rw (is, length-set values i value) (All-push (λ variable. variable < length values) trail i inside low)

pub last_inside : (values : List Mark) (trail : List ℕ) (i : ℕ) → Inside values (trail ++ i ∷ []) → i < length values
last_inside values trail i inside = (All-pop (λ variable. variable < length values) (trail ++ i ∷ []) trail (Some i) refl inside).1

-- what comes off the trail is forgotten
pub popped : (values : List Mark) (before after : List ℕ) (top : Option ℕ) (i : ℕ) → before ≡ after ++ option_to_list top → top ≡ Some i
    → before ≡ after ++ i ∷ []
popped values before after top i is some = rw some at is

pub forgotten_listed : (values : List Mark) (before after : List ℕ) (i : ℕ) → before ≡ after ++ i ∷ [] → Inside values before
    → Listed values before → Listed (set values i no_mark) after
forgotten_listed values before after i is inside listed =
    listed_forgotten values after i (last_inside values after i (rw is at inside)) (subst (λ (trail : List ℕ). Listed values trail) is listed)

pub forgotten_inside : (values : List Mark) (before after : List ℕ) (i : ℕ) → before ≡ after ++ i ∷ [] → Inside values before
    → Inside (set values i no_mark) after
forgotten_inside values before after i is inside =
    rw (length-set values i no_mark) (All-pop (λ variable. variable < length values) before after (Some i) is inside).0

pub listed_from : (n : ℕ) (values : List Mark) (trail : List ℕ) → values ≡ replicate n no_mark → trail ≡ [] → Listed values trail
listed_from n values trail is empty = rw (is, empty) (listed_new n)

pub all_forgotten : (n : ℕ) (values : List Mark) (trail after : List ℕ) → trail ≡ after ++ [] → length after ≡ 0 → length values ≡ n → Listed values trail
    → values ≡ replicate n no_mark
all_forgotten n values trail (x ∷ after) is none same listed = absurd (omega arith)
all_forgotten n values trail [] is none same listed =
    none_known values (subst (λ (trail : List ℕ). Listed values trail) is listed) ∙ ap (λ k. replicate k no_mark) same
