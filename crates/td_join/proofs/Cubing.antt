-- Cubes with a bit put at a free position, and filters.
use Rattle.std.proofs.Common.{◌≡◌, ◌≢◌, ℕ, zero, suc, Bool, true, false, List, [], ◌∷◌, map, set, Some, refl, sym, ap, ◌∙◌, arith, cond, inl, inr, ◌⊎◌}
use Rattle.std.specs.Prelude.{slice_get, filter, Contains}
use Rattle.td_gates.proofs.Places.{none-some}
use Rattle.td_domain.specs.declared.cubes.Trit.{Trit}
use Rattle.td_domain.specs.declared.cubes.Trit.TheVariants.{Zero, One, Free}
use Rattle.td_domain.specs.Cubes.{Allows, AllowsBits}
use Rattle.td_domain.proofs.BitLemmas.{some_trit, allows_free}

pub same_trits : (this that : Trit) → some_trit this ≡ some_trit that → this ≡ that
same_trits this that e = cc

-- a side lies in the whole
pub wider : (t : Trit) (cube : List Trit) (position : ℕ) (before after : List Bool) → slice_get cube position ≡ Some Free
    → AllowsBits (set cube position t) before after → AllowsBits cube before after
wider t [] position before after is h = absurd (none-some Free is)
wider t (p ∷ []) zero before after is h = absurd h
wider t (p ∷ []) (suc position) before after is h = absurd (none-some Free is)
wider t (p ∷ q ∷ cube) zero [] after is h = absurd h
wider t (p ∷ q ∷ cube) zero (a ∷ before) [] is h = absurd h
wider t (p ∷ q ∷ cube) zero (a ∷ before) (b ∷ after) is h = (allows_free p a (same_trits p Free is), h.1, h.2)
wider t (p ∷ q ∷ cube) (suc zero) [] after is h = absurd h
wider t (p ∷ q ∷ cube) (suc zero) (a ∷ before) [] is h = absurd h
wider t (p ∷ q ∷ cube) (suc zero) (a ∷ before) (b ∷ after) is h = (h.0, allows_free q b (same_trits q Free is), h.2)
wider t (p ∷ q ∷ cube) (suc (suc position)) [] after is h = absurd h
wider t (p ∷ q ∷ cube) (suc (suc position)) (a ∷ before) [] is h = absurd h
wider t (p ∷ q ∷ cube) (suc (suc position)) (a ∷ before) (b ∷ after) is h = (h.0, h.1, wider t cube position before after is h.2)

-- trits that allow a bit in common
abbrev pub Meet : Trit → Trit → Type 0
Meet Zero One = ⊥
Meet One Zero = ⊥
Meet this that = Unit {0}

meets : (p q : Trit) (bit : Bool) → Allows p bit → Allows q bit → Meet p q
meets Zero Zero bit h k = tt
meets Zero Free bit h k = tt
meets Zero One false h k = absurd k
meets Zero One true h k = absurd h
meets One One bit h k = tt
meets One Free bit h k = tt
meets One Zero false h k = absurd h
meets One Zero true h k = absurd k
meets Free Zero bit h k = tt
meets Free One bit h k = tt
meets Free Free bit h k = tt

-- cubes with a pair in common have at each position trits that meet
pub meet_at : (cube other : List Trit) (before after : List Bool) → AllowsBits cube before after → AllowsBits other before after
    → (position : ℕ) (this that : Trit) → slice_get cube position ≡ Some this → slice_get other position ≡ Some that → Meet this that
meet_at [] other before after h k position this that e f = absurd (none-some this e)
meet_at (p ∷ []) other before after h k position this that e f = absurd h
meet_at (p ∷ q ∷ cube) [] before after h k position this that e f = absurd (none-some that f)
meet_at (p ∷ q ∷ cube) (u ∷ []) before after h k position this that e f = absurd k
meet_at (p ∷ q ∷ cube) (u ∷ v ∷ other) [] after h k position this that e f = absurd h
meet_at (p ∷ q ∷ cube) (u ∷ v ∷ other) (a ∷ before) [] h k position this that e f = absurd h
meet_at (p ∷ q ∷ cube) (u ∷ v ∷ other) (a ∷ before) (b ∷ after) h k zero this that e f =
    rw (← same_trits p this e, ← same_trits u that f) (meets p u a h.0 k.0)
meet_at (p ∷ q ∷ cube) (u ∷ v ∷ other) (a ∷ before) (b ∷ after) h k (suc zero) this that e f =
    rw (← same_trits q this e, ← same_trits v that f) (meets q v b h.1 k.1)
meet_at (p ∷ q ∷ cube) (u ∷ v ∷ other) (a ∷ before) (b ∷ after) h k (suc (suc position)) this that e f =
    meet_at cube other before after h.2 k.2 position this that e f

-- ---- bits at two positions

pub set_apart : (cube : List Trit) (p q : ℕ) (s t : Trit) → p ≢ q → set (set cube p s) q t ≡ set (set cube q t) p s
set_apart [] p q s t apart = refl
set_apart (x ∷ cube) zero zero s t apart = absurd (apart refl)
set_apart (x ∷ cube) zero (suc q) s t apart = refl
set_apart (x ∷ cube) (suc p) zero s t apart = refl
set_apart (x ∷ cube) (suc p) (suc q) s t apart = ap (λ (xs : List Trit). x ∷ xs) (set_apart cube p q s t (λ e. apart (ap suc e)))

-- ---- filters

filter_kept : {A : Type 0} (f g : A → Bool) (x : A) (xs : List A) (b : Bool) → filter f (cond b (x ∷ xs) xs) ≡ cond b (cond (f x) (x ∷ filter f xs) (filter f xs)) (filter f xs)
filter_kept f g x xs true = refl
filter_kept f g x xs false = refl

swapped : {A : Type 0} (a b : Bool) (x : A) (both : List A) → cond b (cond a (x ∷ both) both) both ≡ cond a (cond b (x ∷ both) both) both
swapped true true x both = refl
swapped true false x both = refl
swapped false true x both = refl
swapped false false x both = refl

-- two filters in either order
pub filter_apart : {A : Type 0} (f g : A → Bool) (xs : List A) → filter f (filter g xs) ≡ filter g (filter f xs)
filter_apart f g [] = refl
filter_apart {A} f g (x ∷ xs) =
    filter_kept f g x (filter g xs) (g x)
    ∙ ap (λ (ys : List A). cond (g x) (cond (f x) (x ∷ ys) ys) ys) (filter_apart f g xs)
    ∙ swapped (f x) (g x) x (filter g (filter f xs))
    ∙ sym (filter_kept g f x (filter f xs) (f x))

map_kept : {A B : Type 0} (h : A → B) (x : A) (xs : List A) (b : Bool) → map h (cond b (x ∷ xs) xs) ≡ cond b (h x ∷ map h xs) (map h xs)
map_kept h x xs true = refl
map_kept h x xs false = refl

pub map_filter : {A B : Type 0} (h : A → B) (f : B → Bool) (xs : List A) → map h (filter (λ x. f (h x)) xs) ≡ filter f (map h xs)
map_filter h f [] = refl
map_filter {A} {B} h f (x ∷ xs) =
    map_kept h x (filter (λ y. f (h y)) xs) (f (h x))
    ∙ ap (λ (ys : List B). cond (f (h x)) (h x ∷ ys) ys) (map_filter h f xs)

pub Contains-more : {A : Type 0} (y x : A) (xs : List A) → Contains xs x → Contains (y ∷ xs) x
Contains-more y x xs has = (suc has.0, omega (arith, has.1), has.2)

pub Contains-first : {A : Type 0} (x : A) (xs : List A) → Contains (x ∷ xs) x
Contains-first x xs = (0, omega arith, refl)

pub Contains-less : {A : Type 0} (y x : A) (xs : List A) → Contains (y ∷ xs) x → (y ≡ x) ⊎ Contains xs x
Contains-less y x xs (zero, below, at) = inl at
Contains-less y x xs (suc k, below, at) = inr (k, omega (arith, below), at)

kept_in : {A : Type 0} (y x : A) (xs : List A) (b : Bool) → Contains xs x → Contains (cond b (y ∷ xs) xs) x
kept_in y x xs true has = Contains-more y x xs has
kept_in y x xs false has = has

kept_first : {A : Type 0} (y x : A) (xs : List A) (b : Bool) → b ≡ true → y ≡ x → Contains (cond b (y ∷ xs) xs) x
kept_first y x xs true passes same = (0, omega arith, same)
kept_first y x xs false passes same = absurd cc

-- what passes is kept
pub filter_has : {A : Type 0} (f : A → Bool) (xs : List A) (x : A) → Contains xs x → f x ≡ true → Contains (filter f xs) x
filter_has f [] x has passes = absurd (omega (arith, has.1))
filter_has f (y ∷ xs) x has passes = elim (Contains-less y x xs has) [
  | inl same ↦ kept_first y x (filter f xs) (f y) (ap f same ∙ passes) same
  | inr later ↦ kept_in y x (filter f xs) (f y) (filter_has f xs x later passes)
]
