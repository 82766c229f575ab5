-- A walk of checks through a list: what it keeps, where it stops, and a walk through lists in
-- lists.
use Rattle.std.proofs.Common.{◌≡◌, List, [], ◌∷◌, ◌++◌, map, Option, None, Some, Result, Ok, Err, refl, sym, ap, subst, ◌∙◌, append_assoc, ◌⊎◌, inl, inr, ℕ}
use Rattle.std.specs.List.{flat_map, AllByRecursion}
use Rattle.std.proofs.lemmas.List.{append-nil}
use Rattle.std.proofs.lemmas.List.Concat.{flat_map-cons}
use Rattle.td_netlist.specs.declared.fault.FaultKind.{FaultKind}
use Rattle.td_netlist.specs.declared.fault.Fault.{Fault}
use Rattle.td_netlist.specs.Faults.{fault, unless, ◌>>=◌}
use Rattle.td_netlist.specs.Checks.{each}

-- ---- one step after another

pub ok_both : {A B : Type 0} (r : Result A Fault) (f : A → Result B Fault) (y : B) → (r >>= f) ≡ Ok y → (x : A) × (r ≡ Ok x) × (f x ≡ Ok y)
ok_both (Ok x) f y e = (x, refl, e)
ok_both (Err k) f y e = absurd cc

pub err_either : {A B : Type 0} (r : Result A Fault) (f : A → Result B Fault) (k : Fault) → (r >>= f) ≡ Err k
    → (r ≡ Err k) ⊎ ((x : A) × (r ≡ Ok x) × (f x ≡ Err k))
err_either (Ok x) f k e = inr (x, refl, e)
err_either {B = B} (Err j) f k e = inl (let same : j ≡ k = cc in ap (λ (i : Fault). Err i) same)

pub unless_ok : {A : Type 0} (o : Option FaultKind) (line : ℕ) (x y : A) → unless o line x ≡ Ok y → (o ≡ None) × (x ≡ y)
unless_ok None line x y e = (refl, cc)
unless_ok (Some k) line x y e = absurd cc

pub unless_err : {A : Type 0} (o : Option FaultKind) (line : ℕ) (x : A) (f : Fault) → unless o line x ≡ Err f → o ≡ Some f.kind × (line ≡ f.line)
unless_err None line x f e = absurd cc
unless_err (Some k) line x f e = let same : fault k line ≡ f = cc in (ap (λ (g : Fault). Some g.kind) same, ap (λ (g : Fault). g.line) same)

pub bind_assoc : {A B C : Type 0} (r : Result A Fault) (f : A → Result B Fault) (g : B → Result C Fault) → ((r >>= f) >>= g) ≡ (r >>= λ a. f a >>= g)
bind_assoc (Ok x) f g = refl
bind_assoc (Err e) f g = refl

pub bind_same : {A B : Type 0} (r : Result A Fault) (f g : A → Result B Fault) → ((a : A) → f a ≡ g a) → (r >>= f) ≡ (r >>= g)
bind_same (Ok x) f g h = h x
bind_same (Err e) f g h = refl

-- ---- lists in lists

pub each_append : {S A : Type 0} (step : S → A → Result S Fault) (s : S) (xs ys : List A) → each step s (xs ++ ys) ≡ (each step s xs >>= λ t. each step t ys)
unfolding each
each_append step s [] ys = refl
each_append step s (x ∷ xs) ys = bind_same (step s x) _ _ (λ t. each_append step t xs ys) ∙ sym (bind_assoc (step s x) (λ t. each step t xs) (λ t. each step t ys))

pub each_map : {S A B : Type 0} (step : S → B → Result S Fault) (f : A → B) (s : S) (xs : List A) → each (λ s x. step s (f x)) s xs ≡ each step s (map f xs)
unfolding each
each_map step f s [] = refl
each_map step f s (x ∷ xs) = bind_same (step s (f x)) _ _ (λ t. each_map step f t xs)

-- a step that walks through a list for each member
pub each_flat : {S A B : Type 0} (outer : S → A → Result S Fault) (step : S → B → Result S Fault) (f : A → List B)
    → ((s : S) (x : A) → outer s x ≡ each step s (f x)) → (s : S) (xs : List A) → each outer s xs ≡ each step s (flat_map f xs)
unfolding each
each_flat outer step f walks s [] = refl
each_flat outer step f walks s (x ∷ xs) =
    ap (λ (r : Result _ Fault). r >>= λ t. each outer t xs) (walks s x)
    ∙ bind_same (each step s (f x)) _ _ (λ t. each_flat outer step f walks t xs)
    ∙ sym (each_append step s (f x) (flat_map f xs))
    ∙ ap (λ (ys : List _). each step s ys) (sym (flat_map-cons f x xs))

-- ---- what a walk keeps

module _ {S A : Type 0} (step : S → A → Result S Fault) (Keeps : S → List A → Type 0)
    (goes : (s t : S) (done : List A) (x : A) → Keeps s done → step s x ≡ Ok t → Keeps t (done ++ x ∷ [])) where
  -- where it stops
  pub record StopsAt (done xs : List A) (f : Fault) : Type 0 where
    pub before : List A
    pub member : A
    pub after : List A
    pub state : S
    pub splits : xs ≡ before ++ member ∷ after
    pub so_far : Keeps state (done ++ before)
    pub refused : step state member ≡ Err f

  pub kept : (s t : S) (done xs : List A) → Keeps s done → each step s xs ≡ Ok t → Keeps t (done ++ xs)
  unfolding each
  kept s t done [] keeps e =
      let same : s ≡ t = cc in
      subst (λ (u : S). Keeps u (done ++ [])) same (subst (λ (xs : List A). Keeps s xs) (sym (append-nil done)) keeps)
  kept s t done (x ∷ xs) keeps e =
      let first = ok_both (step s x) (λ u. each step u xs) t e in
      subst (λ (ys : List A). Keeps t ys) (append_assoc done (x ∷ []) xs)
      (kept first.0 t (done ++ x ∷ []) xs (goes s first.0 done x keeps first.1) first.2)

  pub stops : (s : S) (done xs : List A) (f : Fault) → Keeps s done → each step s xs ≡ Err f → StopsAt done xs f
  unfolding each
  stops s done [] f keeps e = absurd cc
  stops s done (x ∷ xs) f keeps e = elim (err_either (step s x) (λ u. each step u xs) f e) [
    | inl here ↦ record {
      before = [];
      member = x;
      after = xs;
      state = s;
      splits = refl;
      so_far = subst (λ (ys : List A). Keeps s ys) (sym (append-nil done)) keeps;
      refused = here;
    }
    | inr past ↦ (let rest = stops past.0 (done ++ x ∷ []) xs f (goes s past.0 done x keeps past.1) past.2 in
        record {
          before = x ∷ rest.before;
          member = rest.member;
          after = rest.after;
          state = rest.state;
          splits = ap (λ (ys : List A). x ∷ ys) rest.splits;
          so_far = subst (λ (ys : List A). Keeps rest.state ys) (append_assoc done (x ∷ []) rest.before) rest.so_far;
          refused = rest.refused;
        })
  ]

-- the same where each member fits
module _ {S A : Type 0} (step : S → A → Result S Fault) (Keeps : S → List A → Type 0) (Fits : A → Type 0)
    (goes : (s t : S) (done : List A) (x : A) → Fits x → Keeps s done → step s x ≡ Ok t → Keeps t (done ++ x ∷ [])) where
  pub record StopsFitting (done xs : List A) (f : Fault) : Type 0 where
    pub before : List A
    pub member : A
    pub after : List A
    pub state : S
    pub splits : xs ≡ before ++ member ∷ after
    pub fits : Fits member
    pub so_far : Keeps state (done ++ before)
    pub refused : step state member ≡ Err f

  pub kept_fitting : (s t : S) (done xs : List A) → AllByRecursion Fits xs → Keeps s done → each step s xs ≡ Ok t → Keeps t (done ++ xs)
  unfolding each
  kept_fitting s t done [] all keeps e =
      let same : s ≡ t = cc in
      subst (λ (u : S). Keeps u (done ++ [])) same (subst (λ (xs : List A). Keeps s xs) (sym (append-nil done)) keeps)
  kept_fitting s t done (x ∷ xs) all keeps e =
      let first = ok_both (step s x) (λ u. each step u xs) t e in
      subst (λ (ys : List A). Keeps t ys) (append_assoc done (x ∷ []) xs)
      (kept_fitting first.0 t (done ++ x ∷ []) xs all.1 (goes s first.0 done x all.0 keeps first.1) first.2)

  pub stops_fitting : (s : S) (done xs : List A) (f : Fault) → AllByRecursion Fits xs → Keeps s done → each step s xs ≡ Err f → StopsFitting done xs f
  unfolding each
  stops_fitting s done [] f all keeps e = absurd cc
  stops_fitting s done (x ∷ xs) f all keeps e = elim (err_either (step s x) (λ u. each step u xs) f e) [
    | inl here ↦ record {
      before = [];
      member = x;
      after = xs;
      state = s;
      splits = refl;
      fits = all.0;
      so_far = subst (λ (ys : List A). Keeps s ys) (sym (append-nil done)) keeps;
      refused = here;
    }
    | inr past ↦ (let rest = stops_fitting past.0 (done ++ x ∷ []) xs f all.1 (goes s past.0 done x all.0 keeps past.1) past.2 in
        record {
          before = x ∷ rest.before;
          member = rest.member;
          after = rest.after;
          state = rest.state;
          splits = ap (λ (ys : List A). x ∷ ys) rest.splits;
          fits = rest.fits;
          so_far = subst (λ (ys : List A). Keeps rest.state ys) (append_assoc done (x ∷ []) rest.before) rest.so_far;
          refused = rest.refused;
        })
  ]
