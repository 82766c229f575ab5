-- A set of names is asked by the names alone.
use Rattle.std.proofs.Common.{◌≡◌, Bool, cond, List, [], ◌∷◌, ◌++◌, map, Result, Ok, Err, refl, sym, ap, ◌∙◌, true, false, subst, inl, inr}
use Rattle.std.specs.Prelude.{◌||◌, OnOk}
use Rattle.std.specs.List.{list_any, Contains}
use Rattle.std.proofs.lemmas.List.{map_push}
use Rattle.td_netlist.specs.declared.name_ref.NameRef as code_name
use Rattle.td_netlist.specs.contracts.name_ref.NameRefPartialEq.TheImpl.{ghosts}
use Rattle.td_netlist.proofs.Members.{first, later, one_of, nowhere}
use Rattle.td_nets.proofs.SameNames.{name_eq-true, name_eq-same}
use Rattle.td_nets.specs.Netlist.{Name}
use Rattle.td_nets.specs.Names.{name_eq, is_in, with_name}
use Rattle.td_netlist.specs.NameViews.{name_ref_of}

pub any_names : (n : code_name.NameRef) (keys : List code_name.NameRef) → list_any (λ k. ghosts.eq n k) keys ≡ is_in (name_ref_of n) (map name_ref_of keys)
any_names n [] = refl
any_names n (k ∷ keys) = ap (λ (b : Bool). ghosts.eq n k || b) (any_names n keys)

by_case : (b : Bool) (n : code_name.NameRef) (keys : List code_name.NameRef) → map name_ref_of (cond b keys (keys ++ n ∷ [])) ≡ cond b (map name_ref_of keys) (map name_ref_of keys ++ name_ref_of n ∷ [])
by_case true n keys = refl
by_case false n keys = map_push name_ref_of keys n

pub with_names : (n : code_name.NameRef) (keys : List code_name.NameRef) → map name_ref_of (cond (list_any (λ k. ghosts.eq n k) keys) keys (keys ++ n ∷ [])) ≡ with_name (map name_ref_of keys) (name_ref_of n)
with_names n keys = by_case (list_any (λ k. ghosts.eq n k) keys) n keys ∙ ap (λ (b : Bool). cond b (map name_ref_of keys) (map name_ref_of keys ++ name_ref_of n ∷ [])) (any_names n keys)

pub on_ok : {A E : Type 0} {P Q : Type 0} (r : Result A E) → OnOk r P → (P → Q) → OnOk r Q
on_ok (Ok x) p f = f p
on_ok (Err e) p f = tt

-- ---- a test that finds a name, and the name in the list

symm_by : (a b : Name) (p q : Bool) → name_eq a b ≡ p → name_eq b a ≡ q → p ≡ q
symm_by a b true true e f = refl
symm_by a b false false e f = refl
symm_by a b true false e f = sym (name_eq-same a) ∙ ap (λ (x : Name). name_eq x a) (name_eq-true a b e) ∙ f
symm_by a b false true e f = sym e ∙ ap (λ (x : Name). name_eq a x) (name_eq-true b a f) ∙ name_eq-same a

pub name_eq-symm : (a b : Name) → name_eq a b ≡ name_eq b a
name_eq-symm a b = symm_by a b (name_eq a b) (name_eq b a) refl refl

pub any_flipped : (n : code_name.NameRef) (keys : List code_name.NameRef) → list_any (λ k. ghosts.eq k n) keys ≡ is_in (name_ref_of n) (map name_ref_of keys)
any_flipped n [] = refl
any_flipped n (k ∷ keys) =
    ap (λ (b : Bool). b || list_any (λ x. ghosts.eq x n) keys) (name_eq-symm (name_ref_of k) (name_ref_of n))
    ∙ ap (λ (b : Bool). name_eq (name_ref_of n) (name_ref_of k) || b) (any_flipped n keys)

pub contains_is : (n : Name) (ns : List Name) → is_in n ns ≡ true → Contains ns n
contains_is n [] e = absurd cc
contains_is n (x ∷ ns) e = by (name_eq n x) refl (contains_is n ns) e
  where
    by : (b : Bool) → name_eq n x ≡ b → (is_in n ns ≡ true → Contains ns n) → (b || is_in n ns) ≡ true → Contains (x ∷ ns) n
    by true is more e = subst (λ (m : Name). Contains (x ∷ ns) m) (sym (name_eq-true n x is)) (first x ns)
    by false is more e = later n x ns (more e)

pub is_contained : (n : Name) (ns : List Name) → Contains ns n → is_in n ns ≡ true
is_contained n [] has = nowhere n has
is_contained n (x ∷ ns) has = elim (one_of n x ns has) [
  | inl same ↦ ap (λ (m : Name). name_eq n m || is_in n ns) same ∙ ap (λ (b : Bool). b || is_in n ns) (name_eq-same n)
  | inr rest ↦ by (name_eq n x) (is_contained n ns rest)
]
  where
    by : (b : Bool) → is_in n ns ≡ true → (b || is_in n ns) ≡ true
    by true e = refl
    by false e = e

pub not_contained : (n : Name) (ns : List Name) → is_in n ns ≡ false → ¬ Contains ns n
not_contained n ns e has = let is : is_in n ns ≡ true = is_contained n ns has in cc

pub is_absent : (n : Name) (ns : List Name) → ¬ Contains ns n → is_in n ns ≡ false
is_absent n ns missing = by (is_in n ns) refl
  where
    by : (b : Bool) → is_in n ns ≡ b → b ≡ false
    by true e = absurd (missing (contains_is n ns e))
    by false e = refl
