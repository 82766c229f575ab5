-- The first member of a list that passes a test.
use Rattle.std.proofs.Common.{◌≡◌, Bool, true, false, cond, List, [], ◌∷◌, ◌++◌, None, Some, refl, sym, ap, subst, ◌∙◌, inl, inr}
use Rattle.std.specs.Prelude.{find}
use Rattle.std.specs.List.{Contains}
use Rattle.td_netlist.proofs.Members.{first, later, one_of, nowhere}

module _ {X : Type 0} (p : X → Bool) where
  pub find_front : (xs ys : List X) (x : X) → find p xs ≡ Some x → find p (xs ++ ys) ≡ Some x
  find_front [] ys x e = absurd cc
  find_front (y ∷ xs) ys x e = by (p y) (find_front xs ys x) e
    where
      by : (b : Bool) → (find p xs ≡ Some x → find p (xs ++ ys) ≡ Some x) → cond b (Some y) (find p xs) ≡ Some x → cond b (Some y) (find p (xs ++ ys)) ≡ Some x
      by true rest e = e
      by false rest e = rest e

  pub find_behind : (xs ys : List X) → find p xs ≡ None → find p (xs ++ ys) ≡ find p ys
  find_behind [] ys e = refl
  find_behind (y ∷ xs) ys e = by (p y) (find_behind xs ys) e
    where
      by : (b : Bool) → (find p xs ≡ None → find p (xs ++ ys) ≡ find p ys) → cond b (Some y) (find p xs) ≡ None → cond b (Some y) (find p (xs ++ ys)) ≡ find p ys
      by true rest e = absurd cc
      by false rest e = rest e

  pub found_there : (xs : List X) (x : X) → find p xs ≡ Some x → Contains xs x × (p x ≡ true)
  found_there [] x e = absurd cc
  found_there (y ∷ xs) x e = by (p y) refl (found_there xs x) e
    where
      by : (b : Bool) → p y ≡ b → (find p xs ≡ Some x → Contains xs x × (p x ≡ true)) → cond b (Some y) (find p xs) ≡ Some x → Contains (y ∷ xs) x × (p x ≡ true)
      by true passes rest e =
          let same : y ≡ x = cc in
          (subst (λ (z : X). Contains (y ∷ xs) z) same (first y xs), ap p (sym same) ∙ passes)
      by false passes rest e = let found = rest e in (later x y xs found.0, found.1)

  pub found_none : (xs : List X) (x : X) → find p xs ≡ None → Contains xs x → p x ≡ true → ⊥
  found_none [] x e has passes = nowhere x has
  found_none (y ∷ xs) x e has passes = by (p y) refl (found_none xs x) e
    where
      by : (b : Bool) → p y ≡ b → (find p xs ≡ None → Contains xs x → p x ≡ true → ⊥) → cond b (Some y) (find p xs) ≡ None → ⊥
      by true is rest e = cc
      by false is rest e = elim (one_of x y xs has) [
        | inl same ↦ (let test : p y ≡ p x = ap p same in cc)
        | inr more ↦ rest e more passes
      ]
