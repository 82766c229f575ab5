-- Each move keeps the rule.
use Rattle.std.proofs.Common.{◌≡◌, ℕ, zero, suc, ◌+◌, ◌==◌, cond, List, [], ◌∷◌, ◌++◌, set, sym, refl, ap, subst, ◌∙◌, arith}
use Rattle.std.specs.Prelude.{sum_by}
use Rattle.std.proofs.lemmas.List.Sums.{sum_by-append, sum_by-cons}
use mathlib.Core.Option.{some, some-injective, some-ne-none}
use lib.ListN.{get_elem?}
use Rattle.crossbeam_deque.specs.Tasks.{Pushes, Takes, Pops, Admits}
use Rattle.td_pool.specs.declared.history.History.{History}
use Rattle.td_pool.specs.Fair.{history, times, times_put, PutNothing, OwnerPuts, IsFair, TookItsOwn, TakenWasPut}

total_set : (f : History → ℕ) (views : List History) (port : ℕ) (v w : History) → get_elem? views port ≡ some v → sum_by f (set views port w) + f v ≡ sum_by f views + f w
total_set f [] port v w e = absurd (some-ne-none v (sym e))
total_set f (x ∷ xs) zero v w e = let h : f x ≡ f v = ap f (some-injective x v e) in omega (arith, sum_by-cons f x xs, sum_by-cons f w xs)
total_set f (x ∷ xs) (suc port) v w e = omega (arith, total_set f xs port v w e, sum_by-cons f x xs, sum_by-cons f x (set xs port w))

times-append : (x : ℕ) (xs ys : List ℕ) → times x (xs ++ ys) ≡ times x xs + times x ys
times-append x xs ys = sum_by-append (λ y. cond (x == y) 1 0) xs ys

pub taken_was_put : TakenWasPut
taken_was_put items histories x h = omega (arith, h.balanced x)

nothing_set : (histories : List History) (port : ℕ) (v w : History) → get_elem? histories port ≡ some v → w.put ≡ v.put → PutNothing histories → PutNothing (set histories port w)
nothing_set [] port v w at e h = h
nothing_set (x ∷ xs) zero v w at e h = (e ∙ (ap (λ (u : History). u.put) (sym (some-injective x v at)) ∙ h.0), h.1)
nothing_set (x ∷ xs) (suc port) v w at e h = (h.0, nothing_set xs port v w at e h.1)

owner_set : (histories : List History) (port : ℕ) (v w : History) → get_elem? histories port ≡ some v → w.put ≡ v.put → OwnerPuts histories → OwnerPuts (set histories port w)
owner_set [] port v w at e h = absurd h
owner_set (x ∷ xs) zero v w at e h = h
owner_set (x ∷ xs) (suc port) v w at e h = nothing_set xs port v w at e h

owner_first : (histories : List History) (w : History) → OwnerPuts histories → OwnerPuts (set histories 0 w)
owner_first [] w h = absurd h
owner_first (x ∷ xs) w h = h

nothing_more : (histories : List History) → PutNothing histories → PutNothing (histories ++ history [] [] ∷ [])
nothing_more [] h = (refl, tt)
nothing_more (x ∷ xs) h = (h.0, nothing_more xs h.1)

owner_more : (histories : List History) → OwnerPuts histories → OwnerPuts (histories ++ history [] [] ∷ [])
owner_more [] h = absurd h
owner_more (x ∷ xs) h = nothing_more xs h

-- what guests put is nothing
guests_put : (x : ℕ) (histories : List History) → PutNothing histories → times_put x histories ≡ 0
guests_put x [] h = refl
guests_put x (y ∷ ys) h = sum_by-cons (λ (u : History). times x u.put) y ys ∙ (let a : times x y.put ≡ 0 = ap (times x) h.0 in let b = guests_put x ys h.1 in omega arith)

-- under the rule the owner took no more than it put
own_taken : (items : List ℕ) (histories : List History) (w : History) → IsFair items histories → get_elem? histories 0 ≡ some w → TookItsOwn w
own_taken items [] w h at x = absurd h.owner
own_taken items (y ∷ ys) w h at x =
    let e : times x y.put ≡ times x w.put = ap (λ (u : History). times x u.put) (some-injective y w at) in
    let f : times x y.taken ≡ times x w.taken = ap (λ (u : History). times x u.taken) (some-injective y w at) in
    let b = h.balanced x in let g = guests_put x ys h.owner in
    omega (arith, sum_by-cons (λ (u : History). times x u.put) y ys, sum_by-cons (λ (u : History). times x u.taken) y ys)

first_set : (histories : List History) (v w : History) → get_elem? histories 0 ≡ some v → get_elem? (set histories 0 w) 0 ≡ some w
first_set [] v w at = absurd (some-ne-none v (sym at))
first_set (x ∷ xs) v w at = refl

pub begins : IsFair [] (history [] [] ∷ [])
begins = record { owner = tt; balanced = λ x. refl }

pub admits : Admits IsFair (history [] [])
admits items views h = record {
  owner = owner_more views h.owner;
  balanced = λ x.
      let b = h.balanced x in
      omega (arith, sum_by-append (λ (v : History). times x v.put) views (history [] [] ∷ []), sum_by-append (λ (v : History). times x v.taken) views (history [] [] ∷ []));
}

pub puts : (port : ℕ) → port ≡ 0 → (v : History) (xs : List ℕ) → Pushes IsFair port v xs (λ w. w ≡ history (v.put ++ xs) v.taken)
puts port first v xs items views h at =
    let w = history (v.put ++ xs) v.taken in (
      w,
      record {
        owner = subst (λ (k : ℕ). OwnerPuts (set views k w)) (sym first) (owner_first views w h.owner);
        balanced = λ x. let b = h.balanced x in omega (arith, total_set (λ (u : History). times x u.put) views port v w at, total_set (λ (u : History). times x u.taken) views port v w at, times-append x v.put xs, times-append x items xs);
      },
      refl,
    )

taken_of : (port : ℕ) (v : History) (xs items rest : List ℕ) (views : List History) → ((x : ℕ) → times x items ≡ times x xs + times x rest) → IsFair items views → get_elem? views port ≡ some v
    → IsFair rest (set views port (history v.put (v.taken ++ xs)))
taken_of port v xs items rest views parts h at = record {
  owner = owner_set views port v (history v.put (v.taken ++ xs)) at refl h.owner;
  balanced = λ x.
      let w = history v.put (v.taken ++ xs) in let b = h.balanced x in let p = parts x in
      omega (arith, total_set (λ (u : History). times x u.put) views port v w at, total_set (λ (u : History). times x u.taken) views port v w at, times-append x v.taken xs);
}

pub takes : (port : ℕ) (v : History) → Takes IsFair port v 1 (λ xs w. w ≡ history v.put (v.taken ++ xs))
takes port v xs items views some_task few h at = (history v.put (v.taken ++ xs), taken_of port v xs (xs ++ items) items views (λ x. times-append x xs items) h at, refl)

own_after : (port : ℕ) → port ≡ 0 → (v : History) (xs rest : List ℕ) (views : List History) → IsFair rest (set views port (history v.put (v.taken ++ xs))) → get_elem? views port ≡ some v → TookItsOwn (history v.put (v.taken ++ xs))
own_after port first v xs rest views h at =
    let w = history v.put (v.taken ++ xs) in
    own_taken rest (set views 0 w) w (subst (λ (k : ℕ). IsFair rest (set views k w)) first h) (first_set views v w (subst (λ (k : ℕ). get_elem? views k ≡ some v) first at))

pub takes_own : (port : ℕ) → port ≡ 0 → (v : History) → Takes IsFair port v 1 (λ xs w. (w ≡ history v.put (v.taken ++ xs)) × TookItsOwn w)
takes_own port first v xs items views some_task few h at =
    let k = taken_of port v xs (xs ++ items) items views (λ x. times-append x xs items) h at in
    (history v.put (v.taken ++ xs), k, (refl, own_after port first v xs items views k at))

pub pops : (port : ℕ) → port ≡ 0 → (v : History) → Pops IsFair port v (λ xs w. (w ≡ history v.put (v.taken ++ xs)) × TookItsOwn w)
pops port first v y items views h at =
    let k = taken_of port v (y ∷ []) (items ++ y ∷ []) items views (λ x. omega (arith, times-append x items (y ∷ []))) h at in
    (history v.put (v.taken ++ y ∷ []), k, (refl, own_after port first v (y ∷ []) items views k at))
