-- Each step on the word keeps its rule, and the last seat knows the word.
use Rattle.std.proofs.Common.{◌≡◌, ◌≢◌, ◌⊎◌, ℕ, ◌+◌, ◌<◌, ◌≤◌, zero, suc, List, [], ◌∷◌, ◌++◌, length, set, slice_index, slice_get, max, ◌-◌, Some, add-one, length-append, refl, sym, ap, subst, ◌∙◌, inl, inr, ⊎_elim, arith, le_refl}
use Rattle.std.specs.Prelude.{Contains}
use Rattle.std.proofs.lemmas.List.Elements.{Contains-append_cases}
use mathlib.Core.Option.{none, some, some-injective, some-ne-none}
use mathlib.Core.Logic.{dite}
use native.Mathlib.Decide.{dec_le, ℕ_discrete}
use lib.ListN.{get_elem?}
use Rattle.atomic_table.specs.Table.{Me, step, keeps, Allows, Splits, Joins, Final, Seen, stepped}
use Rattle.atomic_table.proofs.Lists.{at_set, set_here, set_else, at_longer}
use Rattle.td_incumbent.specs.declared.view.View.{View}
use Rattle.atomic_table.specs.Seated.{TableId}
use Rattle.td_incumbent.specs.Held.{Held, Shown, new_seat}
use Rattle.td_incumbent.specs.Word.{IsGreatest, Keeps, Looks, Raises, undealt, dealt_view, joined, spent, count_from, opening_view}

abbrev Offers : ℕ → List View → Type 0
Offers word views = (word ≡ 0) ⊎ ((i : ℕ) × (v : View) × (get_elem? views i ≡ some v) × (v.seats ≢ []) × (v.offer ≡ word))

module _ (views : List View) (id : ℕ) (v w : View) (at : get_elem? views id ≡ some v) (same : w.seats ≡ v.seats) where
  -- each view stands for what it stood for
  stood : (j : ℕ) (u : View) → get_elem? (set views id w) j ≡ some u → (x : View) × (get_elem? views j ≡ some x) × (u.seats ≡ x.seats)
  stood j u e = ⊎_elim
      (λ (t : (j ≡ id) × (w ≡ u)). (v, subst (λ (i : ℕ). get_elem? views i ≡ some v) (sym t.0) at, ap (λ (z : View). z.seats) (sym t.1) ∙ same))
      (λ (t : (j ≢ id) × (get_elem? views j ≡ some u)). (u, t.1, refl))
      (at_set views id j w u e)

  pub moved : (seats word word' : ℕ) → IsGreatest seats word views → word ≤ word' → w.seen ≤ word' → w.offer ≤ word' → Offers word' (set views id w) → IsGreatest seats word' (set views id w)
  moved seats word word' kept up seen offer offered = record {
    above = λ j u e. ⊎_elim
        (λ (t : (j ≡ id) × (w ≡ u)). subst (λ (z : View). (z.seen ≤ word') × (z.offer ≤ word')) t.1 (seen, offer))
        (λ (t : (j ≢ id) × (get_elem? views j ≡ some u)). let h = kept.above j u t.1 in (omega arith, omega arith))
        (at_set views id j w u e);
    offered = offered;
    dealt = λ j u k e has. let x = stood j u e in kept.dealt j x.0 k x.1 (subst (λ (l : List ℕ). Contains l k) x.2 has);
    apart = λ i j a b k e f p q. let x = stood i a e in let y = stood j b f in
        kept.apart i j x.0 y.0 k x.1 y.1 (subst (λ (l : List ℕ). Contains l k) x.2 p) (subst (λ (l : List ℕ). Contains l k) y.2 q);
  }

within : (views : List View) (id : ℕ) (v : View) → get_elem? views id ≡ some v → id < length views
within [] id v e = absurd (some-ne-none v (sym e))
within (x ∷ xs) zero v e = omega arith
within (x ∷ xs) (suc id) v e = omega (arith, within xs id v e)

-- the offer of another view still stands, and so does one of the changed view where it is no less
kept_offer : (views : List View) (id : ℕ) (v w : View) (word : ℕ) → get_elem? views id ≡ some v → (v.seats ≢ [] → w.seats ≢ []) → (v.offer ≡ word → w.offer ≡ word) → Offers word views → Offers word (set views id w)
kept_offer views id v w word at stands stays before = ⊎_elim
    (λ (zero_word : word ≡ 0). inl zero_word)
    (λ (o : (i : ℕ) × (u : View) × (get_elem? views i ≡ some u) × (u.seats ≢ []) × (u.offer ≡ word)). dite (ℕ_discrete o.0 id)
    (λ (e : o.0 ≡ id).
    let is : v ≡ o.1 = some-injective v o.1 (sym at ∙ (sym (ap (get_elem? views) e) ∙ o.2)) in
    inr (id, w, set_here views id w (within views id v at), stands (subst (λ (z : View). z.seats ≢ []) (sym is) o.3), stays (ap (λ (z : View). z.offer) is ∙ o.4)))
    (λ (ne : o.0 ≢ id). inr (o.0, o.1, set_else views id o.0 w ne ∙ o.2, o.3, o.4)))
    before

pub looks : (seats slots id : ℕ) (me : Me ℕ View) → Allows (Keeps seats) slots id me 0 (λ n. n) (Looks (step slots 0 0 0 none) me)
looks seats slots id me s holds homes at small =
    let v = me.0 in let word = holds.0 in
    let P : List ℕ → Type 0 = λ ws. (w : View) × (a : Rattle.atomic_table.specs.Table.Act ℕ) × Rattle.atomic_table.specs.Table.Valid s.homes me.1 a
    × Keeps seats (stepped record { words = ws; homes = s.homes; views = s.views } 0 (slice_index ws 0) id me.1 w a)
    × Looks (step slots 0 0 0 none) me (slice_index ws 0) (w, Rattle.atomic_table.specs.Table.carried_after me.1 a) in
    let w : View = record { seen = word; offer = v.offer; seats = v.seats } in
    let h = holds.2.above id v at in
    let kept : IsGreatest seats word (set s.views id w) = moved s.views id v w at refl seats word word holds.2 (le_refl word) (le_refl word) h.1
    (kept_offer s.views id v w word at (λ n. n) (λ e. e) holds.2.offered) in
    let all : P (word ∷ []) = (w, keeps, tt, (word, refl, kept), (h.0, refl)) in
    subst P (sym holds.1) all

raised : (views : List View) (id seats word k : ℕ) (v : View) → get_elem? views id ≡ some v → v.seats ≢ [] → IsGreatest seats word views
    → IsGreatest seats (max word k) (set views id record { seen = max word k; offer = max v.offer k; seats = v.seats })
raised views id seats word k v at stands kept =
    let w : View = record { seen = max word k; offer = max v.offer k; seats = v.seats } in
    let h = kept.above id v at in
    let mine : word ≤ k → Offers (max word k) (set views id w) = λ le. inr (id, w, set_here views id w (within views id v at), stands, omega arith) in
    let theirs : k ≤ word → Offers (max word k) (set views id w) = λ le.
    let e : max word k ≡ word = omega arith in
    subst (λ (n : ℕ). Offers n (set views id w)) (sym e) (kept_offer views id v w word at (λ n. n) (λ (s : v.offer ≡ word). omega arith) kept.offered) in
    let offered : Offers (max word k) (set views id w) = dite (dec_le word k) mine (λ (ne : ¬ (word ≤ k)). theirs (omega arith)) in
    moved views id v w at refl seats word (max word k) kept (omega arith) (le_refl _) (omega arith) offered

pub raises : (seats slots id : ℕ) (me : Me ℕ View) (k : ℕ) → me.0.seats ≢ [] → Allows (Keeps seats) slots id me 0 (λ n. max n k) (Raises (step slots 0 k 0 none) me)
raises seats slots id me k stands s holds homes at small =
    let v = me.0 in let word = holds.0 in
    let P : List ℕ → Type 0 = λ ws. (w : View) × (a : Rattle.atomic_table.specs.Table.Act ℕ) × Rattle.atomic_table.specs.Table.Valid s.homes me.1 a
    × Keeps seats (stepped record { words = ws; homes = s.homes; views = s.views } 0 (max (slice_index ws 0) k) id me.1 w a)
    × Raises (step slots 0 k 0 none) me (slice_index ws 0) (w, Rattle.atomic_table.specs.Table.carried_after me.1 a) in
    let w : View = record { seen = max word k; offer = max v.offer k; seats = v.seats } in
    let h = holds.2.above id v at in
    let all : P (word ∷ []) = (w, keeps, tt, (max word k, refl, raised s.views id seats word k v at stands holds.2), (h.0, refl)) in
    subst P (sym holds.1) all

pub append_nothing : (xs ys : List ℕ) → xs ++ ys ≡ [] → (xs ≡ []) × (ys ≡ [])
append_nothing [] ys e = (refl, e)
append_nothing (x ∷ xs) ys e = cc

none_in : (k : ℕ) → Contains [] k → ⊥
none_in k h = let lt = h.1 in omega arith

module _ (views : List View) (id other : ℕ) (v w : View) (at : get_elem? views id ≡ some v) (there : get_elem? views other ≡ some w) (ne : other ≢ id) where
  -- where a view of the two lies afterwards
  abbrev Went : ℕ → ℕ → Type 0
  Went i j = (i ≡ other → j ≡ id) × (i ≢ other → j ≡ i)

  abbrev cases : (j : ℕ) (u : View) → Type 0
  cases j u = ((j ≡ other) × (spent ≡ u)) ⊎ (((j ≢ other) × (j ≡ id) × (joined v w ≡ u)) ⊎ ((j ≢ other) × (j ≢ id) × (get_elem? views j ≡ some u)))

  split_cases : (j : ℕ) (u : View) → get_elem? (set (set views id (joined v w)) other spent) j ≡ some u → cases j u
  split_cases j u e = ⊎_elim
      (λ (t : (j ≡ other) × (spent ≡ u)). inl t)
      (λ (t : (j ≢ other) × (get_elem? (set views id (joined v w)) j ≡ some u)). inr (⊎_elim
      (λ (r : (j ≡ id) × (joined v w ≡ u)). inl (t.0, r.0, r.1))
      (λ (r : (j ≢ id) × (get_elem? views j ≡ some u)). inr (t.0, r.0, r.1))
      (at_set views id j (joined v w) u t.1)))
      (at_set (set views id (joined v w)) other j spent u e)

  abbrev Heir : ℕ → ℕ → Type 0
  Heir j k = (i : ℕ) × (x : View) × (get_elem? views i ≡ some x) × Contains x.seats k × Went i j

  holder : (j : ℕ) (u : View) (k : ℕ) → get_elem? (set (set views id (joined v w)) other spent) j ≡ some u → Contains u.seats k → Heir j k
  holder j u k e has = ⊎_elim
      (λ (t : (j ≡ other) × (spent ≡ u)). absurd (none_in k (subst (λ (z : View). Contains z.seats k) (sym t.1) has)))
      (λ (t : ((j ≢ other) × (j ≡ id) × (joined v w ≡ u)) ⊎ ((j ≢ other) × (j ≢ id) × (get_elem? views j ≡ some u))). ⊎_elim
      (λ (r : (j ≢ other) × (j ≡ id) × (joined v w ≡ u)).
      let both : Contains (v.seats ++ w.seats) k = subst (λ (z : View). Contains z.seats k) (sym r.2) has in
      ⊎_elim
      (λ (a : Contains v.seats k). let g : Heir j k = (id, v, at, a, ((λ (h : id ≡ other). absurd (ne (sym h))), λ (_ : id ≢ other). r.1)) in g)
      (λ (b : Contains w.seats k). let g : Heir j k = (other, w, there, b, ((λ (_ : other ≡ other). r.1), λ (h : other ≢ other). absurd (h refl))) in g)
      (Contains-append_cases v.seats w.seats k both))
      (λ (r : (j ≢ other) × (j ≢ id) × (get_elem? views j ≡ some u)).
      let g : Heir j k = (j, u, r.2, has, ((λ (h : j ≡ other). absurd (r.0 h)), λ (_ : j ≢ other). refl)) in g)
      t)
      (split_cases j u e)

  pub merged : (seats word : ℕ) → IsGreatest seats word views → IsGreatest seats word (set (set views id (joined v w)) other spent)
  merged seats word kept = record {
    above = λ j u e. ⊎_elim
        (λ (t : (j ≡ other) × (spent ≡ u)). subst (λ (z : View). (z.seen ≤ word) × (z.offer ≤ word)) t.1 (omega arith, omega arith))
        (λ (t : ((j ≢ other) × (j ≡ id) × (joined v w ≡ u)) ⊎ ((j ≢ other) × (j ≢ id) × (get_elem? views j ≡ some u))). ⊎_elim
        (λ (r : (j ≢ other) × (j ≡ id) × (joined v w ≡ u)).
        let a = kept.above id v at in let b = kept.above other w there in
        subst (λ (z : View). (z.seen ≤ word) × (z.offer ≤ word)) r.2 (omega arith, omega arith))
        (λ (r : (j ≢ other) × (j ≢ id) × (get_elem? views j ≡ some u)). kept.above j u r.2)
        t)
        (split_cases j u e);
    offered = offered;
    dealt = λ j u k e has. let h = holder j u k e has in kept.dealt h.0 h.1 k h.2 h.3;
    apart = λ i j a b k e f p q.
        let x = holder i a k e p in let y = holder j b k f q in
        let same : x.0 ≡ y.0 = kept.apart x.0 y.0 x.1 y.1 k x.2 y.2 x.3 y.3 in
        dite (ℕ_discrete x.0 other)
        (λ (is : x.0 ≡ other). x.4.0 is ∙ sym (y.4.0 (sym same ∙ is)))
        (λ (isnt : x.0 ≢ other). x.4.1 isnt ∙ (same ∙ sym (y.4.1 (λ (h : y.0 ≡ other). isnt (same ∙ h)))));
  }
    where
      here : get_elem? (set (set views id (joined v w)) other spent) id ≡ some (joined v w)
      here = set_else (set views id (joined v w)) other id spent (λ (h : id ≡ other). ne (sym h)) ∙ set_here views id (joined v w) (within views id v at)

      offered : Offers word (set (set views id (joined v w)) other spent)
      offered = ⊎_elim
          (λ (z : word ≡ 0). inl z)
          (λ (o : (i : ℕ) × (u : View) × (get_elem? views i ≡ some u) × (u.seats ≢ []) × (u.offer ≡ word)).
          let a = kept.above id v at in let b = kept.above other w there in
          dite (ℕ_discrete o.0 other)
          (λ (e : o.0 ≡ other).
          let is : w ≡ o.1 = some-injective w o.1 (sym there ∙ (sym (ap (get_elem? views) e) ∙ o.2)) in
          let top : w.offer ≡ word = ap (λ (z : View). z.offer) is ∙ o.4 in
          let stands : w.seats ≢ [] = subst (λ (z : View). z.seats ≢ []) (sym is) o.3 in
          inr (id, joined v w, here, (λ (h : v.seats ++ w.seats ≡ []). stands (append_nothing v.seats w.seats h).1), omega arith))
          (λ (n : o.0 ≢ other). dite (ℕ_discrete o.0 id)
          (λ (e : o.0 ≡ id).
          let is : v ≡ o.1 = some-injective v o.1 (sym at ∙ (sym (ap (get_elem? views) e) ∙ o.2)) in
          let top : v.offer ≡ word = ap (λ (z : View). z.offer) is ∙ o.4 in
          let stands : v.seats ≢ [] = subst (λ (z : View). z.seats ≢ []) (sym is) o.3 in
          inr (id, joined v w, here, (λ (h : v.seats ++ w.seats ≡ []). stands (append_nothing v.seats w.seats h).0), omega arith))
          (λ (m : o.0 ≢ id). inr (o.0, o.1, set_else (set views id (joined v w)) other o.0 spent n ∙ (set_else views id o.0 (joined v w) m ∙ o.2), o.3, o.4))))
          kept.offered

pub joins : (seats id other : ℕ) (v w : View) → Joins (Keeps seats) id v other w (joined v w) spent
joins seats id other v w s holds at ne there =
    let back : get_elem? s.views other ≡ some w = sym (set_else s.views id other (joined v w) ne) ∙ there in
    (holds.0, holds.1, merged s.views id other v w at back ne seats holds.0 holds.2)

-- where an element of a list with one more stands
at_snoc_where : (l : List View) (a b : View) (j : ℕ) → get_elem? (l ++ a ∷ []) j ≡ some b → (get_elem? l j ≡ some b) ⊎ ((j ≡ length l) × (a ≡ b))
at_snoc_where [] a b zero e = inr (refl, some-injective a b e)
at_snoc_where [] a b (suc j) e = absurd (some-ne-none b (sym e))
at_snoc_where (x ∷ xs) a b zero e = inl e
at_snoc_where (x ∷ xs) a b (suc j) e = ⊎_elim inl (λ (t : (j ≡ length xs) × (a ≡ b)). inr (ap suc t.0, t.1)) (at_snoc_where xs a b j e)

head_in : (k : ℕ) (ks : List ℕ) → Contains (k ∷ ks) k
head_in k ks = (0, omega arith, refl)

tail_in : (k x : ℕ) (ks : List ℕ) → Contains ks x → Contains (k ∷ ks) x
tail_in k x ks h = (suc h.0, (let lt = h.1 in omega arith), h.2)

only_in : (k x : ℕ) → Contains (k ∷ []) x → k ≡ x
only_in k x (zero, lt, e) = e
only_in k x (suc i, lt, e) = absurd (omega arith)

module _ (views : List View) (id k : ℕ) (ks : List ℕ) (fresh : Contains ks k → ⊥)
    (at : get_elem? views id ≡ some record { seen = 0; offer = 0; seats = k ∷ ks }) where
  abbrev old : View
  old = record { seen = 0; offer = 0; seats = k ∷ ks }

  abbrev left : View
  left = record { seen = 0; offer = 0; seats = ks }

  abbrev right : View
  right = record { seen = 0; offer = 0; seats = k ∷ [] }

  abbrev cut : List View
  cut = set views id left ++ right ∷ []

  abbrev Found : ℕ → View → Type 0
  Found j u = ((j ≡ length (set views id left)) × (right ≡ u)) ⊎ (((j ≡ id) × (left ≡ u)) ⊎ ((j ≢ id) × (get_elem? views j ≡ some u)))

  found : (j : ℕ) (u : View) → get_elem? cut j ≡ some u → Found j u
  found j u e = ⊎_elim
      (λ (t : get_elem? (set views id left) j ≡ some u). inr (at_set views id j left u t))
      (λ (t : (j ≡ length (set views id left)) × (right ≡ u)). inl t)
      (at_snoc_where (set views id left) right u j e)

  -- where a number lies afterwards, and of whom it was
  abbrev Kept : ℕ → ℕ → Type 0
  Kept j x = (i : ℕ) × (y : View) × (get_elem? views i ≡ some y) × Contains y.seats x
      × ((j ≡ i) × (i ≡ id → x ≢ k) ⊎ ((j ≡ length (set views id left)) × (i ≡ id) × (x ≡ k)))

  kept_by : (j : ℕ) (u : View) (x : ℕ) → get_elem? cut j ≡ some u → Contains u.seats x → Kept j x
  kept_by j u x e has = ⊎_elim
      (λ (t : (j ≡ length (set views id left)) × (right ≡ u)).
      let is : k ≡ x = only_in k x (subst (λ (z : View). Contains z.seats x) (sym t.1) has) in
      let g : Kept j x = (id, old, at, subst (λ (z : ℕ). Contains (k ∷ ks) z) is (head_in k ks), inr (t.0, refl, sym is)) in g)
      (λ (t : ((j ≡ id) × (left ≡ u)) ⊎ ((j ≢ id) × (get_elem? views j ≡ some u))). ⊎_elim
      (λ (r : (j ≡ id) × (left ≡ u)).
      let there : Contains ks x = subst (λ (z : View). Contains z.seats x) (sym r.1) has in
      let g : Kept j x = (id, old, at, tail_in k x ks there, inl (r.0, λ (_ : id ≡ id) (h : x ≡ k). fresh (subst (λ (z : ℕ). Contains ks z) h there))) in g)
      (λ (r : (j ≢ id) × (get_elem? views j ≡ some u)).
      let g : Kept j x = (j, u, r.1, has, inl (refl, λ (h : j ≡ id). absurd (r.0 h))) in g)
      t)
      (found j u e)

  pub cut_keeps : (seats word : ℕ) → IsGreatest seats word views → IsGreatest seats word cut
  cut_keeps seats word kept = record {
    above = λ j u e. ⊎_elim
        (λ (t : (j ≡ length (set views id left)) × (right ≡ u)). subst (λ (z : View). (z.seen ≤ word) × (z.offer ≤ word)) t.1 (omega arith, omega arith))
        (λ (t : ((j ≡ id) × (left ≡ u)) ⊎ ((j ≢ id) × (get_elem? views j ≡ some u))). ⊎_elim
        (λ (r : (j ≡ id) × (left ≡ u)). subst (λ (z : View). (z.seen ≤ word) × (z.offer ≤ word)) r.1 (omega arith, omega arith))
        (λ (r : (j ≢ id) × (get_elem? views j ≡ some u)). kept.above j u r.1)
        t)
        (found j u e);
    offered = ⊎_elim
        (λ (z : word ≡ 0). inl z)
        (λ (o : (i : ℕ) × (u : View) × (get_elem? views i ≡ some u) × (u.seats ≢ []) × (u.offer ≡ word)). dite (ℕ_discrete o.0 id)
        (λ (e : o.0 ≡ id).
        let is : old ≡ o.1 = some-injective old o.1 (sym at ∙ (sym (ap (get_elem? views) e) ∙ o.2)) in
        let zero_word : word ≡ 0 = sym (ap (λ (z : View). z.offer) is ∙ o.4) in
        inl zero_word)
        (λ (n : o.0 ≢ id). inr (o.0, o.1, at_longer (set views id left) (right ∷ []) o.0 o.1 (set_else views id o.0 left n ∙ o.2), o.3, o.4)))
        kept.offered;
    dealt = λ j u x e has. let h = kept_by j u x e has in kept.dealt h.0 h.1 x h.2 h.3;
    apart = λ i j a b x e f p q.
        let y = kept_by i a x e p in let z = kept_by j b x f q in
        let same : y.0 ≡ z.0 = kept.apart y.0 z.0 y.1 z.1 x y.2 z.2 y.3 z.3 in
        ⊎_elim
        (λ (l : (i ≡ y.0) × (y.0 ≡ id → x ≢ k)). ⊎_elim
        (λ (m : (j ≡ z.0) × (z.0 ≡ id → x ≢ k)). l.0 ∙ (same ∙ sym m.0))
        (λ (m : (j ≡ length (set views id left)) × (z.0 ≡ id) × (x ≡ k)). absurd (l.1 (same ∙ m.1) m.2))
        z.4)
        (λ (l : (i ≡ length (set views id left)) × (y.0 ≡ id) × (x ≡ k)). ⊎_elim
        (λ (m : (j ≡ z.0) × (z.0 ≡ id → x ≢ k)). absurd (m.1 (sym same ∙ l.1) l.2))
        (λ (m : (j ≡ length (set views id left)) × (z.0 ≡ id) × (x ≡ k)). l.0 ∙ sym m.0)
        z.4)
        y.4;
  }

count_from-bounds : (n m x : ℕ) → Contains (count_from n m) x → (n ≤ x) × (x < n + m)
count_from-bounds n zero x h = absurd (none_in x h)
count_from-bounds n (suc m) x (zero, lt, e) = let e' : n ≡ x = e in (omega arith, omega arith)
count_from-bounds n (suc m) x (suc i, lt, e) = let lt' : suc i < suc (length (count_from (suc n) m)) = lt in let h = count_from-bounds (suc n) m x (i, omega arith, e) in let a = h.0 in let b = h.1 in (omega arith, omega arith)

-- the first of these seats is dealt
pub deals : (seats id n m : ℕ) (v : View) → v ≡ record { seen = 0; offer = 0; seats = count_from n (suc m) } → Splits (Keeps seats) id v (undealt v) (dealt_view v)
deals seats id n m v is = subst (λ (z : View). Splits (Keeps seats) id z (undealt z) (dealt_view z)) (sym is)
    (λ s holds at. (holds.0, holds.1, cut_keeps s.views id n (count_from (suc n) m) (λ h. let b = (count_from-bounds (suc n) m n h).0 in omega arith) at seats holds.0 holds.2))

one_view : (v u : View) (i : ℕ) → get_elem? (v ∷ []) i ≡ some u → (i ≡ 0) × (v ≡ u)
one_view v u zero e = (refl, some-injective v u e)
one_view v u (suc i) e = absurd (some-ne-none u (sym e))

pub opens : (seats : ℕ) → IsGreatest seats 0 (opening_view seats ∷ [])
opens seats = record {
  above = λ i u e. let h = one_view (opening_view seats) u i e in subst (λ (z : View). (z.seen ≤ 0) × (z.offer ≤ 0)) h.1 (omega arith, omega arith);
  offered = inl refl;
  dealt = λ i u k e has. let h = one_view (opening_view seats) u i e in (let b = (count_from-bounds 0 seats k (subst (λ (z : View). Contains z.seats k) (sym h.1) has)).1 in omega arith);
  apart = λ i j u w k e f p q. (one_view (opening_view seats) u i e).0 ∙ sym (one_view (opening_view seats) w j f).0;
}

some_seat : (ks : List ℕ) → ks ≢ [] → (k : ℕ) × Contains ks k
some_seat [] h = absurd (h refl)
some_seat (k ∷ ks) h = (k, head_in k ks)

-- the seat that stands for all knows the word
pub closes : (seats id word : ℕ) (v : View) (ws xs : List ℕ) → ((k : ℕ) → k < seats → Contains v.seats k) → Final (Seen (Keeps seats) id v) ws xs → get_elem? ws 0 ≡ some word → word ≡ v.offer
closes seats id word v ws xs all final at =
    let s = final.0 in let kept = final.1.0 in let mine = final.1.1 in let n = kept.0 in
    let is : n ≡ word = some-injective n word (ap (λ (l : List ℕ). get_elem? l 0) (sym kept.1 ∙ final.2) ∙ at) in
    let top = (kept.2.above id v mine).1 in
    ⊎_elim
    (λ (z : n ≡ 0). omega arith)
    (λ (o : (i : ℕ) × (u : View) × (get_elem? s.views i ≡ some u) × (u.seats ≢ []) × (u.offer ≡ n)).
    let k = some_seat o.1.seats o.3 in
    let has = all k.0 (kept.2.dealt o.0 o.1 k.0 o.2 k.1) in
    let same : o.0 ≡ id = kept.2.apart o.0 id o.1 v k.0 o.2 mine k.1 has in
    let same_view : o.1 ≡ v = some-injective o.1 v (sym o.2 ∙ (ap (get_elem? s.views) same ∙ mine)) in
    sym is ∙ (sym o.4 ∙ ap (λ (z : View). z.offer) same_view))
    kept.2.offered

get_snoc : {A : Type 0} → (xs : List A) (x : A) (f : ℕ → A) → ((k : ℕ) → k < length xs → slice_get xs k ≡ Some (f k)) → x ≡ f (length xs) → (k : ℕ) → k < length xs + 1 → slice_get (xs ++ x ∷ []) k ≡ Some (f k)
get_snoc [] x f all last zero lt = ap Some last
get_snoc [] x f all last (suc k) lt = absurd (omega arith)
get_snoc (y ∷ ys) x f all last zero lt = all 0 (omega arith)
get_snoc (y ∷ ys) x f all last (suc k) lt = get_snoc ys x (λ i. f (suc i)) (λ i h. all (suc i) (omega arith)) last k (omega arith)

pub seats_snoc : {A : Type 0} → (xs ys : List A) (x : A) (n : ℕ) (f : ℕ → A) → ys ≡ xs ++ x ∷ [] → length xs ≡ n → ((k : ℕ) → k < n → slice_get xs k ≡ Some (f k)) → x ≡ f n → (k : ℕ) → k < n + 1 → slice_get ys k ≡ Some (f k)
seats_snoc xs ys x n f is len all last k lt = rw is (get_snoc xs x f (λ i h. all i (omega arith)) (last ∙ ap f (sym len)) k (omega arith))

-- what is left to deal
pub left_to_deal : (n all : ℕ) → n < all → count_from n (all - n) ≡ n ∷ count_from (n + 1) (all - (n + 1))
left_to_deal n all lt = let e : all - n ≡ suc (all - (n + 1)) = omega arith in let f : suc n ≡ n + 1 = omega arith in rw (e, add-one) refl

pub last_to_deal : (n all : ℕ) → n + 1 ≡ all → count_from n (all - n) ≡ n ∷ []
last_to_deal n all is = let e : all - n ≡ suc zero = omega arith in rw e refl

module _ (n all : ℕ) (v : View) (lt : n < all) (is : v ≡ record { seen = 0; offer = 0; seats = count_from n (all - n) }) where
  as_cons : v ≡ record { seen = 0; offer = 0; seats = n ∷ count_from (n + 1) (all - (n + 1)) }
  as_cons = is ∙ ap (λ (ks : List ℕ). let w : View = record { seen = 0; offer = 0; seats = ks } in w) (left_to_deal n all lt)

  pub dealt_is : dealt_view v ≡ record { seen = 0; offer = 0; seats = n ∷ [] }
  dealt_is = ap dealt_view as_cons

  pub undealt_is : undealt v ≡ record { seen = 0; offer = 0; seats = count_from (n + 1) (all - (n + 1)) }
  undealt_is = ap undealt as_cons

  pub deals_next : (seats id : ℕ) → Splits (Keeps seats) id v (undealt v) (dealt_view v)
  deals_next seats id = deals seats id n (all - (n + 1)) v (let e : all - n ≡ suc (all - (n + 1)) = omega arith in is ∙ ap (λ (k : ℕ). let w : View = record { seen = 0; offer = 0; seats = count_from n k } in w) e)

abbrev pub held_by : TableId → View → Held
held_by t v = record { table = t; seen = v.seen; offer = v.offer; seats = v.seats }

pub held_is : (t t' : TableId) (v v' : View) → t ≡ t' → v ≡ v' → held_by t v ≡ held_by t' v'
held_is t t' v v' e f = ap (λ (x : TableId). held_by x v) e ∙ ap (held_by t') f

pub me_is : (m : Me ℕ View) (v v' : View) (l : List (ℕ × ℕ)) → m ≡ (v, l) → v ≡ v' → l ≡ [] → m ≡ (v', [])
me_is m v v' l e f g = let A : Me ℕ View = (v, l) in let B : Me ℕ View = (v', l) in let C : Me ℕ View = (v', []) in
    let p : A ≡ B = ap (λ (x : View). let y : Me ℕ View = (x, l) in y) f in
    let q : B ≡ C = ap (λ (x : List (ℕ × ℕ)). let y : Me ℕ View = (v', x) in y) g in e ∙ (p ∙ q)

pub upto : {A : Type 0} (xs : List A) (f : ℕ → A) (n m : ℕ) → n ≡ m → ((k : ℕ) → k < n → slice_get xs k ≡ Some (f k)) → (k : ℕ) → k < m → slice_get xs k ≡ Some (f k)
upto xs f n m e all k lt = all k (omega arith)

pub blank_is : (n m k l : ℕ) → n ≡ m → k ≡ l → (let v : View = record { seen = 0; offer = 0; seats = count_from n k } in v) ≡ record { seen = 0; offer = 0; seats = count_from m l }
blank_is n m k l e f = rw (e, f) refl

get_last : (ys : List Held) (x : Held) → slice_get (ys ++ x ∷ []) (length ys) ≡ Some x
get_last [] x = refl
get_last (y ∷ ys) x = get_last ys x

get_before : (ys : List Held) (x : Held) (k : ℕ) → k < length ys → slice_get (ys ++ x ∷ []) k ≡ slice_get ys k
get_before [] x k lt = absurd (omega arith)
get_before (y ∷ ys) x zero lt = refl
get_before (y ∷ ys) x (suc k) lt = get_before ys x k (omega arith)

-- the seat that is taken from the end of a list of new seats
pub popped : (s : Shown) (n : ℕ) (xs ys : List Held) (x : Held) → length xs ≡ n + 1 → ((k : ℕ) → k < n + 1 → slice_get xs k ≡ Some (new_seat s k)) → xs ≡ ys ++ x ∷ []
    → (x ≡ new_seat s n) × (length ys ≡ n) × ((k : ℕ) → k < n → slice_get ys k ≡ Some (new_seat s k))
popped s n xs ys x len each is =
    let short : length ys ≡ n = omega (arith, ap length is, len, length-append ys (x ∷ [])) in
    let at : (k : ℕ) → k < n + 1 → slice_get (ys ++ x ∷ []) k ≡ Some (new_seat s k) = λ k lt. ap (λ (l : List Held). slice_get l k) (sym is) ∙ each k lt in
    let top : slice_get (ys ++ x ∷ []) (length ys) ≡ Some x = get_last ys x in
    let h : Some x ≡ Some (new_seat s n) = sym top ∙ (ap (slice_get (ys ++ x ∷ [])) short ∙ at n (omega arith)) in
    (cc, short, λ k lt. sym (get_before ys x k (omega (arith, short, lt))) ∙ at k (omega arith))

below_four : (k : ℕ) → k < 4 → Contains (0 ∷ 1 ∷ 2 ∷ 3 ∷ []) k
below_four zero h = (0, omega arith, refl)
below_four (suc zero) h = (1, omega arith, refl)
below_four (suc (suc zero)) h = (2, omega arith, refl)
below_four (suc (suc (suc zero))) h = (3, omega arith, refl)
below_four (suc (suc (suc (suc k)))) h = absurd (omega arith)

-- four seats, joined one after another, are all
pub four_have_all : (s : Shown) (o t h f ks : List ℕ) → s.seats ≡ 4 → o ≡ 0 ∷ [] → t ≡ 1 ∷ [] → h ≡ 2 ∷ [] → f ≡ 3 ∷ [] → ks ≡ ((o ++ t) ++ h) ++ f → (k : ℕ) → k < s.seats → Contains ks k
four_have_all s o t h f ks four a b c d is k lt =
    let all : ks ≡ 0 ∷ 1 ∷ 2 ∷ 3 ∷ [] = rw (is, a, b, c, d) refl in
    subst (λ (l : List ℕ). Contains l k) (sym all) (below_four k (omega arith))

-- the four seats that are taken from the end of a list of four
pub record Four (s : Shown) (a b c d : Held) : Type 0 where
  pub first : a ≡ new_seat s 0
  pub second : b ≡ new_seat s 1
  pub third : c ≡ new_seat s 2
  pub fourth : d ≡ new_seat s 3

pub four : (s : Shown) (xs l3 l2 l1 l0 : List Held) (a b c d : Held) → length xs ≡ 4 → ((k : ℕ) → k < 4 → slice_get xs k ≡ Some (new_seat s k))
    → xs ≡ l3 ++ d ∷ [] → l3 ≡ l2 ++ c ∷ [] → l2 ≡ l1 ++ b ∷ [] → l1 ≡ l0 ++ a ∷ [] → Four s a b c d
four s xs l3 l2 l1 l0 a b c d len each e f g h =
    let p = popped s 3 xs l3 d len each e in
    let q = popped s 2 l3 l2 c p.1 p.2 f in
    let r = popped s 1 l2 l1 b q.1 q.2 g in
    let t = popped s 0 l1 l0 a r.1 r.2 h in
    record { first = t.0; second = r.0; third = q.0; fourth = p.0 }
