-- Decks that get the others' deques one after another.
use Rattle.std.proofs.Common.{◌≡◌, ◌≢◌, ◌⊎◌, ℕ, zero, suc, ◌+◌, ◌<◌, List, [], ◌∷◌, ◌++◌, length, map, take, drop, set, get_or, refl, sym, ap, ◌∙◌, inl, inr, ⊎_elim, arith}
use Rattle.std.specs.Prelude.{slice_get, Some}
use Rattle.std.proofs.lemmas.List.{drop-map, take-map}
use Rattle.std.proofs.lemmas.Option.{slice_get-get_or}
use Rattle.td_pool.specs.Fair.{Port, DequePorts, fresh, fresh_other, ring}

at_set : (seats : List DequePorts) (k j : ℕ) (t s : DequePorts) → slice_get (set seats k t) j ≡ Some s → ((j ≡ k) × (t ≡ s)) ⊎ ((j ≢ k) × (slice_get seats j ≡ Some s))
at_set [] k j t s e = cc
at_set (x ∷ xs) zero zero t s e = let f : t ≡ s = cc in inl (refl, f)
at_set (x ∷ xs) zero (suc j) t s e = inr ((λ (h : suc j ≡ 0). omega arith), e)
at_set (x ∷ xs) (suc k) zero t s e = inr ((λ (h : 0 ≡ suc k). omega arith), e)
at_set (x ∷ xs) (suc k) (suc j) t s e = ⊎_elim
    (λ (h : (j ≡ k) × (t ≡ s)). inl (ap suc h.0, h.1))
    (λ (h : (j ≢ k) × (slice_get xs j ≡ Some s)). inr ((λ (q : suc j ≡ suc k). h.0 (omega arith)), h.1))
    (at_set xs k j t s e)

same_ports : (seats : List DequePorts) (k : ℕ) (u t : DequePorts) → slice_get seats k ≡ Some u → t.own ≡ u.own → map fresh_other (set seats k t) ≡ map fresh_other seats
same_ports [] k u t at own = refl
same_ports (x ∷ xs) zero u t at own =
    let e : x ≡ u = cc in
    ap (λ (p : Port). fresh p.deque ∷ map fresh_other xs) (own ∙ ap (λ (s : DequePorts). s.own) (sym e))
same_ports (x ∷ xs) (suc k) u t at own = ap (λ (l : List Port). fresh_other x ∷ l) (same_ports xs k u t at own)

by_ports : (seats : List DequePorts) (j : ℕ) → ring seats j ≡ drop (j + 1) (map fresh_other seats) ++ take j (map fresh_other seats)
by_ports seats j = sym (ap (λ (l : List Port). l ++ take j (map fresh_other seats)) (drop-map fresh_other (j + 1) seats)
    ∙ ap (λ (l : List Port). map fresh_other (drop (j + 1) seats) ++ l) (take-map fresh_other j seats))

ring_same : (seats : List DequePorts) (k j : ℕ) (u t : DequePorts) → slice_get seats k ≡ Some u → t.own ≡ u.own → ring (set seats k t) j ≡ ring seats j
ring_same seats k j u t at own =
    by_ports (set seats k t) j
    ∙ (ap (λ (l : List Port). drop (j + 1) l ++ take j l) (same_ports seats k u t at own) ∙ sym (by_ports seats j))

module _ (seats : List DequePorts) (k : ℕ) (u t : DequePorts) (low : k < length seats) (is : u ≡ get_or seats k u) (own : t.own ≡ u.own) (others : t.others ≡ ring seats k) where
  at : slice_get seats k ≡ Some u
  at = slice_get-get_or seats k u low ∙ ap Some (sym is)

  pub own_after : ((j : ℕ) (s : DequePorts) → slice_get seats j ≡ Some s → s.own ≡ fresh s.own.deque) → (j : ℕ) (s : DequePorts) → slice_get (set seats k t) j ≡ Some s → s.own ≡ fresh s.own.deque
  own_after all j s h = ⊎_elim
      (λ (e : (j ≡ k) × (t ≡ s)).
      let o : u.own ≡ s.own = sym own ∙ ap (λ (x : DequePorts). x.own) e.1 in
      sym o ∙ (all k u at ∙ ap (λ (p : Port). fresh p.deque) o))
      (λ (e : (j ≢ k) × (slice_get seats j ≡ Some s)). all j s e.1)
      (at_set seats k j t s h)

  pub others_after : ((j : ℕ) (s : DequePorts) → j < k → slice_get seats j ≡ Some s → s.others ≡ ring seats j)
      → (j : ℕ) (s : DequePorts) → j < k + 1 → slice_get (set seats k t) j ≡ Some s → s.others ≡ ring (set seats k t) j
  others_after all j s lt h = ⊎_elim
      (λ (e : (j ≡ k) × (t ≡ s)). ap (λ (x : DequePorts). x.others) (sym e.1) ∙ (others ∙ (ap (ring seats) (sym e.0) ∙ sym (ring_same seats k j u t at own))))
      (λ (e : (j ≢ k) × (slice_get seats j ≡ Some s)). let ne = e.0 in all j s (omega arith) e.1 ∙ sym (ring_same seats k j u t at own))
      (at_set seats k j t s h)
