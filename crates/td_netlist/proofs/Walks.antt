-- Walking through a list member by member, as a loop does.
use Rattle.std.proofs.Common.{◌≡◌, ℕ, zero, suc, ◌+◌, ◌<◌, ◌≤◌, List, [], ◌∷◌, arith, length, map, get_or, drop, Option, None, Some, Result, Ok, Err, sym, ap, subst, ◌∙◌, add-one, drop-cons}
use Rattle.std.specs.Prelude.{MatchOption}
use Rattle.std.specs.List.{AllByRecursion}
use Rattle.std.proofs.lemmas.List.{drop_all}
use Rattle.td_netlist.specs.declared.fault.FaultKind.{FaultKind}
use Rattle.td_netlist.specs.declared.fault.Fault.{Fault}
use Rattle.td_netlist.specs.Faults.{fault, reported, Fails, ◌>>=◌}
use Rattle.td_netlist.specs.Checks.{each}

module _ {S A X : Type 0} (step : S → A → Result S Fault) (view : X → A) (xs : List X) (i : ℕ) (d : X) (s : S) (total : Result S Fault) where
  here : i < length xs → each step s (map view (drop i xs)) ≡ total → (step s (view (get_or xs i d)) >>= λ t. each step t (map view (drop (suc i) xs))) ≡ total
  unfolding each
  here lt so_far = ap (λ (ys : List X). each step s (map view ys)) (sym (drop-cons xs i d lt)) ∙ so_far

  pub goes : (t : S) → i < length xs → step s (view (get_or xs i d)) ≡ Ok t → each step s (map view (drop i xs)) ≡ total → each step t (map view (drop (i + 1) xs)) ≡ total
  goes t lt e so_far =
      let h = here lt so_far in
      rw add-one (ap (λ (r : Result S Fault). r >>= λ u. each step u (map view (drop (suc i) xs))) (sym e) ∙ h)

  fails_by : (k : Option FaultKind) (line : ℕ) → i < length xs → MatchOption k (Unit {0}) (λ kind. step s (view (get_or xs i d)) ≡ Err (fault kind line)) → each step s (map view (drop i xs)) ≡ total → MatchOption k (Unit {0}) (λ kind. total ≡ Err (fault kind line))
  fails_by None line lt e so_far = tt
  fails_by (Some kind) line lt e so_far =
      let h = here lt so_far in
      sym h ∙ ap (λ (r : Result S Fault). r >>= λ u. each step u (map view (drop (suc i) xs))) e

  pub fails : (e : Fault) → i < length xs → Fails e (step s (view (get_or xs i d))) → each step s (map view (drop i xs)) ≡ total → Fails e total
  fails e lt h so_far = fails_by (reported e.kind) e.line lt h so_far

pub ends : {S A X : Type 0} (step : S → A → Result S Fault) (view : X → A) (xs : List X) (i : ℕ) (s : S) (total : Result S Fault) → length xs ≤ i → each step s (map view (drop i xs)) ≡ total → total ≡ Ok s
unfolding each
ends {X = X} step view xs i s total le so_far = sym so_far ∙ ap (λ (ys : List X). each step s (map view ys)) (drop_all i xs le)

-- what holds of each member of a list, holds of the one at this place
pub at_place : {A X : Type 0} (P : A → Type 0) (view : X → A) (xs : List X) (i : ℕ) (d : X) → AllByRecursion P (map view xs) → i < length xs → P (view (get_or xs i d))
at_place P view [] i d all lt = absurd (omega (arith, lt))
at_place P view (x ∷ xs) zero d all lt = all.0
at_place P view (x ∷ xs) (suc i) d all lt = at_place P view xs i d all.1 (omega (arith, lt))

-- ---- a fault in the middle

fails_on : {A B : Type 0} (o : Option FaultKind) (line : ℕ) (r : Result A Fault) (f : A → Result B Fault) → MatchOption o (Unit {0}) (λ k. r ≡ Err (fault k line)) → MatchOption o (Unit {0}) (λ k. (r >>= f) ≡ Err (fault k line))
fails_on None line r f e = tt
fails_on (Some k) line r f e = ap (λ (x : Result _ Fault). x >>= f) e

pub fails_behind : {A B : Type 0} (e : Fault) (r : Result A Fault) (f : A → Result B Fault) → Fails e r → Fails e (r >>= f)
fails_behind e r f fails = fails_on (reported e.kind) e.line r f fails

pub fails_as : {A : Type 0} (e : Fault) (r s : Result A Fault) → r ≡ s → Fails e r → Fails e s
fails_as e r s same fails = subst (λ (x : Result _ Fault). Fails e x) same fails
