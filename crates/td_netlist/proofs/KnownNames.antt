-- What is known of a name is found by the name alone.
use Rattle.std.proofs.Common.{◌≡◌, ℕ, ◌+◌, Bool, true, false, cond, List, [], ◌∷◌, ◌++◌, map, Option, None, Some, refl, sym, ap, ◌≤◌, Ok, Bor, arith, subst}
use Rattle.std.specs.Prelude.{is_some, IfSome}
use Rattle.std.specs.Map.{lookup}
use Rattle.std.specs.Str.{bytes_eq}
use Rattle.std.specs.Cmp.Lexicographic.{same_text}
use Rattle.td_netlist.specs.declared.ranges.Range.{Range}
use Rattle.td_netlist.specs.Checks.{Known, known, nets_known, know}
use Rattle.std.proofs.lemmas.Bool.{le-ltb}
use Rattle.std.proofs.lemmas.List.Sums.{sum_by-cons}
use Rattle.td_syntax.specs.Grammar as grammar
use Rattle.td_netlist.specs.Ranges.{width_of, IsLimited}
use Rattle.td_netlist.specs.KnownViews.{known_of, known_as, AreLimited}

pub known_in : (w : List ℕ) (es : List (Bor (List ℕ) × Option Range)) → known_as w (lookup (λ (k : Bor (List ℕ)). bytes_eq w k.now) es) ≡ known (map known_of es) w
known_in w [] = refl
known_in w (e ∷ es) = by (bytes_eq w e.0.now) refl (known_in w es)
  where
    by : (b : Bool) → bytes_eq w e.0.now ≡ b
        → known_as w (lookup (λ (k : Bor (List ℕ)). bytes_eq w k.now) es) ≡ known (map known_of es) w
        → known_as w (cond b (Some e.1) (lookup (λ (k : Bor (List ℕ)). bytes_eq w k.now) es)) ≡ cond b (Some (known_of e)) (known (map known_of es) w)
    by true is rest =
        let same : w ≡ e.0.now = same_text w e.0.now (sym is) in
        ap (λ (t : List ℕ). Some (record { text = t; range = e.1 })) same
    by false is rest = rest

pub none_known : (w : List ℕ) (o : Option (Option Range)) → known_as w o ≡ None → o ≡ None
none_known w None e = refl
none_known w (Some r) e = absurd cc

pub none_of : {X : Type 0} (o : Option X) → is_some o ≡ false → o ≡ None
none_of None e = refl
none_of (Some x) e = absurd cc

pub nets_more : (ks : List Known) (k : Known) → nets_known (ks ++ k ∷ []) ≡ nets_known ks + width_of k.range
nets_more [] k = refl
nets_more (j ∷ ks) k = omega (arith, sum_by-cons (λ (i : Known). width_of i.range) j ks, sum_by-cons (λ (i : Known). width_of i.range) j (ks ++ k ∷ []), nets_more ks k)

pub know_new : (ks : List Known) (n : grammar.Name) (range : Option Range) → known ks n.name ≡ None → nets_known ks + width_of range ≤ 1000000 → know ks n range ≡ Ok (ks ++ record { text = n.name; range = range } ∷ [])
unfolding know
know_new ks n range none le = rw (none, le-ltb 1000000 (nets_known ks + width_of range) le) refl

limited_by : (ks : List Known) (w : List ℕ) (k : Known) → AreLimited ks → known ks w ≡ Some k → IsLimited k.range
limited_by [] w k all e = absurd cc
limited_by (j ∷ ks) w k all e = by (bytes_eq w j.text) (limited_by ks w k all.1) e
  where
    by : (b : Bool) → (known ks w ≡ Some k → IsLimited k.range) → cond b (Some j) (known ks w) ≡ Some k → IsLimited k.range
    by true rest e = let same : j ≡ k = cc in subst (λ (i : Known). IsLimited i.range) same all.0
    by false rest e = rest e

pub limited_found : (ks : List Known) (w : List ℕ) (o : Option (Option Range)) → AreLimited ks → known_as w o ≡ known ks w → IfSome o IsLimited
limited_found ks w None all e = tt
limited_found ks w (Some range) all e = limited_by ks w (record { text = w; range = range }) all (sym e)

pub limited_push : (ks : List Known) (k : Known) → AreLimited ks → IsLimited k.range → AreLimited (ks ++ k ∷ [])
limited_push [] k all more = (more, tt)
limited_push (j ∷ ks) k all more = (all.0, limited_push ks k all.1 more)
