-- A direction is found by the name alone.
use Rattle.std.proofs.Common.{◌≡◌, ℕ, Bool, true, false, cond, List, [], ◌∷◌, map, Option, None, Some, refl, sym, ap, Bor}
use Rattle.std.specs.Prelude.{find}
use Rattle.std.specs.Map.{lookup}
use Rattle.std.specs.Str.{bytes_eq}
use Rattle.std.specs.Cmp.Lexicographic.{same_text}
use Rattle.td_netlist.specs.declared.name_ref.Direction.{Direction}
use Rattle.td_netlist.specs.Module.{Declared}
use Rattle.td_netlist.specs.NameViews.{declared_of, found_of}

pub found_in : (w : List ℕ) (es : List (Bor (List ℕ) × Direction)) → found_of w (lookup (λ (k : Bor (List ℕ)). bytes_eq w k.now) es) ≡ find (λ (d : Declared). bytes_eq w d.name.name) (map declared_of es)
found_in w [] = refl
found_in w (e ∷ es) = by (bytes_eq w e.0.now) refl (found_in w es)
  where
    by : (b : Bool) → bytes_eq w e.0.now ≡ b
        → found_of w (lookup (λ (k : Bor (List ℕ)). bytes_eq w k.now) es) ≡ find (λ (d : Declared). bytes_eq w d.name.name) (map declared_of es)
        → found_of w (cond b (Some e.1) (lookup (λ (k : Bor (List ℕ)). bytes_eq w k.now) es)) ≡ cond b (Some (declared_of e)) (find (λ (d : Declared). bytes_eq w d.name.name) (map declared_of es))
    by true is rest =
        let same : w ≡ e.0.now = same_text w e.0.now (sym is) in
        ap (λ (t : List ℕ). Some (record { role = e.1.role; range = e.1.range; name = record { name = t; line = e.1.line } })) same
    by false is rest = rest

pub none_found : (w : List ℕ) (o : Option Direction) → found_of w o ≡ None → o ≡ None
none_found w None e = refl
none_found w (Some d) e = absurd cc
