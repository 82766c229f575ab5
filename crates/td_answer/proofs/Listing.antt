-- Lines of several rows.
use Rattle.std.proofs.Common.{◌≡◌, ◌≢◌, ◌∙◌, ◌+◌, ℕ, arith, List, [], ◌∷◌, ◌++◌, drop, length, refl, sym, ap, inl, inr, append_assoc, Some}
use Rattle.std.specs.Prelude.{slice_get}
use Rattle.std.specs.Global.{Vec}
use Rattle.td_nets.specs.Netlist.{Name}
use Rattle.td_lines.specs.declared.line.Place.{Place}
use Rattle.td_lines.specs.declared.line.Line.{Line}
use Rattle.td_answer.specs.Names.{label}
use Rattle.td_answer.specs.Rows.{HasRows}
use Rattle.td_answer.specs.Infos.{places_from}
use Rattle.td_answer.specs.Additions.{AddsLines}
use Rattle.td_answer.proofs.Adding.{nothing, drop_next}

pub no_rows : {A : Type 0} (rows : List A) → length rows ≡ 0 → rows ≡ []
no_rows [] none = refl
no_rows (row ∷ rows) none = absurd (omega (arith, none))

module _ {A : Type 0} (told : Vec A → Line) where
  -- there are no rows
  pub none : (rows : List A) (now : List Line) → length rows ≡ 0 → AddsLines (HasRows told rows) now now
  none rows now empty = nothing (HasRows told rows) now (inl (no_rows rows empty, refl))

  -- there are
  pub some : (rows : Vec A) (old new : List Line) → length rows.items ≢ 0 → new ≡ old ++ told rows ∷ [] → AddsLines (HasRows told rows.items) old new
  some rows old new full added = (told rows ∷ [], added, inr (rows, λ empty. full (ap (λ (r : List A). length r) empty), refl, refl))

-- the place of one more net
pub place_more : (names : List Name) (i : ℕ) (name : Name) (places new : List Place) (row : Place)
    → places ++ places_from i (drop i names) ≡ places_from 0 names → slice_get names i ≡ Some name
    → row ≡ record { place = i; net = label name } → new ≡ places ++ row ∷ [] → new ++ places_from (i + 1) (drop (i + 1) names) ≡ places_from 0 names
place_more names i name places new row so_far at is added =
    ap (λ (ps : List Place). ps ++ places_from (i + 1) (drop (i + 1) names)) (added ∙ ap (λ (p : Place). places ++ p ∷ []) is)
    ∙ append_assoc places (record { place = i; net = label name } ∷ []) (places_from (i + 1) (drop (i + 1) names))
    ∙ ap (λ (n : List Name). places ++ places_from i n) (sym (drop_next names i name at)) ∙ so_far
