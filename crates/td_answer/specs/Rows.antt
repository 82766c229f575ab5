-- Lines of several rows.
use Rattle.std.specs.Prelude.{◌≡◌, ◌≢◌, ◌⊎◌, List, [], ◌∷◌}
use Rattle.std.specs.Global.{Vec}
use Rattle.td_lines.specs.declared.line.Line.{Line}

-- a line of this kind has these rows, and there is none where there are no rows
abbrev pub HasRows : {A : Type 0} → (Vec A → Line) → List A → List Line → Type 0
HasRows {A} told rows lines = ((rows ≡ []) × (lines ≡ [])) ⊎ ((all : Vec A) × (rows ≢ []) × (all.items ≡ rows) × (lines ≡ told all ∷ []))
