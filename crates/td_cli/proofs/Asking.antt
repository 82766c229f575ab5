-- What is said of options by name.
use Rattle.std.proofs.Common.{◌≡◌, ◌∙◌, List, [], ◌∷◌, map, refl, ap}
use Rattle.json.specs.Json.{Json, Items, item}
use Rattle.td_lines.specs.Values.{items_by}

-- the items of mapped values
pub items_of_map : {A B : Type 0} (value : B → Json) (to : A → B) (rows : List A) → items_by (λ row. value (to row)) rows ≡ items_by value (map to rows)
items_of_map value to [] = refl
items_of_map value to (row ∷ rows) = ap (λ (items : Items). item (value (to row)) items) (items_of_map value to rows)
