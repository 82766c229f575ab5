-- The names by which an input is called.
use Rattle.std.specs.Prelude.{ℕ, List, Bool, false, ◌||◌, Option, None, Some, option_map}
use Rattle.std.specs.Str.{bytes_eq}
use Rattle.td_nets.specs.Netlist.{Name}
use Rattle.td_nets.specs.Printed.{printed}
use Rattle.td_inputs.specs.declared.labels.Label.{Label as CodeLabel}

-- the printed name of an input, and that of the vector whose bit it is, if it is one
pub record Label : Type 0 where
  pub name : List ℕ
  pub vector : Option (List ℕ)

abbrev pub label_in : CodeLabel → Label
label_in label = record { name = label.name.items; vector = option_map (λ vector. vector.items) label.vector }

-- the name of a vector
abbrev pub vector_name : List ℕ → Name
vector_name text = record { text = text; bit = None }

abbrev pub vector_of : List ℕ → Option ℕ → Option (List ℕ)
vector_of text None = None
vector_of text (Some bit) = Some (printed (vector_name text))

abbrev pub label_of : Name → Label
label_of name = record { name = printed name; vector = vector_of name.text name.bit }

abbrev pub is_vector : List ℕ → Option (List ℕ) → Bool
is_vector word None = false
is_vector word (Some vector) = bytes_eq vector word

-- the word is the input's name, or that of the vector whose bit it is
abbrev pub is_named : List ℕ → Label → Bool
is_named word label = bytes_eq label.name word || is_vector word label.vector
