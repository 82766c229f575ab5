-- Conditions: which pairs are asked about, by what is admitted and by settled levels of nets.
use Rattle.std.specs.Prelude.{◌≡◌, ℕ, ◌+◌, ◌<◌, ◌==◌, Bool, true, false, not, ◌&&◌, ◌||◌, List, [], ◌∷◌, length, map, slice_get, Option, Some, None}
use Rattle.td_gates.specs.Known.{Agrees}
use Rattle.td_gates.specs.Table.{table, level_eq, level_from}
use Rattle.td_circuit.specs.Numbering.{Numbered}
use Rattle.td_domain.specs.Pairs.{Pair}
use Rattle.td_domain.specs.Admits.{Admitted, IsAdmitted}
use Rattle.td_propagation.specs.declared.literal.Literal.{Literal}
use Rattle.td_spans.specs.declared.condition.Form.{Form}
use Rattle.td_spans.specs.declared.condition.Form.TheVariants.{Levels, Equal}
use Rattle.td_spans.specs.declared.condition.Condition.{Condition}
use Rattle.td_spans.specs.declared.variable.Variable.{Variable}
use Rattle.td_spans.specs.declared.variable.Variable.TheVariants.{First, Last, Span, Flips}
use Rattle.td_spans.specs.Lookups.{IsDriven, driver}
use Rattle.td_spans.specs.Clauses.{level_is}

-- the pairs that are asked about: admitted ones that keep these conditions
pub record Asked : Type 0 where
  pub admit : Admitted
  pub keep : List Condition

-- the levels that the tables give each net under a vector
pub record AreSettled (circuit : Numbered) (vector : List Bool) (levels : ℕ → Bool) : Type 0 where
  pub low : levels 0 ≡ false
  pub high : levels 1 ≡ true
  pub inputs : (i : ℕ) (bit : Bool) → i < length circuit.netlist.inputs → slice_get vector i ≡ Some bit → levels (2 + i) ≡ bit
  pub gates : (net : ℕ) → IsDriven circuit net
      → table (driver circuit net).kind (map (λ n. level_from (levels n)) (driver circuit net).inputs) ≡ level_from (levels net)

-- the settled levels of a net under the first and the second vector are as a condition has them
abbrev pub Keeps : Form → Bool → Bool → Type 0
Keeps (Levels first second) before after = Agrees first (level_from before) × Agrees second (level_from after)
Keeps Equal before after = before ≡ after

-- the pair keeps all conditions
abbrev pub IsKept : Numbered → List Condition → Pair → Type 0
IsKept circuit keep pair = (before after : ℕ → Bool) → AreSettled circuit pair.first before → AreSettled circuit pair.second after
    → (i : ℕ) (condition : Condition) → slice_get keep i ≡ Some condition → Keeps condition.form (before condition.net) (after condition.net)

-- the pair is one of those asked about
pub record IsAskedFor (circuit : Numbered) (asked : Asked) (pair : Pair) : Type 0 where
  pub admitted : IsAdmitted asked.admit pair
  pub kept : IsKept circuit asked.keep pair

-- whether a condition asks for a level, at the start or in the end
abbrev pub form_asks : Form → Bool → Bool → Bool
form_asks (Levels first second) false level = level_eq (level_from level) first
form_asks (Levels first second) true level = level_eq (level_from level) second
form_asks Equal last level = false

abbrev pub is_equal : Form → Bool
is_equal (Levels first second) = false
is_equal Equal = true

-- whether some condition asks for a net's level
abbrev pub asks_level : List Condition → ℕ → Bool → Bool → Bool
asks_level [] net last level = false
asks_level (condition ∷ keep) net last level = (condition.net == net && form_asks condition.form last level) || asks_level keep net last level

-- whether some condition asks that a net's levels be equal
abbrev pub asks_equal : List Condition → ℕ → Bool
asks_equal [] net = false
asks_equal (condition ∷ keep) net = (condition.net == net && is_equal condition.form) || asks_equal keep net

-- whether a literal with a sign and a variable says what a condition asks
abbrev pub keeps_one : List Condition → Bool → Option Variable → Bool
keeps_one keep positive None = false
keeps_one keep positive (Some (First net)) = asks_level keep net false positive
keeps_one keep positive (Some (Last net)) = asks_level keep net true positive
keeps_one keep positive (Some (Span saying)) = false
keeps_one keep positive (Some (Flips inputs count)) = false

-- whether a variable is of the end of a net
abbrev pub is_last_of : ℕ → Option Variable → Bool
is_last_of net None = false
is_last_of net (Some (First other)) = false
is_last_of net (Some (Last other)) = other == net
is_last_of net (Some (Span saying)) = false
is_last_of net (Some (Flips inputs count)) = false

-- whether two literals say that a net starts and ends at one level, as a condition asks
abbrev pub keeps_two : List Condition → Bool → Option Variable → Bool → Option Variable → Bool
keeps_two keep one None two other = false
keeps_two keep one (Some (First net)) two other = is_last_of net other && (level_is one (not two) && asks_equal keep net)
keeps_two keep one (Some (Last net)) two other = false
keeps_two keep one (Some (Span saying)) two other = false
keeps_two keep one (Some (Flips inputs count)) two other = false

-- Whether it is a clause of a condition.
abbrev pub is_keep_clause : List Condition → List Variable → List Literal → Bool
is_keep_clause keep variables [] = false
is_keep_clause keep variables (one ∷ []) = keeps_one keep one.positive (slice_get variables one.variable)
is_keep_clause keep variables (one ∷ two ∷ []) =
    keeps_two keep one.positive (slice_get variables one.variable) two.positive (slice_get variables two.variable)
is_keep_clause keep variables (one ∷ two ∷ more ∷ clause) = false
