-- Marks: which literals are taken to be false.
use Rattle.std.specs.Prelude.{Bool, true, false, not, List, [], ◌∷◌, get_or, set}
use Rattle.td_propagation.specs.declared.literal.Literal.{Literal}
use Rattle.td_propagation.specs.declared.denied.Mark.{Mark}
use Rattle.td_propagation.specs.declared.denied.Mark.TheVariants.{Neither, Negative, Positive, Both}

abbrev pub no_mark : Mark
no_mark = Neither

-- whether the literal with this sign is taken to be false
abbrev pub mark_of : Mark → Bool → Bool
mark_of Neither positive = false
mark_of Negative positive = not positive
mark_of Positive positive = positive
mark_of Both positive = true

-- with the literal of this sign too
abbrev pub with_mark : Mark → Bool → Mark
with_mark Neither true = Positive
with_mark Neither false = Negative
with_mark Negative true = Both
with_mark Negative false = Negative
with_mark Positive true = Positive
with_mark Positive false = Both
with_mark Both positive = Both

-- whether the literal is taken to be false
abbrev pub is_denied : List Mark → Literal → Bool
is_denied marks literal = mark_of (get_or marks literal.variable no_mark) literal.positive

-- the marks with a literal taken to be false, where there is such a variable
abbrev pub denied : List Mark → Literal → List Mark
denied marks literal = set marks literal.variable (with_mark (get_or marks literal.variable no_mark) literal.positive)

-- the marks with all literals of a clause taken to be false
abbrev pub all_denied : List Mark → List Literal → List Mark
all_denied marks [] = marks
all_denied marks (literal ∷ clause) = all_denied (denied marks literal) clause
