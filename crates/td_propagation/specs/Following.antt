-- Following: when hints show a clause.
use Rattle.std.specs.Prelude.{ℕ, Bool, List, [], ◌∷◌, slice_get, replicate, Option, Some, None}
use Rattle.std.specs.List.{All}
use Rattle.td_propagation.specs.declared.literal.Literal.{Literal}
use Rattle.td_propagation.specs.declared.left.Left.{Left}
use Rattle.td_propagation.specs.declared.left.Left.TheVariants.{Nothing, One, Several}
use Rattle.td_propagation.specs.declared.denied.Mark.{Mark}
use Rattle.td_propagation.specs.declared.clauses.Outcome.{Outcome}
use Rattle.td_propagation.specs.declared.clauses.Outcome.TheVariants.{Shown, NoSuchHint, HintOpen, NotShown}
use Rattle.td_propagation.specs.Literals.{negation, IsTrueUnder}
use Rattle.td_propagation.specs.Marks.{no_mark, denied, all_denied}
use Rattle.td_propagation.specs.Propagating.{left_of}

-- what a hint leaves, if it is a clause's
abbrev pub hint_left : List Mark → Option (List Literal) → Option Left
hint_left marks None = None
hint_left marks (Some clause) = Some (left_of marks clause)

-- The one literal that a hint leaves is taken to be true.
abbrev pub marks_after : List Mark → Option Left → List Mark
marks_after marks None = marks
marks_after marks (Some Nothing) = marks
marks_after marks (Some (One literal)) = denied marks (negation literal)
marks_after marks (Some Several) = marks

abbrev pub follow_at : Option Left → Outcome → Outcome
follow_at None rest = NoSuchHint
follow_at (Some Nothing) rest = Shown
follow_at (Some (One literal)) rest = rest
follow_at (Some Several) rest = HintOpen

-- Where hints, which are numbers of clauses, lead, with these literals taken to be false: the first
-- that leaves nothing shows it, and each before leaves one.
abbrev pub follow : List (List Literal) → List Mark → List ℕ → Outcome
follow clauses marks [] = NotShown
follow clauses marks (hint ∷ hints) =
    follow_at (hint_left marks (slice_get clauses hint))
    (follow clauses (marks_after marks (hint_left marks (slice_get clauses hint))) hints)

-- where hints lead when the literals are taken to be false
abbrev pub shown_by : List (List Literal) → ℕ → List Literal → List ℕ → Outcome
shown_by clauses variables literals hints = follow clauses (all_denied (replicate variables no_mark) literals) hints

-- all clauses are true
abbrev pub AreTrue : (ℕ → Bool) → List (List Literal) → Type 0
AreTrue valuation clauses = All (IsTrueUnder valuation) clauses
