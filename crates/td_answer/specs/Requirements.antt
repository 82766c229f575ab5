-- A required moment, and what is known of it.
use Rattle.std.specs.Prelude.{◌≡◌, ℕ, ◌<◌, nat_lt, nat_le, ◌||◌, Bool, true, false, cond, List, [], ◌∷◌, Option, Some, None, IfSome}
use Rattle.td_lines.specs.declared.line.Found.{Found}
use Rattle.td_lines.specs.declared.line.Found.TheVariants as found
use Rattle.td_lines.specs.declared.line.Requirement.{Requirement}
use Rattle.td_lines.specs.declared.line.Standing.{Standing}
use Rattle.td_lines.specs.declared.line.Standing.TheVariants.{Met, Violated, Open}
use Rattle.td_lines.specs.declared.line.Line.{Line}
use Rattle.td_lines.specs.declared.line.Line.TheVariants as line
use Rattle.td_lines.specs.declared.line.Cause.{Cause}
use Rattle.td_lines.specs.declared.line.Cause.TheVariants as why
use Rattle.td_answer.specs.declared.status.Status.{Status}
use Rattle.td_answer.specs.declared.status.Status.TheVariants as status

-- ---- by two figures: a pair has the lower one, and none is later than the upper one

abbrev pub standing_of : ℕ → ℕ → ℕ → Standing
standing_of moment low high = cond (nat_le high moment) Met (cond (nat_lt moment low) Violated Open)

-- whether a moment is required, and they decide whether it is met
abbrev pub is_decided : Option ℕ → ℕ → ℕ → Bool
is_decided None low high = false
is_decided (Some moment) low high = nat_le high moment || nat_lt moment low

-- the line of a required moment, if there is one
abbrev pub required_lines : Option ℕ → ℕ → ℕ → List Line
required_lines None low high = []
required_lines (Some moment) low high = line.Required moment (standing_of moment low high) ∷ []

-- why figures are open: what was asked of a required moment is answered, or else why the search ended
abbrev pub cause_by : Option ℕ → ℕ → ℕ → Cause → Cause
cause_by required low high found = cond (is_decided required low high) why.Required found

abbrev pub ending_of_standing : Standing → Status
ending_of_standing Met = status.Done
ending_of_standing Violated = status.Violated
ending_of_standing Open = status.Between

-- how a search ends: as its figures say, or as a required moment stands
abbrev pub ending_by : Option ℕ → Status → ℕ → ℕ → Status
ending_by None plain low high = plain
ending_by (Some moment) plain low high = ending_of_standing (standing_of moment low high)

-- ---- by what is found of an output

abbrev pub standing_by : ℕ → Found → Standing
standing_by moment (found.Exact time) = standing_of moment time time
standing_by moment (found.Between low high) = standing_of moment low high
standing_by moment (found.AtMost high) = standing_of moment 0 high
standing_by moment found.NoPair = Met

-- how a required moment stands, if there is one
abbrev pub requirement_of : Option ℕ → Found → Option Requirement
requirement_of None known = None
requirement_of (Some moment) known = Some (record { moment = moment; standing = standing_by moment known })

-- ---- by a bound alone

-- no pair is later than the bound, if there is one; a pair that is later than the moment it can't show
abbrev pub bound_standing : ℕ → Option ℕ → Standing
bound_standing moment None = Open
bound_standing moment (Some bound) = cond (nat_le bound moment) Met Open

abbrev pub met_lines : Option ℕ → Option ℕ → List Line
met_lines None bound = []
met_lines (Some moment) bound = line.Required moment (bound_standing moment bound) ∷ []

abbrev pub met_ending : Option ℕ → Option ℕ → Status
met_ending None bound = status.Done
met_ending (Some moment) bound = ending_of_standing (bound_standing moment bound)

-- ---- what is true of it

-- It is met only where no pair that is asked about is later, and violated only where the given pair is:
-- `bounded` says of a moment that none is later, `late` of a delay that the given pair has it.
abbrev pub IsStanding : (ℕ → Type 0) → (ℕ → Type 0) → ℕ → Standing → Type 0
IsStanding bounded late moment Met = bounded moment
IsStanding bounded late moment Violated = (delay : ℕ) × late delay × (moment < delay)
IsStanding bounded late moment Open = Unit {0}

-- By two figures: the lines say how the required moment stands by them, which is true, and the search
-- ends so. Where none is required, there is no such line, and it ends as its figures say.
pub record TellsRequired (bounded late : ℕ → Type 0) (plain : Status) (low high : ℕ) (required : Option ℕ) (lines : List Line) (ending : Status) : Type 0 where
  pub said : lines ≡ required_lines required low high
  pub ends : ending ≡ ending_by required plain low high
  pub stands : IfSome required (λ moment. IsStanding bounded late moment (standing_of moment low high))
