-- How a search ended, and what a report says of that.
use Rattle.std.specs.Prelude.{◌≡◌, ℕ, ◌-◌, nat_le, Bool, true, false, cond, List, [], ◌∷◌}
use Rattle.td_search.specs.declared.answers.Cause.{Cause as SearchCause}
use Rattle.td_search.specs.declared.answers.Cause.TheVariants as cause
use Rattle.td_lines.specs.declared.line.Cause.{Cause}
use Rattle.td_lines.specs.declared.line.Cause.TheVariants as why
use Rattle.td_lines.specs.declared.line.Line.{Line}
use Rattle.td_lines.specs.declared.line.Line.TheVariants as line
use Rattle.td_answer.specs.declared.ended.Ended.{Ended}
use Rattle.td_answer.specs.declared.refusal.Refusal.{Refusal}
use Rattle.td_answer.specs.declared.refusal.Refusal.TheVariants as refusal

-- whether so many nodes and the search's units of work reach its budget together
abbrev pub has_used_up : Ended → ℕ → Bool
has_used_up ended nodes = nat_le (ended.search.now.effort.budget - nodes) ended.work

-- why a search ended that handled so many nodes: for its budget only where that was used up, else it had
-- nothing more to try; where its stop was set, whether somebody asked for that
abbrev pub cause_of : Ended → ℕ → SearchCause → Cause
cause_of ended nodes cause.Budget = cond (has_used_up ended nodes) why.Budget why.Effort
cause_of ended nodes cause.Memory = why.Memory
cause_of ended nodes cause.Time = cond ended.was_asked why.Stop why.Time

-- how many units of work it took, where that is asked for
abbrev pub work_lines : Ended → List Line
work_lines ended = cond ended.search.now.shown.work (line.Units ended.work ∷ []) []

-- the lines tell that, and are none where it isn't asked for
abbrev pub TellsWork : Bool → List Line → Type 0
TellsWork false lines = lines ≡ []
TellsWork true lines = (units : ℕ) × (lines ≡ line.Units units ∷ [])

-- a request is out of time only where its stop can be set
abbrev pub EndsByStop : Bool → Refusal → Type 0
EndsByStop can_be_set reason = reason ≡ refusal.OutOfTime → can_be_set ≡ true
