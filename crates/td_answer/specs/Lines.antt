-- The lines of the answer of a search.
use Rattle.std.specs.Prelude.{ℕ, Bool, true, false, List, [], ◌∷◌, ◌++◌, length, ◌==◌, if◌then◌else◌, Option, Some, None}
use Rattle.td_domain.specs.Pairs.{Pair}
use Rattle.td_certificate.specs.declared.certificate.Claim.{Claim}
use Rattle.td_search.specs.declared.answers.Answer.{Answer}
use Rattle.td_search.specs.declared.answers.Answer.TheVariants as answer
use Rattle.td_lines.specs.declared.line.Cause.{Cause}
use Rattle.td_lines.specs.declared.line.Line.{Line}
use Rattle.td_lines.specs.declared.line.Line.TheVariants as line
use Rattle.td_answer.specs.Ends.{cause_of, work_lines}
use Rattle.td_answer.specs.Requirements.{required_lines, cause_by, ending_by}
use Rattle.td_answer.specs.declared.ended.Ended.{Ended}
use Rattle.td_answer.specs.declared.status.Status.{Status}
use Rattle.td_answer.specs.declared.status.Status.TheVariants as status

-- what a search that ended so took, and what is required, where its figures are these
abbrev pub end_lines : Ended → ℕ → ℕ → List Line
end_lines ended low high = work_lines ended ++ required_lines ended.search.now.required low high

-- why figures are open
abbrev pub cause_line : Ended → ℕ → ℕ → Cause → Line
cause_line ended low high cause = line.Cause (cause_by ended.search.now.required low high cause)

-- of a worst delay
abbrev pub exact_lines : Ended → ℕ → Pair → ℕ → List Line
exact_lines ended time pair nodes =
    line.Exact time ∷ line.From pair.first ∷ line.To pair.second ∷ line.Nodes nodes ∷ end_lines ended time time

abbrev pub between_lines : Ended → ℕ → ℕ → Cause → Pair → ℕ → List Line
between_lines ended low high cause pair nodes =
    line.Between low high ∷ cause_line ended low high cause ∷ line.From pair.first ∷ line.To pair.second ∷ line.Nodes nodes ∷ end_lines ended low high

-- where no pair is known
abbrev pub at_most_lines : Ended → ℕ → Cause → List Line
at_most_lines ended high cause = line.AtMost high ∷ cause_line ended 0 high cause ∷ end_lines ended 0 high

-- of an answer
abbrev pub answer_lines : Ended → Answer → List Line
answer_lines ended (answer.Exact time pair tree) = exact_lines ended time pair (length tree)
answer_lines ended (answer.Between low high pair nodes cause) = between_lines ended low high (cause_of ended nodes cause) pair nodes

-- the time of a whole whose parts were checked, or weren't, and that no pair is admitted
abbrev pub time_line : Bool → ℕ → Line
time_line true time = line.Exact time
time_line false time = line.Unchecked time

-- the two moments of one that leaves the worst delay open
abbrev pub open_line : Bool → ℕ → ℕ → Line
open_line true low high = line.Between low high
open_line false low high = line.UncheckedBetween low high

-- its time, and where that isn't surely the worst delay, the moment after which no admitted pair
-- changes an output
abbrev pub whole_line : Bool → ℕ → ℕ → Line
whole_line checked time high = if time == high then time_line checked time else open_line checked time high

abbrev pub none_line : Bool → Line
none_line true = line.NoPair
none_line false = line.UncheckedNone

-- of a whole: what it claims, as that of a search, or that no pair is admitted
abbrev pub whole_lines : Bool → Option Claim → ℕ → List Line
whole_lines checked None nodes = none_line checked ∷ line.Nodes nodes ∷ []
whole_lines checked (Some claim) nodes =
    whole_line checked claim.time claim.high ∷ line.From claim.pair.first ∷ line.To claim.pair.second ∷ line.Nodes nodes ∷ []

-- the line of a required moment, where it claims a pair
abbrev pub standing_lines : Option ℕ → Option Claim → List Line
standing_lines required None = []
standing_lines required (Some claim) = required_lines required claim.time claim.high

-- how a joining ends: as the two moments of the whole say, or as a required moment stands
abbrev pub ending_of_moments : ℕ → ℕ → Status
ending_of_moments time high = if time == high then status.Done else status.Between

abbrev pub ending_of_whole : Option ℕ → Option Claim → Status
ending_of_whole required None = status.Done
ending_of_whole required (Some claim) = ending_by required (ending_of_moments claim.time claim.high) claim.time claim.high

-- the pair of an answer
abbrev pub pair_in : Answer → Pair
pair_in (answer.Exact time pair tree) = pair
pair_in (answer.Between low high pair nodes why) = pair

abbrev pub ending_of : Option ℕ → Answer → Status
ending_of required (answer.Exact time pair tree) = ending_by required status.Done time time
ending_of required (answer.Between low high pair nodes why) = ending_by required status.Between low high
