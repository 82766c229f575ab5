-- What is found of an output, with the pair that shows it.
use Rattle.std.specs.Prelude.{◌≡◌, ℕ, Bool, true, false, cond, Option, Some, None, option_map}
use Rattle.td_circuit.specs.Settings.{Setting}
use Rattle.td_domain.specs.Pairs.{Pair}
use Rattle.td_refutation.specs.Asking.{Asking}
use Rattle.td_worst.specs.declared.kept_answer.KeptAnswer.{KeptAnswer}
use Rattle.td_worst.specs.declared.kept_answer.KeptAnswer.TheVariants as kept
use Rattle.td_lines.specs.declared.line.Found.{Found}
use Rattle.td_lines.specs.declared.line.Found.TheVariants as found
use Rattle.td_lines.specs.declared.line.Vectors.{Vectors}
use Rattle.td_answer.specs.Findings.{IsTrueFound}
use Rattle.td_answer.specs.Kept.{HasDelayAmong}
use Rattle.td_answer.specs.declared.sighting.Sighting.{Sighting}

abbrev pub vectors_of : Pair → Vectors
vectors_of pair = record { from = pair.first; to = pair.second }

abbrev pub pair_of : Vectors → Pair
pair_of vectors = record { first = vectors.from; second = vectors.to }

-- the pair of an answer, if there is one
abbrev pub kept_pair : KeptAnswer → Option Pair
kept_pair (kept.Exact best tree) = Some best.pair
kept_pair (kept.Between best high why steps) = Some best.pair
kept_pair (kept.Open high why) = None
kept_pair (kept.NoPair tree) = None

-- a pair, where something is found that a pair shows
abbrev pub shown_by : Found → Option Pair → Option Pair
shown_by (found.Exact time) pair = pair
shown_by (found.Between low high) pair = pair
shown_by (found.AtMost high) pair = None
shown_by found.NoPair pair = None

-- what is found, with the pair where that is asked for
abbrev pub sighted : Bool → Found → Option Pair → Sighting
sighted is_asked known pair = record { found = known; pair = cond is_asked (option_map vectors_of (shown_by known pair)) None }

-- the pair is one of those that are asked about, and its delay is this
abbrev pub PairHas : Setting → Asking → ℕ → Option Pair → Type 0
PairHas setting asking delay None = ⊥
PairHas setting asking delay (Some pair) = HasDelayAmong setting asking pair delay

-- it has the figure, or the lower one; where no pair is known, or there is none, it is none
abbrev pub HasFigure : Setting → Asking → Found → Option Pair → Type 0
HasFigure setting asking (found.Exact time) pair = PairHas setting asking time pair
HasFigure setting asking (found.Between low high) pair = PairHas setting asking low pair
HasFigure setting asking (found.AtMost high) pair = pair ≡ None
HasFigure setting asking found.NoPair pair = pair ≡ None

-- the same of its vectors, which are there where they are asked for
abbrev pub HasVectors : Bool → Setting → Asking → Found → Option Vectors → Type 0
HasVectors false setting asking known vectors = vectors ≡ None
HasVectors true setting asking known vectors = HasFigure setting asking known (option_map pair_of vectors)

-- what is found is true of the pairs that are asked about, and its pair shows it
abbrev pub IsTrueSighting : Bool → Setting → Asking → Sighting → Type 0
IsTrueSighting is_asked setting asking seen =
    IsTrueFound setting asking seen.found × HasVectors is_asked setting asking seen.found seen.pair
