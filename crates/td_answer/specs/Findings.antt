-- What is found of a worst delay.
use Rattle.std.specs.Prelude.{◌≤◌, ℕ, Bool, true, false}
use Rattle.td_circuit.specs.Settings.{Setting}
use Rattle.td_domain.specs.Pairs.{Pair}
use Rattle.td_refutation.specs.Asking.{Asking}
use Rattle.td_refute.specs.Kept.{IsBoundAmong, AsksNone}
use Rattle.td_search.specs.declared.answers.Answer.{Answer}
use Rattle.td_search.specs.declared.answers.Answer.TheVariants as answer
use Rattle.td_worst.specs.declared.kept_answer.KeptAnswer.{KeptAnswer}
use Rattle.td_worst.specs.declared.kept_answer.KeptAnswer.TheVariants as kept
use Rattle.td_lines.specs.declared.line.Found.{Found}
use Rattle.td_lines.specs.declared.line.Found.TheVariants as found
use Rattle.td_answer.specs.Kept.{HasDelayAmong}
use Rattle.td_answer.specs.Verdicts.{IsWorstAsked}

-- some pair that is asked about has the lower figure as its delay, and none has a greater one than the
-- upper
pub record LiesBetween (setting : Setting) (asking : Asking) (low high : ℕ) : Type 0 where
  pub pair : Pair
  pub has : HasDelayAmong setting asking pair low
  pub greatest : IsBoundAmong setting asking high
  pub ordered : low ≤ high

-- An exact figure is the worst delay of the pairs that are asked about in this setting. Where there are
-- two figures, it lies between them; where there is an upper one alone, no such pair is later; or there
-- is no such pair.
abbrev pub IsTrueFound : Setting → Asking → Found → Type 0
IsTrueFound setting asking (found.Exact time) = IsWorstAsked setting asking time
IsTrueFound setting asking (found.Between low high) = LiesBetween setting asking low high
IsTrueFound setting asking (found.AtMost high) = IsBoundAmong setting asking high
IsTrueFound setting asking found.NoPair = AsksNone setting asking

-- what an answer says of the worst delay
abbrev pub found_of : Answer → Found
found_of (answer.Exact time pair tree) = found.Exact time
found_of (answer.Between low high pair nodes why) = found.Between low high

abbrev pub kept_found : KeptAnswer → Found
kept_found (kept.Exact best tree) = found.Exact best.time
kept_found (kept.Between best high why steps) = found.Between best.time high
kept_found (kept.Open high why) = found.AtMost high
kept_found (kept.NoPair tree) = found.NoPair

-- nothing is left open
abbrev pub is_closed : Found → Bool
is_closed (found.Exact time) = true
is_closed (found.Between low high) = false
is_closed (found.AtMost high) = false
is_closed found.NoPair = true
