-- What is known where no answer is exact.
use Rattle.std.proofs.Common.{◌≡◌, ◌⊎◌, ⊎_elim, ℕ, ◌<◌, ◌≤◌, ◌^◌, min, ◌+◌, arith, sym, subst}
use Rattle.td_domain.specs.Pairs.{Pair}
use Rattle.td_domain.specs.Worst.{IsUpperBound}
use Rattle.td_lead.specs.declared.timed.Timed.{Timed}
use Rattle.td_lead.specs.Timed.{IsTimed}
use Rattle.td_search.specs.declared.answers.Cause.{Cause}
use Rattle.td_search.specs.declared.answers.Answer.TheVariants as answer
use Rattle.td_search.specs.Problems.{Problem}
use Rattle.td_search.specs.Written.{CanBeWritten}
use Rattle.td_worst.specs.declared.refuting.OpenAnswer.{OpenAnswer}
use Rattle.td_search.specs.declared.answers.Answer.{Answer}
use Rattle.td_search.specs.Problems.{has_delay}
use Rattle.td_search.specs.Answers.{low_of}
use Rattle.td_worst.specs.Methods.{IsBoundedAnswer, IsSoundAnswer, high_of, IsNarrower}
use Rattle.td_worst.specs.OpenAnswer.{IsOpenAnswer}

-- what is known bounds the worst delay
pub bounded : (asked : Problem) (budget : ℕ) (known : OpenAnswer) → IsOpenAnswer asked budget known
    → IsBoundedAnswer asked budget known.best.time known.high known.best.pair known.nodes
bounded asked budget known is = record {
  reached = (is.best.admitted, is.best.delay);
  greatest = is.high;
  ordered = is.high known.best.pair known.best.time is.best.admitted is.best.delay;
  worst = λ worst w. (
    w.greatest known.best.pair known.best.time is.best.admitted is.best.delay,
    is.high w.pair worst w.admitted w.reached,
  );
  within = is.within;
  small = is.small;
}

pub reported_between : (asked : Problem) (budget : ℕ) (known : OpenAnswer) (why : Cause) → IsOpenAnswer asked budget known
    → IsSoundAnswer asked budget (answer.Between known.best.time known.high known.best.pair known.nodes why)
    × CanBeWritten asked (answer.Between known.best.time known.high known.best.pair known.nodes why)
reported_between asked budget known why is = (bounded asked budget known is, tt)

-- from bounds
pub open_answer : (asked : Problem) (budget low high : ℕ) (pair : Pair) (nodes : ℕ) → IsBoundedAnswer asked budget low high pair nodes
    → IsOpenAnswer asked budget (record { best = record { pair = pair; time = low }; high = high; nodes = nodes })
open_answer asked budget low high pair nodes is = record {
  best = record { admitted = is.reached.0; delay = is.reached.1 };
  high = is.greatest;
  within = is.within;
  small = is.small;
}

-- with another upper figure, which is no greater
pub lowered : (asked : Problem) (budget bound : ℕ) (known : OpenAnswer) → IsOpenAnswer asked budget known → IsUpperBound asked.setting asked.admit bound
    → IsOpenAnswer asked budget (record { best = known.best; high = min known.high bound; nodes = known.nodes })
lowered asked budget bound known is greatest = record {
  best = is.best;
  high = λ pair delay admitted has. omega (arith, is.high pair delay admitted has, greatest pair delay admitted has);
  within = is.within;
  small = omega (arith, is.small);
}

-- with an upper figure that steps show
pub shown_above : (asked : Problem) (budget bound : ℕ) (best : Timed) (nodes : ℕ) → IsTimed asked.setting asked.admit best → IsUpperBound asked.setting asked.admit bound
    → bound ≤ best.time → best.time < 10 ^ 15 → nodes ≤ budget → IsOpenAnswer asked budget (record { best = best; high = best.time; nodes = nodes })
shown_above asked budget bound best nodes timed greatest le small within = record {
  best = timed;
  high = λ pair delay admitted has. omega (arith, greatest pair delay admitted has, le);
  within = within;
  small = small;
}

-- two of them together
pub joined : (asked : Problem) (budget more : ℕ) (first second : OpenAnswer) (best : Timed) (nodes : ℕ) → IsOpenAnswer asked budget first → IsOpenAnswer asked more second
    → (best ≡ first.best) ⊎ (best ≡ second.best) → nodes ≤ second.nodes + first.nodes
    → IsOpenAnswer asked (budget + more) (record { best = best; high = min second.high first.high; nodes = nodes })
joined asked budget more first second best nodes is also one few = record {
  best = ⊎_elim (λ (e : best ≡ first.best). subst (IsTimed asked.setting asked.admit) (sym e) is.best) (λ (e : best ≡ second.best). subst (IsTimed asked.setting asked.admit) (sym e) also.best) one;
  high = λ pair delay admitted has. omega (arith, is.high pair delay admitted has, also.high pair delay admitted has);
  within = omega (arith, is.within, also.within, few);
  small = omega (arith, also.small);
}

-- its best time is small
pub best_small : (asked : Problem) (budget : ℕ) (known : OpenAnswer) → IsOpenAnswer asked budget known → known.best.time < 10 ^ 15
best_small asked budget known is = omega (arith, is.high known.best.pair known.best.time is.best.admitted is.best.delay, is.small)

-- with another pair
pub with_best : (asked : Problem) (budget : ℕ) (known : OpenAnswer) (best : Timed) → IsOpenAnswer asked budget known → IsTimed asked.setting asked.admit best
    → IsOpenAnswer asked budget (record { best = best; high = known.high; nodes = known.nodes })
with_best asked budget known best is timed = record { best = timed; high = is.high; within = is.within; small = is.small }

-- ---- figures of answers to one question

-- some admitted pair has the lower figure
found_low : (asked : Problem) (budget : ℕ) (found : Answer) → IsSoundAnswer asked budget found → (pair : Pair) × has_delay asked pair (low_of found)
found_low asked budget (answer.Exact time pair tree) is = (pair, is.reached)
found_low asked budget (answer.Between low high pair nodes why) is = (pair, is.reached)

-- no admitted pair is above the upper one
above_high : (asked : Problem) (budget : ℕ) (found : Answer) → IsSoundAnswer asked budget found → IsUpperBound asked.setting asked.admit (high_of found)
above_high asked budget (answer.Exact time pair tree) is = is.greatest
above_high asked budget (answer.Between low high pair nodes why) is = is.greatest

-- the lower figure of one is at most the upper figure of the other
pub crossing : (asked : Problem) (budget more : ℕ) (one other : Answer) → IsSoundAnswer asked budget one → IsSoundAnswer asked more other → low_of one ≤ high_of other
crossing asked budget more one other is also =
    let pair = found_low asked budget one is in
    above_high asked more other also pair.0 (low_of one) pair.1.0 pair.1.1

-- what is exact is within any other
pub exact_narrower : (asked : Problem) (budget more : ℕ) (one other : Answer) → IsSoundAnswer asked budget one → IsSoundAnswer asked more other → low_of other ≡ high_of other
    → IsNarrower one other
exact_narrower asked budget more one other is also same = record {
  low = omega (arith, crossing asked budget more one other is also, same);
  high = omega (arith, crossing asked more budget other one also is, same);
}
