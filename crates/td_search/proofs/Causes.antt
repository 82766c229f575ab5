-- An answer whose cause is memory in place of time.
use Rattle.std.proofs.Common.{◌≡◌, ℕ, ◌≤◌, refl, arith}
use Rattle.std.specs.Prelude.{Bool}
use Rattle.td_search.specs.declared.answers.Answer.{Answer}
use Rattle.td_search.specs.declared.answers.Answer.TheVariants as answer
use Rattle.td_search.specs.declared.answers.Cause.TheVariants as cause
use Rattle.td_search.specs.Answers.{IsAnswer, TimeNeedsStop, low_of}
use Rattle.td_search.specs.Opened.{high_of}
use Rattle.td_search.specs.Problems.{Problem}
use Rattle.td_search.specs.Redone.{HasHandled, without_time}
use Rattle.td_search.specs.Written.{CanBeWritten}

pub answer_by_memory : (asked : Problem) (budget : ℕ) (a : Answer) → IsAnswer asked budget a → IsAnswer asked budget (without_time a)
answer_by_memory asked budget (answer.Exact time pair tree) h = h
answer_by_memory asked budget (answer.Between low high pair nodes cause.Budget) h = h
answer_by_memory asked budget (answer.Between low high pair nodes cause.Memory) h = h
answer_by_memory asked budget (answer.Between low high pair nodes cause.Time) h = record {
  short = h.short;
  reached = h.reached;
  greatest = h.greatest;
  ordered = h.ordered;
  worst = h.worst;
  within = h.within;
  small = h.small;
  budget_used = λ e. cc;
  budget_left = λ other. h.budget_left (λ e. cc);
}

pub text_by_memory : (asked : Problem) (a : Answer) → CanBeWritten asked a → CanBeWritten asked (without_time a)
text_by_memory asked (answer.Exact time pair tree) h = h
text_by_memory asked (answer.Between low high pair nodes why) h = tt

pub low_by_memory : (a : Answer) → low_of (without_time a) ≡ low_of a
low_by_memory (answer.Exact time pair tree) = refl
low_by_memory (answer.Between low high pair nodes why) = refl

pub high_by_memory : (a : Answer) → high_of (without_time a) ≡ high_of a
high_by_memory (answer.Exact time pair tree) = refl
high_by_memory (answer.Between low high pair nodes why) = refl

pub time_by_memory : (can_be_set : Bool) (a : Answer) → TimeNeedsStop can_be_set (without_time a)
time_by_memory can_be_set (answer.Exact time pair tree) = tt
time_by_memory can_be_set (answer.Between low high pair nodes cause.Budget) = λ e. cc
time_by_memory can_be_set (answer.Between low high pair nodes cause.Memory) = λ e. cc
time_by_memory can_be_set (answer.Between low high pair nodes cause.Time) = λ e. cc

pub handled_by_memory : (asked : Problem) (budget n : ℕ) (a : Answer) → IsAnswer asked budget a → n ≤ budget → HasHandled n (without_time a)
handled_by_memory asked budget n (answer.Exact time pair tree) h le = tt
handled_by_memory asked budget n (answer.Between low high pair nodes cause.Budget) h le = λ other. let used = h.budget_used refl in omega (arith, le, used)
handled_by_memory asked budget n (answer.Between low high pair nodes cause.Memory) h le = λ other. absurd (other refl)
handled_by_memory asked budget n (answer.Between low high pair nodes cause.Time) h le = λ other. absurd (other refl)
