-- What an answer says of how far a search has come.
use Rattle.std.proofs.Common.{ℕ}
use Rattle.td_domain.specs.Worst.{IsUpperBound}
use Rattle.td_pool.specs.Watched.{IsFound}
use Rattle.td_search.specs.declared.answers.Answer.{Answer}
use Rattle.td_search.specs.declared.answers.Answer.TheVariants as answer
use Rattle.td_search.specs.Answers.{low_of}
use Rattle.td_search.specs.Problems.{Problem}
use Rattle.td_worst.specs.Methods.{IsSoundAnswer, high_of}

pub found_low : (asked : Problem) (budget : ℕ) (told : Answer) → IsSoundAnswer asked budget told → IsFound asked (low_of told)
found_low asked budget (answer.Exact time pair tree) is = ∣ (pair, is.reached) ∣₁
found_low asked budget (answer.Between low high pair nodes why) is = ∣ (pair, is.reached) ∣₁

pub bound_high : (asked : Problem) (budget : ℕ) (told : Answer) → IsSoundAnswer asked budget told → IsUpperBound asked.setting asked.admit (high_of told)
bound_high asked budget (answer.Exact time pair tree) is = is.greatest
bound_high asked budget (answer.Between low high pair nodes why) is = is.greatest
