-- What answers of methods say.
use Rattle.std.proofs.Common.{ℕ, ◌≤◌, arith}
use Rattle.td_search.specs.declared.answers.Answer.{Answer}
use Rattle.td_search.specs.declared.answers.Answer.TheVariants as answer
use Rattle.td_search.specs.declared.strategy.Strategy.{Strategy}
use Rattle.td_search.specs.Problems.{Problem}
use Rattle.td_search.specs.Answers.{IsAnswer, IsSearchFault}
use Rattle.td_search.specs.declared.answers.SearchFault.{SearchFault}
use Rattle.td_search.specs.declared.answers.SearchFault.TheVariants as fault
use Rattle.td_search.specs.Written.{CanBeWritten}
use Rattle.td_worst.specs.declared.method.Method.{Method}
use Rattle.td_worst.specs.declared.method.Method.TheVariants as method
use Rattle.td_worst.specs.Methods.{IsSoundAnswer, IsAnswerBy}

-- an answer says at least what an outcome does
pub outcome_of : (asked : Problem) (budget : ℕ) (found : Answer) → IsAnswer asked budget found → IsSoundAnswer asked budget found
outcome_of asked budget (answer.Exact time pair tree) is = is
outcome_of asked budget (answer.Between low high pair nodes why) is = record {
  reached = is.reached;
  greatest = is.greatest;
  ordered = is.ordered;
  worst = is.worst;
  within = is.within;
  small = is.small;
}

pub outcome_by : (by : Method) (asked : Problem) (budget : ℕ) (found : Answer) → IsAnswerBy by asked budget found → IsSoundAnswer asked budget found
outcome_by method.Least asked budget found is = outcome_of asked budget found is
outcome_by method.Lead asked budget found is = outcome_of asked budget found is
outcome_by method.Refute asked budget found is = is
outcome_by method.Auto asked budget found is = is

-- with a greater budget
pub more_budget : (asked : Problem) (budget more : ℕ) (found : Answer) → budget ≤ more → IsSoundAnswer asked budget found → IsSoundAnswer asked more found
more_budget asked budget more (answer.Exact time pair tree) le is = record {
  reached = is.reached;
  greatest = is.greatest;
  accepted = is.accepted;
  within = omega (arith, is.within, le);
  small = is.small;
}
more_budget asked budget more (answer.Between low high pair nodes why) le is = record {
  reached = is.reached;
  greatest = is.greatest;
  ordered = is.ordered;
  worst = is.worst;
  within = omega (arith, is.within, le);
  small = is.small;
}

-- by another strategy
pub outcome_alike : (asked : Problem) (strategy : Strategy) (budget : ℕ) (found : Answer) → IsSoundAnswer asked budget found
    → IsSoundAnswer (record asked { strategy = strategy }) budget found
outcome_alike asked strategy budget (answer.Exact time pair tree) is = record {
  reached = is.reached;
  greatest = is.greatest;
  accepted = is.accepted;
  within = is.within;
  small = is.small;
}
outcome_alike asked strategy budget (answer.Between low high pair nodes why) is = record {
  reached = is.reached;
  greatest = is.greatest;
  ordered = is.ordered;
  worst = is.worst;
  within = is.within;
  small = is.small;
}

pub written_alike : (asked : Problem) (strategy : Strategy) (found : Answer) → CanBeWritten asked found
    → CanBeWritten (record asked { strategy = strategy }) found
written_alike asked strategy (answer.Exact time pair tree) is = is
written_alike asked strategy (answer.Between low high pair nodes why) is = tt

pub fault_alike : (asked : Problem) (strategy : Strategy) (reported : SearchFault) → IsSearchFault asked reported
    → IsSearchFault (record asked { strategy = strategy }) reported
fault_alike asked strategy fault.OutOfMemory is = tt
fault_alike asked strategy fault.NoPair is = is
