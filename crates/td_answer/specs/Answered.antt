-- What the report of a search says of the search: its figures, its cause and its nodes are those of
-- an answer by the strategy, within the budget.
use Rattle.std.specs.Prelude.{◌≡◌, ℕ, Bool, true, false, List, [], ◌∷◌, ◌++◌, length, ◌≤◌, Option, Some, None}
use Rattle.td_circuit.specs.Settings.{Setting}
use Rattle.td_domain.specs.Admits.{Admitted}
use Rattle.td_reading.specs.declared.reading.Reading.{Reading}
use Rattle.td_request.specs.declared.request.Search.{Search}
use Rattle.td_request.specs.declared.request.Table.{Table}
use Rattle.td_question.specs.Asking.{IsAsked, IsAskedKeeping}
use Rattle.td_refutation.specs.Asking.{Asking}
use Rattle.td_search.specs.Answers.{IsAnswer, TimeNeedsStop}
use Rattle.td_search.specs.Problems.{Problem}
use Rattle.td_search.specs.declared.answers.Answer.{Answer}
use Rattle.td_search.specs.declared.strategy.Strategy.TheVariants.{Least}
use Rattle.td_worst.specs.declared.kept_answer.KeptAnswer.{KeptAnswer}
use Rattle.td_worst.specs.declared.kept_answer.KeptAnswer.TheVariants as kept
use Rattle.td_worst.specs.Kept.{IsKeptWithinEdges, KeptTimeNeedsStop}
use Rattle.td_worst.specs.Methods.{IsAnswerBy, IsWithinEdges, first_nodes, goes_further, tree_of}
use Rattle.td_worst.specs.declared.method.Method.TheVariants.{Auto}
use Rattle.td_lines.specs.declared.line.Line.{Line}
use Rattle.td_lines.specs.declared.line.Line.TheVariants as line
use Rattle.td_answer.specs.Ends.{cause_of}
use Rattle.td_answer.specs.Heads.{head_lines}
use Rattle.td_answer.specs.Kept.{has_conditions}
use Rattle.td_answer.specs.Lines.{answer_lines, at_most_lines, between_lines, exact_lines}
use Rattle.td_answer.specs.Methods.{method_of}
use Rattle.td_answer.specs.declared.ended.Ended.{Ended}
use Rattle.td_answer.specs.declared.outcome.Outcome.{Outcome}

-- the problem of a setting's admitted pairs, by the tree of the search's strategy
abbrev pub problem_of : Search → Setting → Admitted → Problem
problem_of search setting admit = record { setting = setting; admit = admit; strategy = tree_of (method_of search.strategy) }

-- The report begins with the lines of an answer by the strategy's method, within the budget. Where the
-- budget ends with its first tree, `auto` answers as `least` does; where a search goes on, the upper
-- figure is at most the bound by edges. Time is its cause only where the search can be stopped.
pub record PrintsAnswer (can_stop : Bool) (text : List ℕ) (reading : Reading) (search : Search) (outcome : Outcome) : Type 0 where
  pub setting : Setting
  pub admit : Admitted
  pub asked : IsAsked text reading search.question setting admit
  pub found : Answer
  pub answer : IsAnswerBy (method_of search.strategy) (problem_of search setting admit) search.effort.budget found
  pub first : method_of search.strategy ≡ Auto → search.effort.budget ≤ first_nodes (length setting.netlist.gates)
      → IsAnswer (record { setting = setting; admit = admit; strategy = Least }) search.effort.budget found
  pub edges : goes_further (method_of search.strategy) (length setting.netlist.gates) search.effort.budget ≡ true → IsWithinEdges (problem_of search setting admit) found
  pub timely : TimeNeedsStop can_stop found
  pub ended : Ended
  pub of : ended.search.now ≡ search
  pub more : List Line
  pub printed : outcome.report ≡ (head_lines setting.netlist ++ answer_lines ended found) ++ more

-- the lines of an answer about the pairs that keep conditions
abbrev pub kept_lines : Ended → KeptAnswer → List Line
kept_lines ended (kept.Exact best tree) = exact_lines ended best.time best.pair (length tree)
kept_lines ended (kept.Between best high why steps) = between_lines ended best.time high (cause_of ended 0 why) best.pair 0
kept_lines ended (kept.Open high why) = at_most_lines ended high (cause_of ended 0 why)
kept_lines ended (kept.NoPair tree) = line.NoPair ∷ line.Nodes (length tree) ∷ []

-- The report begins with the lines of an answer about these pairs. Its upper figure is at most the
-- bound by edges, and time is its cause only where the search can be stopped.
pub record PrintsKept (can_stop : Bool) (text : List ℕ) (reading : Reading) (search : Search) (outcome : Outcome) : Type 0 where
  pub setting : Setting
  pub asking : Asking
  pub asked : IsAskedKeeping text reading search.question setting asking
  pub found : KeptAnswer
  pub edges : IsKeptWithinEdges setting asking.admit found
  pub timely : KeptTimeNeedsStop can_stop found
  pub ended : Ended
  pub of : ended.search.now ≡ search
  pub more : List Line
  pub printed : outcome.report ≡ (head_lines setting.netlist ++ kept_lines ended found) ++ more

-- with conditions or without
abbrev pub PrintsAnswerBy : Bool → Bool → List ℕ → Reading → Search → Outcome → Type 0
PrintsAnswerBy false can_stop text reading search outcome = PrintsAnswer can_stop text reading search outcome
PrintsAnswerBy true can_stop text reading search outcome = PrintsKept can_stop text reading search outcome

abbrev pub IsPrintOfSearch : Bool → List ℕ → Reading → Search → Outcome → Type 0
IsPrintOfSearch can_stop text reading search outcome = PrintsAnswerBy (has_conditions search.question) can_stop text reading search outcome

-- and no table is asked for
abbrev pub IsPrintOfTable : Option Table → Bool → List ℕ → Reading → Search → Outcome → Type 0
IsPrintOfTable None can_stop text reading search outcome = IsPrintOfSearch can_stop text reading search outcome
IsPrintOfTable (Some table) can_stop text reading search outcome = Unit {0}
