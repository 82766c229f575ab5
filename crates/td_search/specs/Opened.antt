-- What shows the upper figure of an answer that stays open.
use Rattle.std.specs.Prelude.{◌≡◌, Bool, true, ℕ, ◌≤◌, List, [], ◌∷◌, length, Some, is_some, IfSome}
use Rattle.std.specs.List.{AllByRecursion}
use Rattle.td_circuit.specs.Settings.{Setting}
use Rattle.td_domain.specs.Admits.{Admitted}
use Rattle.td_refutation.specs.Asking.{all_admitted}
use Rattle.td_certificate.specs.declared.tree.Node.{Node}
use Rattle.td_certificate.specs.Accepts.{IsGood}
use Rattle.td_certificate.specs.Lengths.{IsShort}
use Rattle.td_certificate.specs.Trees.{IsTree}
use Rattle.td_certificate.specs.Walks.{lines_from}
use Rattle.td_search.specs.declared.answers.Answer.{Answer}
use Rattle.td_search.specs.declared.answers.Answer.TheVariants as answer
use Rattle.td_search.specs.declared.ended.Ended.{Ended}
use Rattle.td_search.specs.Problems.{Problem}

-- The tree shows that no admitted pair is later than this moment: it is one tree whose root has the
-- pins as its cube, and each of its lines is good where a certificate claims that moment. Its lines
-- are short and few, so a certificate with it has a text within the limit.
pub record ShowsHigh (given : Setting) (admit : Admitted) (high : ℕ) (tree : List Node) : Type 0 where
  pub whole : IsTree tree
  pub good : AllByRecursion (IsGood given (all_admitted admit) (Some high)) (lines_from (admit.pins ∷ []) tree)
  pub short : AllByRecursion IsShort tree
  pub few : length tree ≤ 10000000

-- the upper figure, or the time of an exact answer
abbrev pub high_of : Answer → ℕ
high_of (answer.Exact time pair tree) = time
high_of (answer.Between low high pair nodes why) = high

-- the tree, if there is one, shows the upper figure of the answer
abbrev pub ShowsAnswer : Problem → Ended → Type 0
ShowsAnswer asked ended = IfSome ended.tree (ShowsHigh asked.setting asked.admit (high_of ended.answer))

-- an answer that stays open has a tree
abbrev pub IsOpenWith : Answer → Bool → Type 0
IsOpenWith (answer.Exact time pair tree) some = Unit {0}
IsOpenWith (answer.Between low high pair nodes why) some = some ≡ true

abbrev pub HasTree : Ended → Type 0
HasTree ended = IsOpenWith ended.answer (is_some ended.tree)
