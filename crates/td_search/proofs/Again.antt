-- A search under way within the budget of its own book.
use Rattle.std.proofs.Common.{ℕ, sym, subst}
use Rattle.td_search.specs.declared.progress.Search.{Search}
use Rattle.td_search.specs.Problems.{Problem}
use Rattle.td_search.specs.Progress.{IsUnderWay}

pub again : (asked : Problem) (budget : ℕ) (s : Search) → IsUnderWay asked budget s → IsUnderWay asked s.book.budget s
again asked budget s h = subst (λ (b : ℕ). IsUnderWay asked b s) (sym h.0.budget_is) h

pub still : (asked : Problem) (budget : ℕ) (s t : Search) → IsUnderWay asked budget s → IsUnderWay asked s.book.budget t → IsUnderWay asked budget t
still asked budget s t h k = subst (λ (b : ℕ). IsUnderWay asked b t) h.0.budget_is k
