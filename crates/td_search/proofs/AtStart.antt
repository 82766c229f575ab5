-- The answer of a search that has handled nothing.
use Rattle.std.proofs.Common.{◌≡◌, ◌≢◌, ℕ, ◌*◌, ◌<◌, ◌≤◌, ◌^◌, max, [], ◌∷◌, length, refl, sym, subst}
use Rattle.td_circuit.specs.Settings.{AreMoments}
use Rattle.td_circuit.specs.Numbering.{Numbered, IsNumbering}
use Rattle.td_domain.specs.Pairs.{Pair}
use Rattle.td_domain.specs.Admits.{Admitted}
use Rattle.td_book.specs.Board.{opening}
use Rattle.td_book.proofs.Books.{opening_book}
use Rattle.td_search.specs.declared.answers.Cause.{Cause}
use Rattle.td_search.specs.declared.answers.Cause.TheVariants as cause
use Rattle.td_search.specs.declared.strategy.Strategy.{Strategy}
use Rattle.td_search.specs.Answers.{IsBetween}
use Rattle.td_search.specs.Problems.{Problem, problem_by, has_delay, has_bound}
use Rattle.td_search.specs.Progress.{IsSearch}
use Rattle.td_search.proofs.Bounded.{above_bound}
use Rattle.td_search.proofs.Going.{begins}
use Rattle.td_search.proofs.Ending.{ends_between}

module _ (strategy : Strategy) (circuit : Numbered) (numbering : IsNumbering circuit) (fit : AreMoments circuit.netlist circuit.moments) (admit : Admitted)
    (budget : ℕ) (modest : budget ≤ 10000000) (pair : Pair) (time root : ℕ)
    (delay : has_delay (problem_by strategy circuit admit) pair time) (bound : has_bound (problem_by strategy circuit admit) admit.pins root) (small : root < 10 ^ 15) where
  abbrev asked : Problem
  asked = problem_by strategy circuit admit

  -- a search that knows a pair and the root's bound
  pub knows : IsSearch asked budget (opening admit.pins 1 budget) time pair (root ∷ [])
  knows = begins asked budget pair time root delay bound
      (λ other late is_in is. above_bound strategy circuit numbering fit admit.pins root other late bound is_in is.1) small modest

  pub nothing_between : (held : length admit.held ≡ length circuit.netlist.inputs) (pins : length admit.pins ≡ 2 * length admit.held)
      → (low high : ℕ) (shown : Pair) (why : Cause) → low ≡ time → shown ≡ pair → high ≡ max root low → (why ≡ cause.Budget → 0 ≡ budget) → (why ≢ cause.Budget → 0 ≢ budget)
      → IsBetween asked budget low high shown 0 why
  nothing_between held pins low high shown why low_is shown_is is used unused =
      subst (λ (n : ℕ). IsBetween asked budget n high shown 0 why) (sym low_is)
      (subst (λ (p : Pair). IsBetween asked budget time high p 0 why) (sym shown_is)
      (subst (λ (h : ℕ). IsBetween asked budget time h pair 0 why) (sym (subst (λ (n : ℕ). high ≡ max root n) low_is is))
      (ends_between strategy circuit numbering fit admit held pins budget (opening admit.pins 1 budget) time pair (root ∷ []) knows
      (opening_book admit.pins 1 budget 0 modest).kept refl why used unused)))
