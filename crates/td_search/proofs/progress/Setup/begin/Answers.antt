use Rattle.std.proofs.Common.{◌≡◌, ℕ, List, [], ◌∷◌, ◌++◌, length, sym, ap, subst, ◌∙◌}
use Rattle.td_book.specs.Board.{Board, opening}
use Rattle.td_search.specs.Problems.{Problem, problem_by}
use Rattle.td_search.specs.Progress.{IsSearch}
use Rattle.td_search.specs.Rooms.{HasSpace}
use Rattle.td_search.proofs.AtStart.{knows}
use Rattle.td_search.proofs.progress.Setup.begin.Goals as goal

pub returns-clause-search : goal.returns-clause-search
returns-clause-search c =
    let asked : Problem = problem_by c.args.problem.now.strategy c.args.problem.now.circuit.now c.args.problem.now.admit.now in
    let budget : ℕ = c.args.budget in
    let root : ℕ = c.args.root in
    let best = c.args.best in
    let items : c.push_reserved.new.self.items ≡ root ∷ [] =
    c.push_reserved.ensures.items ∙ ap (λ (l : List ℕ). l ++ root ∷ []) c.requires.setup.no_bounds in (
      subst (λ (b : Board). IsSearch asked budget b best.time best.pair c.push_reserved.new.self.items) (sym c.requires.setup.book)
          (subst (λ (l : List ℕ). IsSearch asked budget (opening c.args.problem.now.admit.now.pins 1 budget) best.time best.pair l) (sym items)
          (knows c.args.problem.now.strategy c.args.problem.now.circuit.now c.gates-numbering.ensures.numbering c.moments-moments.ensures.fit c.args.problem.now.admit.now budget c.requires.modest best.pair best.time root
          c.requires.best c.requires.root c.requires.small)),
      subst (λ (l : List ℕ). HasSpace c.args.self.space (length l)) (sym items) c.requires.setup.space,
    )
