use Rattle.std.proofs.Common.{List, ℕ, map, sym, subst}
use Rattle.std.specs.Borrow.{Bor}
use Rattle.std.specs.List.{Contains}
use Rattle.td_question.proofs.NetNames.{inserted}
use Rattle.td_question.proofs.net_names.NetNames.add.Goals as goal

pub returns-clause-added : goal.returns-clause-added
returns-clause-added c =
    subst (λ (keys : List (Bor (List ℕ))). Contains (map (λ k. k.now) keys) c.args.name.now) (sym c.in_ok-insert.ensures.keys)
    (inserted c.self.inside.set.keys c.args.name)
