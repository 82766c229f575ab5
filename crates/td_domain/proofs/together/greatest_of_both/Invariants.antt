use Rattle.std.proofs.Common.{◌≡◌, Some, drop}
use Rattle.td_domain.specs.Bounds.{greater}
use Rattle.td_domain.specs.Together.{lesser, pairs}
use Rattle.td_domain.proofs.GreatestLemmas.{greatest_at}
use Rattle.td_domain.proofs.together.greatest_of_both.Given as goal

abbrev pub invariant-loop-net : goal.invariant-loop-net
invariant-loop-net g l =
    greatest_at (λ signal. lesser (g.A.Domain.functions.last_of signal.0) (g.B.Domain.functions.last_of signal.1)) (pairs l.first l.second) l.nets
    ≡ greater (Some l.latest) (greatest_at (λ signal. lesser (g.A.Domain.functions.last_of signal.0) (g.B.Domain.functions.last_of signal.1))
    (pairs l.first l.second) (drop l.net-index l.nets))
