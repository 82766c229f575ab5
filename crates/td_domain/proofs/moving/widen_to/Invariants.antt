use Rattle.td_circuit.specs.Numbering.{Numbered}
use Rattle.td_domain.specs.Sheets.{IsSheet}
use Rattle.td_domain.proofs.moving.widen_to.Given as goal

abbrev pub invariant-loop : goal.invariant-loop
invariant-loop g l = (circuit : Numbered) → IsSheet g.D.Domain.functions g.D.Domain.reach circuit l.initial.sheet
    → IsSheet g.D.Domain.functions g.D.Domain.reach circuit l.sheet
