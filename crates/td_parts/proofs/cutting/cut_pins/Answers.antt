use Rattle.std.proofs.Common.{◌∙◌, ◌<◌, ◌≤◌, ℕ, List, length, max, sym, ap, subst}
use Rattle.std.specs.Prelude.{All}
use Rattle.std.proofs.lemmas.List.{length-map}
use Rattle.td_domain.specs.declared.cubes.Trit.{Trit}
use Rattle.td_circuit.specs.Numbering.{setting}
use Rattle.td_parts.specs.Splits.{cube_of}
use Rattle.td_parts.specs.Whole.{IsWhole}
use Rattle.td_parts.specs.Sharing.{AreShares}
use Rattle.td_parts.proofs.Waiting.{whole_each}
use Rattle.td_parts.proofs.cutting.cut_pins.Goals as goal

pub returns-clause-shares : goal.returns-clause-shares
returns-clause-shares g c =
    subst (λ (cubes : List (List Trit)). AreShares c.args.task.now.problem.now.admit.now cubes) (sym c.in_ok-cubes.ensures) c.in_ok-halve_until.ensures.cutting.shares

pub returns-clause-few : goal.returns-clause-few
returns-clause-few g c =
    subst (λ (n : ℕ). n ≤ max 1 c.args.parts)
    (sym (ap (λ (cubes : List (List Trit)). length cubes) c.in_ok-cubes.ensures ∙ length-map c.halve_until.new.self.parts.items cube_of))
    c.in_ok-halve_until.ensures.few

pub returns-clause-enough : goal.returns-clause-enough
returns-clause-enough g c less =
    let parts = c.halve_until.new.self.parts.items in
    let count = ap (λ (cubes : List (List Trit)). length cubes) c.in_ok-cubes.ensures ∙ length-map parts cube_of in
    subst (λ (cubes : List (List Trit)). All (IsWhole c.args.task.now.problem.now.strategy (setting c.args.task.now.problem.now.circuit.now)) cubes) (sym c.in_ok-cubes.ensures)
    (whole_each c.args.task.now.problem.now.strategy (setting c.args.task.now.problem.now.circuit.now) parts c.in_ok-halve_until.ensures.cutting.splits
    (c.in_ok-halve_until.ensures.enough (subst (λ (n : ℕ). n < c.args.parts) count less)))
