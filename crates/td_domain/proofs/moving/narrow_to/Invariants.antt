use Rattle.std.proofs.Common.{◌≡◌, take}
use Rattle.td_domain.specs.Sheets.{IsSheet}
use Rattle.td_domain.proofs.moving.narrow_to.Given as goal

abbrev pub invariant-loop : goal.invariant-loop
invariant-loop g l = record {
  sheet : IsSheet g.D.Domain.functions g.D.Domain.reach l.circuit l.sheet;
  same : take l.position l.sheet.cube ≡ take l.position l.cube;
}
