use Rattle.std.proofs.Common.{◌≡◌, drop, length}
use Rattle.td_join.specs.Joining.{pins_of, hull_from}
use Rattle.td_join.proofs.hulls.hull.Given as goal

abbrev pub invariant-loop-certificate : goal.invariant-loop-certificate
invariant-loop-certificate l = record {
  fits : length l.cube ≡ length (pins_of l.first);
  widened : hull_from l.cube (drop l.certificate-index l.certificates) ≡ hull_from (pins_of l.first) l.certificates;
}
