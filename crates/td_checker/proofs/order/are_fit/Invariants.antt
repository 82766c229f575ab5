use Rattle.std.proofs.Common.{◌≡◌, length}
use Rattle.td_certificate.specs.Accepts.{are_fit}
use Rattle.td_checker.proofs.order.are_fit.Given as goal

abbrev pub invariant-conditions : goal.invariant-conditions
invariant-conditions l = are_fit l.count l.rest ≡ are_fit l.count l.keep

abbrev pub decreases-conditions : goal.decreases-conditions
decreases-conditions l = length l.rest
