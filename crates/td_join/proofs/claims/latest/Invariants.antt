use Rattle.std.proofs.Common.{◌≡◌, ◌<◌, take, length, Some}
use Rattle.std.specs.Prelude.{All, slice_get}
use Rattle.td_certificate.specs.declared.certificate.Certificate.{Certificate}
use Rattle.td_join.specs.Joining.{time_of, IsNotAbove}
use Rattle.td_join.proofs.claims.latest.Given as goal

abbrev pub invariant-loop-place : goal.invariant-loop-place
invariant-loop-place l = record {
  within : l.greatest < length l.certificates;
  most : (worst : Certificate) → slice_get l.certificates l.greatest ≡ Some worst → All (λ c. IsNotAbove (time_of c.claim) (time_of worst.claim)) (take l.place l.certificates);
}
