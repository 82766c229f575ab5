use Rattle.std.proofs.Common.{◌≡◌, ◌<◌, take, length, Some}
use Rattle.std.specs.Prelude.{All, slice_get}
use Rattle.td_certificate.specs.declared.certificate.Certificate.{Certificate}
use Rattle.td_certificate.specs.Accepts.{high_of}
use Rattle.td_join.specs.Joining.{IsNotAbove}
use Rattle.td_join.proofs.claims.highest.Given as goal

abbrev pub invariant-loop-place : goal.invariant-loop-place
invariant-loop-place l = record {
  within : l.greatest < length l.certificates;
  most : (worst : Certificate) → slice_get l.certificates l.greatest ≡ Some worst → All (λ c. IsNotAbove (high_of c.claim) (high_of worst.claim)) (take l.place l.certificates);
}
