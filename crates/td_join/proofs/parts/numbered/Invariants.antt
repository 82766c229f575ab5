use Rattle.std.proofs.Common.{◌≡◌, ◌<◌, ◌++◌, length}
use Rattle.std.specs.Prelude.{All}
use Rattle.std.specs.Vec.Iter.{into_iter_items}
use Rattle.td_join.specs.Steps.{certificates_of, IsPlaced, AreInOrder}
use Rattle.td_join.proofs.parts.numbered.Given as goal

abbrev pub invariant-loop-certificate : goal.invariant-loop-certificate
invariant-loop-certificate l = record {
  all : certificates_of l.parts.items ++ into_iter_items l.certificate-iterator ≡ l.fn.certificates.items;
  placed : All (IsPlaced l.fn.certificates.items) l.parts.items;
  order : AreInOrder l.parts.items;
  below : All (λ p. p.place < length l.parts.items) l.parts.items;
}
