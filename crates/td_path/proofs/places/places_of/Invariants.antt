use Rattle.std.proofs.Common.{◌≡◌, length}
use Rattle.td_path.proofs.Placing.{PlacedTo}
use Rattle.td_path.proofs.places.places_of.Given as goal

abbrev pub invariant-loop-place : goal.invariant-loop-place
invariant-loop-place l = record {
  count : length l.places.items ≡ length l.circuit.gates;
  placed : PlacedTo l.circuit l.places.items l.place;
}
