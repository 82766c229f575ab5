use Rattle.std.proofs.Common.{◌≡◌, take}
use Rattle.std.specs.Prelude.{filter_map, slice_get}
use Rattle.td_edges.specs.EdgeSignals.{kept_by}
use Rattle.td_edges.proofs.gates.kept_by.Given as goal

abbrev pub invariant-loop-place : goal.invariant-loop-place
invariant-loop-place l = l.kept ≡ kept_by l.control l.out (filter_map (slice_get l.all) (take l.place-index l.ins)) l.fn.span
