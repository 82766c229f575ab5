use Rattle.std.proofs.Common.{◌≡◌, take}
use Rattle.std.specs.Prelude.{filter_map, slice_get}
use Rattle.td_edges.specs.Parting.{no_parts, parted}
use Rattle.td_edges.proofs.parting.parted.Given as goal

abbrev pub invariant-loop-place : goal.invariant-loop-place
invariant-loop-place l = l.parts ≡ parted (no_parts l.fn.parity) (filter_map (slice_get l.all) (take l.place-index l.ins))
