use Rattle.std.proofs.Common.{◌≡◌, drop}
use Rattle.std.specs.Prelude.{filter_map, slice_get}
use Rattle.td_domain_rows.specs.Counting.{is_one}
use Rattle.td_domain_rows.proofs.counting.reads_reached.Given as goal

abbrev pub invariant-loop-place : goal.invariant-loop-place
invariant-loop-place l =
    is_one (filter_map (slice_get l.all) l.places) ≡ is_one (filter_map (slice_get l.all) (drop l.place-index l.places))
