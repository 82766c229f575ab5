use Rattle.std.proofs.Common.{◌≡◌, ◌≤◌, take, map}
use Rattle.std.specs.Prelude.{filter_map, slice_get}
use Rattle.td_gates.specs.declared.primitives.Level.{Level}
use Rattle.td_gates.specs.Counts.{counts_of, count_at}
use Rattle.td_edges.specs.EdgeSignals.{hull}
use Rattle.td_edges.proofs.gates.gathered.Given as goal

abbrev pub invariant-loop-place : goal.invariant-loop-place
invariant-loop-place l = record {
  starts : l.starts ≡ counts_of (map (λ signal. signal.start) (filter_map (slice_get l.all) (take l.place-index l.ins)));
  finishes : l.finishes ≡ counts_of (map (λ signal. signal.finish) (filter_map (slice_get l.all) (take l.place-index l.ins)));
  changes : l.changes ≡ hull (filter_map (slice_get l.all) (take l.place-index l.ins));
  few_starts : (level : Level) → count_at l.starts level ≤ l.place-index;
  few_finishes : (level : Level) → count_at l.finishes level ≤ l.place-index;
}
