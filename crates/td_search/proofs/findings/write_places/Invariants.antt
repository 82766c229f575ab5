use Rattle.std.proofs.Common.{length}
use Rattle.td_search.proofs.Rooted.{ArePlacesOf}
use Rattle.td_search.proofs.findings.write_places.Given as goal

abbrev pub invariant-loop-place : goal.invariant-loop-place
invariant-loop-place l = ArePlacesOf l.pieces l.place (length l.fn.places) l.places
