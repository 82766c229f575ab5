use Rattle.td_source.specs.Places.{AreSorted}
use Rattle.td_source.proofs.outputs.in_order.Given as goal

abbrev pub invariant-loop-place : goal.invariant-loop-place
invariant-loop-place l = AreSorted l.place l.found l.places.items
