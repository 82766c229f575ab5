use Rattle.std.proofs.Common.{map}
use Rattle.td_source.proofs.Keeping.{AreFound}
use Rattle.td_source.proofs.outputs.places_of.Given as goal

abbrev pub invariant-loop-word : goal.invariant-loop-word
invariant-loop-word l = AreFound l.netlist (map (λ word. word.now) l.words) l.word-index l.places.items
