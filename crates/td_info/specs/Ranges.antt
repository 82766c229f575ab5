-- Internal: the range of the delays of gates in a row.
use Rattle.std.specs.Prelude.{min, max, List, [], ◌∷◌, Option, Some, None}
use Rattle.td_gates.specs.declared.timing.Delay.{Delay}
use Rattle.td_circuit.specs.Numbering.{NumberedGate}
use Rattle.td_info.specs.declared.ranges.Range.{Range}

-- the range with the delays of one gate more
abbrev pub widened : Option Range → Delay → Range
widened None delay = record { least = min delay.rise delay.fall; greatest = max delay.rise delay.fall }
widened (Some range) delay = record {
  least = min range.least (min delay.rise delay.fall);
  greatest = max range.greatest (max delay.rise delay.fall);
}

-- the range with the delays of these gates too
abbrev pub ranged : Option Range → List NumberedGate → Option Range
ranged range [] = range
ranged range (gate ∷ others) = ranged (Some (widened range gate.delay)) others
