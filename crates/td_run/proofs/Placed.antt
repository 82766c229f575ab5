-- The gate at a place of a circuit.
use Rattle.std.proofs.Common.{◌≡◌, ℕ, ◌<◌, List, length, map, get_or, ap, arith, Some}
use Rattle.std.specs.Prelude.{slice_get}
use Rattle.std.proofs.lemmas.List.{length-map}
use Rattle.td_circuit.specs.declared.circuit.Gate.{Gate as DeclaredGate}
use Rattle.td_circuit.specs.Numbering.{NumberedGate}
use Rattle.td_circuit.specs.Views.{gate_of}
use Rattle.td_circuit.proofs.Gates.{numbered-at}

pub count_same : (gates : List DeclaredGate) (numbered : List NumberedGate) → map gate_of gates ≡ numbered → length gates ≡ length numbered
count_same gates numbered same = omega (arith, ap length same, length-map gates gate_of)

pub gate_at_place : (gates : List DeclaredGate) (numbered : List NumberedGate) (i : ℕ) (gate : DeclaredGate)
    → map gate_of gates ≡ numbered → i < length numbered → gate ≡ get_or gates i gate → slice_get numbered i ≡ Some (gate_of gate)
gate_at_place gates numbered i gate same h is =
    let count = count_same gates numbered same in numbered-at gates numbered i gate same (omega (arith, h, count)) is
