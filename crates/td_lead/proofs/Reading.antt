-- The nets that a gate of a circuit reads.
use Rattle.std.proofs.Common.{◌≡◌, ℕ, ◌+◌, ◌<◌, List, length, map, get_or, arith}
use Rattle.std.specs.List.{All}
use Rattle.td_circuit.specs.declared.circuit.Gate.{Gate}
use Rattle.td_circuit.specs.Views.{gate_of}
use Rattle.td_circuit.specs.Numbering.{Numbered, nets, first_output, IsNumbering}
use Rattle.td_circuit.proofs.Nets.{length-nets}
use Rattle.td_event_sim.proofs.Fits.{all-numbers, length-gates}

-- a gate whose output is a net reads nets
pub reads : (circuit : Numbered) (gates : List Gate) (count net : ℕ) (gate : Gate) → IsNumbering circuit → map gate_of gates ≡ circuit.gates
    → count ≡ length (nets circuit) → first_output circuit + net < count
    → All (λ number. number < count) (get_or gates net gate).inputs.items
reads circuit gates count net gate numbering same all within =
    all-numbers circuit gates count numbering same all net gate
    (omega (arith, all, within, length-nets circuit numbering, length-gates circuit gates same))
