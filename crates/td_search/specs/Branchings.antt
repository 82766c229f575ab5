-- What a search with `lead` uses again for each node.
use Rattle.std.specs.Prelude.{◌≡◌, length}
use Rattle.td_circuit.specs.Numbering.{Numbered, nets}
use Rattle.td_domain.specs.Sheets.{IsSheet}
use Rattle.td_edges.specs.EdgeSignals.{edge_functions}
use Rattle.td_edges.specs.Coverage.{span_reach}
use Rattle.td_search.specs.declared.branching.Branching.{Branching}

-- the sheet is of this circuit, and the room for its nets
abbrev pub IsBranching : Numbered → Branching → Type 0
IsBranching circuit branching = IsSheet edge_functions (λ signal. span_reach signal.changes) circuit branching.edges × (branching.fan_in ≡ length (nets circuit))
