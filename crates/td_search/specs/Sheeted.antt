-- What a search uses again for each node.
use Rattle.std.specs.Prelude.{◌≡◌, Some}
use Rattle.td_circuit.specs.Numbering.{Numbered}
use Rattle.td_domain.specs.Sheets.{IsSheet}
use Rattle.td_arrival.specs.Arrivals.{arrival_functions}
use Rattle.td_arrival.specs.Coverage.{span_reach}
use Rattle.td_ternary.specs.Possibles.{possible_functions, last_change}
use Rattle.td_event_sim.specs.Scratch.{IsFor}
use Rattle.td_search.specs.declared.branching.Branching.{Branching}
use Rattle.td_search.specs.declared.sheets.Sheets.{Sheets}
use Rattle.td_search.specs.declared.scratch.Scratch.{Scratch}
use Rattle.td_search.specs.Branchings.{IsBranching}

-- the sheets are of this circuit
abbrev pub AreSheets : Numbered → Sheets → Type 0
AreSheets circuit sheets =
    IsSheet arrival_functions (λ signal. span_reach signal.changes) circuit sheets.arrival
    × IsSheet possible_functions (λ signal. last_change signal.changes) circuit sheets.possible

-- the scratch is for this circuit, and so is its guide, if it has one
abbrev pub IsScratch : Numbered → Scratch → Type 0
IsScratch circuit scratch =
    IsFor circuit scratch.events × AreSheets circuit scratch.sheets × ((branching : Branching) → scratch.branching ≡ Some branching → IsBranching circuit branching)
