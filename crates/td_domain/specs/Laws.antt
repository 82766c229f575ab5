-- Beside the model: laws of admitted pairs and worst delays.
use Rattle.std.specs.Prelude.{◌≡◌, ℕ, ◌*◌, length}
use Rattle.td_circuit.specs.Settings.{Setting, AreMoments}
use Rattle.td_run.specs.Laws.{IsAcyclic}
use Rattle.td_domain.specs.Pairs.{Pair}
use Rattle.td_domain.specs.Admits.{Admitted, IsAdmitted, all_pairs}
use Rattle.td_domain.specs.Worst.{IsWorst}

-- where nothing is restricted, each pair of vectors with a bit for each input is admitted
abbrev pub AllAdmitted : Type 0
AllAdmitted = (inputs : ℕ) (pair : Pair) → length pair.first ≡ inputs → length pair.second ≡ inputs
    → IsAdmitted (all_pairs inputs) pair

-- a setting without a loop has exactly one worst delay over the admitted pairs, where there is an
-- admitted pair, of pins with two positions for each input
abbrev pub OneWorst : Type 0
OneWorst = (setting : Setting) (admit : Admitted) → IsAcyclic setting.netlist → AreMoments setting.netlist setting.moments
    → length admit.pins ≡ 2 * length setting.netlist.inputs → (pair : Pair) → IsAdmitted admit pair
    → (worst : ℕ) × IsWorst setting admit worst × ((other : ℕ) → IsWorst setting admit other → other ≡ worst)
