-- Internal: which output has the bound of a cube, by the numbers of the nets.
use Rattle.std.specs.Prelude.{◌≡◌, ◌≢◌, ℕ, ◌<◌, List, [], length, slice_get, Option, Some, None}
use Rattle.td_nets.specs.Netlist.{Name, Named}
use Rattle.td_circuit.specs.Numbering.{Numbered, nets, setting}
use Rattle.td_domain.specs.declared.cubes.Trit.{Trit}
use Rattle.td_answer.specs.Bounds.{IsLatestBound}

-- none of these nets before this place has a signal with this last moment
abbrev pub NoneBefore : {S : Type 0} → (S → Option ℕ) → List S → List ℕ → Option ℕ → ℕ → Type 0
NoneBefore {S} last_of signals nets last end =
    (k net : ℕ) (signal : S) → k < end → slice_get nets k ≡ Some net → slice_get signals net ≡ Some signal → last_of signal ≢ last

-- the first of these nets that has a signal with this last moment
abbrev pub IsFirstWith : {S : Type 0} → (S → Option ℕ) → List S → List ℕ → Option ℕ → Option ℕ → Type 0
IsFirstWith last_of signals nets last None = NoneBefore last_of signals nets last (length nets)
IsFirstWith {S} last_of signals nets last (Some net) =
    (place : ℕ) × (signal : S) × (slice_get nets place ≡ Some net) × (slice_get signals net ≡ Some signal) × (last_of signal ≡ last)
    × NoneBefore last_of signals nets last place

-- this is the net of the output that has the bound; where there is none there are no outputs
abbrev pub IsBoundNet : Numbered → List Trit → Option ℕ → Option ℕ → Type 0
IsBoundNet circuit cube bound None = circuit.netlist.outputs ≡ []
IsBoundNet circuit cube bound (Some net) =
    (output : Name) × (slice_get (nets circuit) net ≡ Some (Named output)) × IsLatestBound (setting circuit) cube bound output
