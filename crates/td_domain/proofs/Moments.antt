-- The moments of a circuit's inputs, as they are read.
use Rattle.std.proofs.Common.{◌≡◌, ◌<◌, ◌≤◌, ◌^◌, ℕ, List, length, arith, refl, Some, get_or}
use Rattle.std.specs.Prelude.{slice_get}
use Rattle.std.specs.List.{All}
use Rattle.td_gates.proofs.Places.{get-slice_get}

-- an input has its moment
pub moment_below : (moments items : List ℕ) (inputs count i : ℕ) → items ≡ moments → length moments ≡ count → inputs ≡ count → i < inputs
    → i < length items
moment_below moments items inputs count i same each is below = rw same (omega arith)

pub moment_at : (moments items : List ℕ) (i d : ℕ) → items ≡ moments → i < length items → slice_get moments i ≡ Some (get_or items i d)
moment_at moments items i d same below = rw (← same) (get-slice_get items i d (get_or items i d) below refl)

pub moment_early : (moments items : List ℕ) (i d : ℕ) → items ≡ moments → i < length items → All (λ moment. moment ≤ 1000000000) moments
    → get_or items i d ≤ 10 ^ 9
moment_early moments items i d same below all =
    let each : All (λ moment. moment ≤ 1000000000) items = rw (← same) at all in
    let early : get_or items i d ≤ 1000000000 = each i d below in
    omega arith
