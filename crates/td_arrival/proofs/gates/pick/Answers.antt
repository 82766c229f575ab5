use Rattle.std.proofs.Common.{◌≡◌, ◌<◌, ◌+◌, ◌++◌, ◌∷◌, [], ℕ, List, refl, take, get_or, length, Some}
use Rattle.std.specs.Prelude.{filter_map, slice_get}
use Rattle.std.proofs.lemmas.List.{take_more}
use Rattle.std.proofs.lemmas.List.Elements.{filter_map-append}
use Rattle.std.proofs.lemmas.Option.{slice_get-get_or}
use Rattle.td_arrival.proofs.gates.pick.Goals as goal

-- the elements at one more place
more : {X : Type 0} (xs : List X) (places : List ℕ) (i : ℕ) (d : X) (parts after : List X)
    → i < length places → get_or places i 0 < length xs
    → parts ≡ filter_map (slice_get xs) (take i places) → after ≡ parts ++ get_or xs (get_or places i 0) d ∷ []
    → after ≡ filter_map (slice_get xs) (take (i + 1) places)
more xs places i d parts after within place parts_are after_is =
    let stands : slice_get xs (get_or places i 0) ≡ Some (get_or xs (get_or places i 0) d) = slice_get-get_or xs (get_or places i 0) d place in
    let longer : take (i + 1) places ≡ take i places ++ get_or places i 0 ∷ [] = take_more places i 0 within in
    let picked : filter_map (slice_get xs) (get_or places i 0 ∷ []) ≡ get_or xs (get_or places i 0) d ∷ [] = rw stands refl in
    rw (after_is, parts_are, longer, filter_map-append, picked) refl

pub loop-place-preserved : goal.loop-place-preserved
loop-place-preserved c =
    more _ _ c.loop-place.place-index _ _ _ c.loop-place-test.true (c.requires _ 0 c.loop-place-test.true)
    c.loop-place.invariant c.in_ok-push.ensures.items
