use Rattle.std.proofs.Common.{◌≡◌, ◌<◌, ◌+◌, ℕ, Bool, true, false, List, length, ap, sym, ◌∙◌, refl, Some, get_or, drop}
use Rattle.std.specs.Prelude.{◌||◌, filter_map, slice_get}
use Rattle.std.proofs.lemmas.Option.{slice_get-get_or}
use Rattle.std.proofs.Math.Seq.{drop-cons}
use Rattle.std.proofs.Math.Numerals.{add-one}
use Rattle.td_domain_rows.specs.Counting.{is_one}
use Rattle.td_domain_rows.proofs.counting.reads_reached.Goals as goal

-- whether a known bit reaches the net at one of these places
abbrev one_at : List Bool → List ℕ → Bool
one_at all places = is_one (filter_map (slice_get all) places)

module _ (all : List Bool) (places : List ℕ) (i : ℕ) (d read is : Bool) (within : i < length places)
    (place : get_or places i 0 < length all) (at : read ≡ get_or all (get_or places i 0) d) (same : is ≡ read)
    (so_far : one_at all places ≡ one_at all (drop i places)) where
  one_more : (answer : Bool) → is ≡ answer → one_at all places ≡ (answer || one_at all (drop (i + 1) places))
  one_more answer known =
      let stands : slice_get all (get_or places i 0) ≡ Some read = slice_get-get_or all (get_or places i 0) d place ∙ ap (λ (b : Bool). Some b) (sym at) in
      let here : one_at all (drop i places) ≡ (read || one_at all (drop (i + 1) places)) = rw (add-one, drop-cons places i 0, stands) refl in
      so_far ∙ here ∙ ap (λ (b : Bool). b || one_at all (drop (i + 1) places)) (sym same ∙ known)

pub returns-then-is_reached : goal.returns-then-is_reached
returns-then-is_reached c =
    sym (one_more _ _ _ _ _ _ c.loop-place-test.true (c.requires _ 0 c.loop-place-test.true) c.index-all-place.is c.is_reached.ensures
    c.loop-place.invariant true c.if-is_reached.true)

pub loop-place-preserved : goal.loop-place-preserved
loop-place-preserved c =
    one_more _ _ _ _ _ _ c.loop-place-test.true (c.requires _ 0 c.loop-place-test.true) c.index-all-place.is c.is_reached.ensures
    c.loop-place.invariant false c.if-is_reached.false
