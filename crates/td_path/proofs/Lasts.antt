-- The last change of a wave, and the latest of many.
use Rattle.std.proofs.Common.{◌≡◌, ◌≢◌, ℕ, suc, ◌≤◌, List, [], ◌∷◌, refl, arith, ◌∙◌, sym, Some, None}
use Rattle.std.proofs.lemmas.Bool.{le-leb, lt-ltb, le-ltb}
use Rattle.td_gates.specs.declared.primitives.Level.{Level}
use Rattle.td_gates.specs.declared.timing.Change.{Change}
use Rattle.td_gates.specs.Wave.{Wave, level_after, last_of, last, IsRising, IsWave}
use Rattle.td_gates.proofs.Levels.{level_under, before-level_under}
use Rattle.td_gates.proofs.Places.{none-some, some-same}
use Rattle.td_path.specs.Walks.{ChangesAt}

last-late : (n : ℕ) (level : Level) (changes : List Change) (t : ℕ) → IsRising n level changes → last_of changes ≡ Some t → n ≤ t
last-late n level [] t rising is = absurd (none-some t is)
last-late n level (change ∷ []) t rising is = let same = some-same change.moment t is in omega (arith, rising.0)
last-late n level (change ∷ next ∷ later) t rising is =
    let rest = last-late (suc change.moment) change.level (next ∷ later) t rising.2 is in omega (arith, rising.0)

differs : (n : ℕ) (level : Level) (changes : List Change) (t : ℕ) → IsRising n level changes → last_of changes ≡ Some t
    → level_after level changes t ≢ level_under level changes t
differs n level [] t rising is = absurd (none-some t is)
differs n level (change ∷ []) t rising is =
    let same = some-same change.moment t is in
    rw (le-leb change.moment t (omega arith), le-ltb change.moment t (omega arith)) (λ equal. rising.1 (sym equal))
differs n level (change ∷ next ∷ later) t rising is =
    let late = last-late (suc change.moment) change.level (next ∷ later) t rising.2 is in
    rw (le-leb change.moment t (omega arith), lt-ltb change.moment t (omega arith)) (differs (suc change.moment) change.level (next ∷ later) t rising.2 is)

-- a wave changes at the moment of its last change
pub last_changes : (wave : Wave) (t : ℕ) → IsWave wave → last wave ≡ Some t → ChangesAt wave t
last_changes wave t rising is = λ equal. differs 0 wave.start wave.changes t rising is (equal ∙ before-level_under wave t)

-- a wave without a last change has none
pub none_changes : (changes : List Change) → last_of changes ≡ None → changes ≡ []
none_changes [] is = refl
none_changes (change ∷ []) is = absurd (none-some change.moment (sym is))
none_changes (change ∷ next ∷ later) is = absurd (some_last next later is)
  where
    some_last : (next : Change) (later : List Change) → last_of (next ∷ later) ≡ None → ⊥
    some_last next [] is = none-some next.moment (sym is)
    some_last next (other ∷ later) is = some_last other later is
