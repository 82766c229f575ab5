-- The changes of a signal, capped.
use Rattle.std.proofs.Common.{◌≡◌, ℕ, suc, ◌-◌, ◌<◌, List, [], ◌∷◌, ◌++◌, length, take, drop, get_or, arith, ap, ◌∙◌, sym, refl, Some, None, inl, inr, drop-cons}
use Rattle.std.specs.Prelude.{slice_get, if◌then◌else◌}
use Rattle.std.proofs.lemmas.List.{take-append-drop}
use Rattle.td_gates.specs.declared.primitives.Level.{Level}
use Rattle.td_gates.specs.declared.primitives.Level.TheVariants.{X}
use Rattle.td_gates.specs.declared.timing.Change.{Change}
use Rattle.td_gates.specs.Wave.{Wave, IsRising, IsWave}
use Rattle.td_gates.proofs.Levels.{level_eq-other, cases_level}
use Rattle.td_gates.specs.Table.{level_eq}
use Rattle.td_ternary.specs.Possibles.{change_at, last_level, last_change, last_of}

widened-rising : (n : ℕ) (start : Level) (first : List Change) (next : Change) (later : List Change) → IsRising n start (first ++ next ∷ later)
    → IsRising n start (first ++ change_at next.moment (last_level start first) X)
widened-rising n start [] next later rising = elim (cases_level start X) [
  | inl same ↦ rw same tt
  | inr other ↦ rw (level_eq-other start X other) (rising.0, other, tt)
]
widened-rising n start (change ∷ first) next later rising =
    (rising.0, rising.1, widened-rising (suc change.moment) change.level first next later rising.2)

-- what stays of more changes rises
pub capped-rising : (n : ℕ) (start : Level) (changes : List Change) (other : Change) → 512 < length changes
    → IsRising n start changes → IsRising n start (take 511 changes ++ change_at (get_or changes 511 other).moment (last_level start (take 511 changes)) X)
capped-rising n start changes other many rising =
    let rest : drop 511 changes ≡ get_or changes 511 other ∷ drop 512 changes = drop-cons changes 511 other (omega arith) in
    let whole : take 511 changes ++ get_or changes 511 other ∷ drop 512 changes ≡ changes =
    ap (λ later. take 511 changes ++ later) (sym rest) ∙ take-append-drop 511 changes in
    widened-rising n start (take 511 changes) (get_or changes 511 other) (drop 512 changes) (rw whole rising)

-- what stays of a signal's changes, by its parts
module _ (signal : Wave) (start : Level) (all first kept : List Change) (other : Change) (starts : start ≡ signal.start) (whole : all ≡ signal.changes)
    (many : 512 < length all) (firsts : first ≡ take 511 all)
    (keeps : kept ≡ first ++ change_at (get_or all 511 other).moment (last_level start first) X) where
  pub kept-rising : IsWave signal → IsRising 0 start kept
  kept-rising rising =
      let long : 512 < length signal.changes = rw (← whole) many in
      rw (keeps, firsts, whole, starts) (capped-rising 0 signal.start signal.changes other long rising)

-- the last change has the last level
pub last_level-last : (start : Level) (changes : List Change) (change : Change) → slice_get changes (length changes - 1) ≡ Some change
    → last_level start changes ≡ change.level
last_level-last start [] change is = cc
last_level-last start (only ∷ []) change is = let same : only ≡ change = cc in ap (λ c. c.level) same
last_level-last start (first ∷ next ∷ later) change is =
    let place : length (first ∷ next ∷ later) - 1 ≡ suc (length (next ∷ later) - 1) = omega arith in
    last_level-last first.level (next ∷ later) change (rw place at is)

-- the last change of changes that rise is the greatest
pub last_change-rising : (n : ℕ) (level : Level) (changes : List Change) (change : Change) → IsRising n level changes
    → slice_get changes (length changes - 1) ≡ Some change → last_change changes ≡ change.moment
last_change-rising n level [] change rising is = cc
last_change-rising n level (only ∷ []) change rising is =
    let same : only ≡ change = cc in
    let moment : only.moment ≡ change.moment = ap (λ (c : Change). c.moment) same in
    omega arith
last_change-rising n level (first ∷ next ∷ later) change rising is =
    let place : length (first ∷ next ∷ later) - 1 ≡ suc (length (next ∷ later) - 1) = omega arith in
    let rest = last_change-rising (suc first.moment) first.level (next ∷ later) change rising.2 (rw place at is) in
    let after = rising.2.0 in
    omega arith

-- the last moment of a signal, by its last change
pub last_of-last : (signal : Wave) (change : Change) → IsWave signal → slice_get signal.changes (length signal.changes - 1) ≡ Some change
    → last_of signal ≡ (if level_eq change.level X then None else Some change.moment)
last_of-last signal change rising is =
    rw (last_level-last signal.start signal.changes change is, last_change-rising 0 signal.start signal.changes change rising is) refl
