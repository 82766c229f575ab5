-- Over time, whether a wave's level may be another.
use Rattle.std.proofs.Common.{◌≡◌, ℕ, suc, List, [], ◌∷◌, refl, arith, ◌∙◌, sym, inl, inr}
use Rattle.std.specs.Prelude.{if◌then◌else◌}
use Rattle.std.proofs.lemmas.Bool.{cases_lt, le-leb, lt-leb}
use Rattle.td_gates.specs.declared.primitives.Level.{Level}
use Rattle.td_gates.specs.declared.timing.Change.{Change}
use Rattle.td_gates.specs.Table.{level_eq}
use Rattle.td_gates.specs.Wave.{level_after, IsRising}
use Rattle.td_gates.proofs.Levels.{level_eq-same, level_eq-other, cases_level, level_after-early, IsRising-sooner}
use Rattle.td_ternary.specs.Turning.{may_be}

-- the changes of whether it may
abbrev pub turns : Level → Level → List Change → List Change
turns wanted may [] = []
turns wanted may (change ∷ later) =
    if level_eq (may_be wanted change.level) may
    then turns wanted may later
    else (let turn : Change = record { moment = change.moment; level = may_be wanted change.level } in
    turn ∷ turns wanted (may_be wanted change.level) later)

pub turns-rising : (wanted level may : Level) (n : ℕ) (changes : List Change) → may ≡ may_be wanted level → IsRising n level changes
    → IsRising n may (turns wanted may changes)
turns-rising wanted level may n [] same rising = tt
turns-rising wanted level may n (change ∷ later) same rising = elim (cases_level (may_be wanted change.level) may) [
  | inl stays ↦ rw (stays, level_eq-same may)
      (IsRising-sooner n (suc change.moment) may _ (omega (arith, rising.0))
      (turns-rising wanted change.level may (suc change.moment) later (sym stays) rising.2))
  | inr turns_to ↦ rw (level_eq-other (may_be wanted change.level) may turns_to)
      (rising.0, (λ e. turns_to (sym e)), turns-rising wanted change.level (may_be wanted change.level) (suc change.moment) later refl rising.2)
]

pub turns-after : (wanted level may : Level) (n t : ℕ) (changes : List Change) → may ≡ may_be wanted level → IsRising n level changes
    → level_after may (turns wanted may changes) t ≡ may_be wanted (level_after level changes t)
turns-after wanted level may n t [] same rising = same
turns-after wanted level may n t (change ∷ later) same rising =
    elim (cases_level (may_be wanted change.level) may) [
      | inl stays ↦ rw (stays, level_eq-same may) (elim (cases_lt t change.moment) [
        | inl under ↦ rw (lt-leb change.moment t under)
            (level_after-early (suc change.moment) t may _
            (turns-rising wanted change.level may (suc change.moment) later (sym stays) rising.2) (omega arith) ∙ same)
        | inr on ↦ rw (le-leb change.moment t on) (turns-after wanted change.level may (suc change.moment) t later (sym stays) rising.2)
      ])
      | inr turns_to ↦ rw (level_eq-other (may_be wanted change.level) may turns_to) (elim (cases_lt t change.moment) [
        | inl under ↦ rw (lt-leb change.moment t under) same
        | inr on ↦ rw (le-leb change.moment t on)
            (turns-after wanted change.level (may_be wanted change.level) (suc change.moment) t later refl rising.2)
      ])
    ]
