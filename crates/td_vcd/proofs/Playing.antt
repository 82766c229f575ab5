-- What the lines of a dump give, played one after another.
use Rattle.std.proofs.Common.{◌≡◌, ◌≢◌, ℕ, zero, suc, ◌+◌, ◌<◌, ◌≤◌, List, [], ◌∷◌, ◌++◌, map, refl, arith, inl, inr, sym, ap, ◌∙◌, Some}
use Rattle.std.specs.Prelude.{slice_get, nat_le, ◌==◌, ◌&&◌, if◌then◌else◌}
use Rattle.std.proofs.lemmas.Bool.{cases_lt, cases_eq, lt-ltb, le-ltb, le-leb, lt-leb, eq-eqb, ne_eqb}
use Rattle.std.proofs.lemmas.List.{map-append}
use Rattle.std.proofs.lemmas.List.Elements.{filter-append}
use Rattle.td_gates.specs.declared.primitives.Level.{Level}
use Rattle.td_gates.specs.declared.timing.Change.{Change}
use Rattle.td_gates.specs.Wave.{Wave, IsRising}
use Rattle.td_gates.proofs.Levels.{level_under, level_under-early}
use Rattle.td_gates.proofs.Places.{none-some, some-same}
use Rattle.td_vcd.specs.declared.events.Event.{Event}
use Rattle.td_vcd.specs.Text.{Line, Keyword, Number, Sets, numbered, start_line, event_of, events_from, events_at, event_line}
use Rattle.td_vcd.specs.Says.{level_by}

-- the number of the last number line
abbrev pub under_after : ℕ → List Line → ℕ
under_after under [] = under
under_after under (Keyword words ∷ lines) = under_after under lines
under_after under (Number next ∷ lines) = under_after next lines
under_after under (Sets variable level ∷ lines) = under_after under lines

pub level_by-append : (k n under : ℕ) (level : Level) (these those : List Line)
    → level_by k n under level (these ++ those) ≡ level_by k n (under_after under these) (level_by k n under level these) those
level_by-append k n under level [] those = refl
level_by-append k n under level (Keyword words ∷ these) those = level_by-append k n under level these those
level_by-append k n under level (Number next ∷ these) those = level_by-append k n next level these those
level_by-append k n under level (Sets other new ∷ these) those =
    level_by-append k n under (if other == k && nat_le under n then new else level) these those

-- ---- the settled levels

starts_pass : (k n under j : ℕ) (level : Level) (waves : List Wave) → k < j → level_by k n under level (numbered start_line j waves) ≡ level
starts_pass k n under j level [] less = refl
starts_pass k n under j level (wave ∷ waves) less =
    rw (ne_eqb j k (λ same. omega (arith, same, less))) (starts_pass k n under (suc j) level waves (omega (arith, less)))

pub starts_set : (k n j i : ℕ) (level : Level) (waves : List Wave) (wave : Wave) → k ≡ j + i → slice_get waves i ≡ Some wave
    → level_by k n 0 level (numbered start_line j waves) ≡ wave.start
starts_set k n j i level [] wave is at = absurd (none-some wave at)
starts_set k n j zero level (first ∷ waves) wave is at =
    let here : j ≡ k = omega (arith, is) in
    rw (eq-eqb j k here, le-leb 0 n (omega arith))
    (starts_pass k n 0 (suc j) first.start waves (omega (arith, is)) ∙ ap (λ (w : Wave). w.start) (some-same first wave at))
starts_set k n j (suc i) level (first ∷ waves) wave is at =
    starts_set k n (suc j) i (if j == k && nat_le 0 n then first.start else level) waves wave (omega (arith, is)) at

-- ---- the changes of a moment

-- what the changes at a moment make of a level
abbrev pub set_at : ℕ → Level → List Change → Level
set_at t level [] = level
set_at t level (change ∷ later) = set_at t (if change.moment == t then change.level else level) later

pub too_late : (k n under : ℕ) (level : Level) (events : List Event) → n < under → level_by k n under level (map event_line events) ≡ level
too_late k n under level [] less = refl
too_late k n under level (event ∷ later) less = elim (cases_eq event.variable k) [
  | inl same ↦ rw (eq-eqb event.variable k same, lt-leb under n less) (too_late k n under level later less)
  | inr other ↦ rw (ne_eqb event.variable k other) (too_late k n under level later less)
]

others_pass : (k n under t j : ℕ) (level : Level) (changes : List Change) → j ≢ k
    → level_by k n under level (map event_line (events_at t (map (event_of j) changes))) ≡ level
others_pass k n under t j level [] apart = refl
others_pass k n under t j level (change ∷ later) apart = elim (cases_eq change.moment t) [
  | inl now ↦ rw (eq-eqb change.moment t now, ne_eqb j k apart) (others_pass k n under t j level later apart)
  | inr past ↦ rw (ne_eqb change.moment t past) (others_pass k n under t j level later apart)
]

own_sets : (k n under t : ℕ) (level : Level) (changes : List Change) → under ≤ n
    → level_by k n under level (map event_line (events_at t (map (event_of k) changes))) ≡ set_at t level changes
own_sets k n under t level [] reached = refl
own_sets k n under t level (change ∷ later) reached = elim (cases_eq change.moment t) [
  | inl now ↦ rw (eq-eqb change.moment t now, eq-eqb k k refl, le-leb under n reached) (own_sets k n under t change.level later reached)
  | inr past ↦ rw (ne_eqb change.moment t past) (own_sets k n under t level later reached)
]

pub under_after-sets : (under : ℕ) (events : List Event) → under_after under (map event_line events) ≡ under
under_after-sets under [] = refl
under_after-sets under (event ∷ later) = under_after-sets under later

-- first the changes of one wave, then those of the others
parted : (k n under t j : ℕ) (level : Level) (first : Wave) (waves : List Wave)
    → level_by k n under level (map event_line (events_at t (events_from j (first ∷ waves))))
    ≡ level_by k n under (level_by k n under level (map event_line (events_at t (map (event_of j) first.changes))))
    (map event_line (events_at t (events_from (suc j) waves)))
parted k n under t j level first waves =
    let own : List Event = events_at t (map (event_of j) first.changes) in
    let rest : List Event = events_at t (events_from (suc j) waves) in
    let split : map event_line (events_at t (events_from j (first ∷ waves))) ≡ map event_line own ++ map event_line rest =
    ap (λ (es : List Event). map event_line es) (filter-append (λ (event : Event). event.moment == t) (map (event_of j) first.changes) (events_from (suc j) waves))
    ∙ map-append event_line own rest in
    ap (λ (ls : List Line). level_by k n under level ls) split
    ∙ level_by-append k n under level (map event_line own) (map event_line rest)
    ∙ ap (λ (u : ℕ). level_by k n u (level_by k n under level (map event_line own)) (map event_line rest)) (under_after-sets under own)

passed : (k n under t j : ℕ) (level : Level) (waves : List Wave) → k < j
    → level_by k n under level (map event_line (events_at t (events_from j waves))) ≡ level
passed k n under t j level [] less = refl
passed k n under t j level (first ∷ waves) less =
    parted k n under t j level first waves
    ∙ ap (λ (l : Level). level_by k n under l (map event_line (events_at t (events_from (suc j) waves))))
    (others_pass k n under t j level first.changes (λ same. omega (arith, same, less)))
    ∙ passed k n under t (suc j) level waves (omega (arith, less))

-- the level after the changes at a moment, among those of all waves
pub set_among : (k n under t j i : ℕ) (level : Level) (waves : List Wave) (wave : Wave) → under ≤ n → k ≡ j + i
    → slice_get waves i ≡ Some wave
    → level_by k n under level (map event_line (events_at t (events_from j waves))) ≡ set_at t level wave.changes
set_among k n under t j i level [] wave reached is at = absurd (none-some wave at)
set_among k n under t j zero level (first ∷ waves) wave reached is at =
    let here : j ≡ k = omega (arith, is) in
    parted k n under t j level first waves
    ∙ ap (λ (l : Level). level_by k n under l (map event_line (events_at t (events_from (suc j) waves))))
    (ap (λ (m : ℕ). level_by k n under level (map event_line (events_at t (map (event_of m) first.changes)))) here ∙ own_sets k n under t level first.changes reached)
    ∙ passed k n under t (suc j) (set_at t level first.changes) waves (omega (arith, here))
    ∙ ap (λ (w : Wave). set_at t level w.changes) (some-same first wave at)
set_among k n under t j (suc i) level (first ∷ waves) wave reached is at =
    parted k n under t j level first waves
    ∙ ap (λ (l : Level). level_by k n under l (map event_line (events_at t (events_from (suc j) waves))))
    (others_pass k n under t j level first.changes (λ same. omega (arith, same, is)))
    ∙ set_among k n under t (suc j) i level waves wave reached (omega (arith, is)) at

-- ---- a wave by the changes at each moment

set_at-later : (t n : ℕ) (level before : Level) (changes : List Change) → IsRising n before changes → t < n → set_at t level changes ≡ level
set_at-later t n level before [] rising less = refl
set_at-later t n level before (change ∷ later) rising less =
    rw (ne_eqb change.moment t (λ same. omega (arith, same, less, rising.0)))
    (set_at-later t (suc change.moment) level change.level later rising.2 (omega (arith, less, rising.0)))

-- the level before a moment and its changes give the level before the next
pub set_at-next : (t n : ℕ) (level : Level) (changes : List Change) → IsRising n level changes
    → set_at t (level_under level changes t) changes ≡ level_under level changes (suc t)
set_at-next t n level [] rising = refl
set_at-next t n level (change ∷ later) rising = elim (cases_lt change.moment t) [
  | inl less ↦ rw (lt-ltb change.moment t less, lt-ltb change.moment (suc t) (omega (arith, less)), ne_eqb change.moment t (λ same. omega (arith, same, less)))
      (set_at-next t (suc change.moment) change.level later rising.2)
  | inr reached ↦ elim (cases_eq change.moment t) [
    | inl now ↦ rw (le-ltb change.moment t reached, lt-ltb change.moment (suc t) (omega (arith, now)), eq-eqb change.moment t now)
        (set_at-later t (suc change.moment) change.level change.level later rising.2 (omega (arith, now))
        ∙ sym (level_under-early (suc t) change.level later (rw now at rising.2)))
    | inr past ↦ rw (le-ltb change.moment t reached, le-ltb change.moment (suc t) (omega (arith, reached, past)), ne_eqb change.moment t past)
        (set_at-later t (suc change.moment) level change.level later rising.2 (omega (arith, reached)))
  ]
]
