-- At each number a dump gives each variable the level of its wave.
use Rattle.std.proofs.Common.{◌≡◌, ℕ, zero, suc, ◌+◌, ◌-◌, ◌<◌, ◌≤◌, List, [], ◌∷◌, ◌++◌, map, refl, arith, inl, inr, sym, ap, ◌∙◌, Some}
use Rattle.std.specs.Prelude.{slice_get}
use Rattle.std.specs.List.{flat_map, AllByRecursion}
use Rattle.std.proofs.lemmas.Bool.{cases_lt, ne_eqb}
use Rattle.std.proofs.lemmas.List.{map-append}
use Rattle.td_gates.specs.declared.primitives.Level.{Level}
use Rattle.td_gates.specs.declared.timing.Change.{Change}
use Rattle.td_gates.specs.Wave.{Wave, IsWave, IsRising, at}
use Rattle.td_gates.proofs.Levels.{level_under, level_under-zero, level_under-suc}
use Rattle.td_gates.proofs.Places.{none-some, some-same}
use Rattle.td_nets.specs.Netlist.{Name, Netlist}
use Rattle.td_run.proofs.Sampling.{IsIncreasingFrom}
use Rattle.td_vcd.specs.declared.events.Event.{Event}
use Rattle.td_vcd.specs.Text.{Line, numbered, start_line, declaration, event_of, events_from, events_at, event_line, moment_of, moment_lines, rising, change_lines, dump_lines, dump_head, dump_begins, dump_ends}
use Rattle.td_vcd.specs.Says.{level_by}
use Rattle.td_vcd.proofs.Moments.{Has, above, rising-increasing, rising-has}
use Rattle.td_vcd.proofs.Playing.{under_after, level_by-append, starts_set, set_at, too_late, under_after-sets, set_among, set_at-next}
use Rattle.td_vcd.proofs.Steps.{regroup}

-- ---- where nothing changes

change_moment : Change → ℕ
change_moment change = change.moment

abbrev ChangesAt : ℕ → List Change → Type 0
ChangesAt t changes = Has t (map change_moment changes)

set_at-none : (t : ℕ) (level : Level) (changes : List Change) → ¬ ChangesAt t changes → set_at t level changes ≡ level
unfolding change_moment
set_at-none t level [] none = refl
set_at-none t level (change ∷ later) none =
    rw (ne_eqb change.moment t (λ same. none (inl same))) (set_at-none t level later (λ has. none (inr has)))

-- the level stays where no change comes
steady : (d m n : ℕ) (level : Level) (changes : List Change) → n ≡ m + d → IsRising 0 level changes
    → ((t : ℕ) → m ≤ t → t < n → ¬ ChangesAt t changes) → level_under level changes n ≡ level_under level changes m
steady zero m n level changes is rising none = let same : n ≡ m = omega (arith, is) in ap (λ (t : ℕ). level_under level changes t) same
steady (suc d) m n level changes is rising none =
    let next : n ≡ suc (m + d) = omega (arith, is) in
    ap (λ (t : ℕ). level_under level changes t) next
    ∙ sym (set_at-next (m + d) 0 level changes rising)
    ∙ set_at-none (m + d) (level_under level changes (m + d)) changes (none (m + d) (omega arith) (omega (arith, is)))
    ∙ steady d m (m + d) level changes refl rising (λ t from below. none t from (omega (arith, below, is)))

unchanged : (m n : ℕ) (level : Level) (changes : List Change) → m ≤ n → IsRising 0 level changes
    → ((t : ℕ) → m ≤ t → t < n → ¬ ChangesAt t changes) → level_under level changes n ≡ level_under level changes m
unchanged m n level changes up rising none = steady (n - m) m n level changes (omega (arith, up)) rising none

-- ---- the lines of changes

-- the lines of a moment, and then others
moment_step : (k n under t : ℕ) (level : Level) (events : List Event) (rest : List Line)
    → level_by k n under level (moment_lines events t ++ rest)
    ≡ level_by k n (suc t) (level_by k n (suc t) level (map event_line (events_at t events))) rest
moment_step k n under t level events rest =
    level_by-append k n (suc t) level (map event_line (events_at t events)) rest
    ∙ ap (λ (u : ℕ). level_by k n u (level_by k n (suc t) level (map event_line (events_at t events))) rest) (under_after-sets (suc t) (events_at t events))

-- what comes after a number has no part in it
late : (k n m under : ℕ) (level : Level) (events : List Event) (moments : List ℕ) → n ≤ m → IsIncreasingFrom m moments
    → level_by k n under level (flat_map (moment_lines events) moments) ≡ level
late k n m under level events [] past increasing = refl
late k n m under level events (t ∷ moments) past increasing =
    moment_step k n under t level events (flat_map (moment_lines events) moments)
    ∙ ap (λ (l : Level). level_by k n (suc t) l (flat_map (moment_lines events) moments))
    (too_late k n (suc t) level (events_at t events) (omega (arith, past, increasing.0)))
    ∙ late k n (suc t) (suc t) level events moments (omega (arith, past, increasing.0)) increasing.1

played : (k n m under : ℕ) (waves : List Wave) (wave : Wave) (moments : List ℕ) → slice_get waves k ≡ Some wave → IsWave wave → m ≤ n
    → IsIncreasingFrom m moments → ((t : ℕ) → m ≤ t → ChangesAt t wave.changes → Has t moments)
    → level_by k n under (level_under wave.start wave.changes m) (flat_map (moment_lines (events_from 0 waves)) moments)
    ≡ level_under wave.start wave.changes n
played k n m under waves wave [] is rises up increasing has =
    sym (unchanged m n wave.start wave.changes up rises (λ t from below found. has t from found))
played k n m under waves wave (t ∷ moments) is rises up increasing has = elim (cases_lt t n) [
  | inl inside ↦
      let here : level_under wave.start wave.changes t ≡ level_under wave.start wave.changes m =
      unchanged m t wave.start wave.changes increasing.0 rises (quiet t (omega arith)) in
      moment_step k n under t (level_under wave.start wave.changes m) events (flat_map (moment_lines events) moments)
      ∙ ap (λ (l : Level). level_by k n (suc t) l (flat_map (moment_lines events) moments))
      (set_among k n (suc t) t 0 k (level_under wave.start wave.changes m) waves wave (omega (arith, inside)) (omega arith) is
      ∙ ap (λ (l : Level). set_at t l wave.changes) (sym here)
      ∙ set_at-next t 0 wave.start wave.changes rises)
      ∙ played k n (suc t) (suc t) waves wave moments is rises (omega (arith, inside)) increasing.1
      (λ u from found. behind u from (has u (omega (arith, from, increasing.0)) found))
  | inr past ↦
      late k n t under (level_under wave.start wave.changes m) events (t ∷ moments) past (omega arith, increasing.1)
      ∙ sym (unchanged m n wave.start wave.changes up rises (quiet n past))
]
  where
    events : List Event
    events = events_from 0 waves

    quiet : (n : ℕ) → n ≤ t → (u : ℕ) → m ≤ u → u < n → ¬ ChangesAt u wave.changes
    quiet n low u from below found =
        let reached : t ≤ u = above t u (t ∷ moments) (omega arith, increasing.1) (has u from found) in omega (arith, low, below, reached)

    behind : (u : ℕ) → suc t ≤ u → Has u (t ∷ moments) → Has u moments
    behind u from found = elim found [
      | inl same ↦ absurd (omega (arith, same, from))
      | inr further ↦ further
    ]

-- ---- the changes of a wave are among those of all

has_left : (t : ℕ) (xs ys : List ℕ) → Has t xs → Has t (xs ++ ys)
has_left t [] ys found = absurd found
has_left t (x ∷ xs) ys found = elim found [
  | inl is ↦ inl is
  | inr further ↦ inr (has_left t xs ys further)
]

has_right : (t : ℕ) (xs ys : List ℕ) → Has t ys → Has t (xs ++ ys)
has_right t [] ys found = found
has_right t (x ∷ xs) ys found = inr (has_right t xs ys found)

has_event : (t variable : ℕ) (changes : List Change) → ChangesAt t changes → Has t (map moment_of (map (event_of variable) changes))
unfolding change_moment
has_event t variable [] found = found
has_event t variable (change ∷ later) found = elim found [
  | inl is ↦ inl is
  | inr further ↦ inr (has_event t variable later further)
]

among : (t j i : ℕ) (waves : List Wave) (wave : Wave) → slice_get waves i ≡ Some wave → ChangesAt t wave.changes
    → Has t (map moment_of (events_from j waves))
among t j i [] wave is found = absurd (none-some wave is)
among t j zero (first ∷ waves) wave is found =
    rw (map-append moment_of (map (event_of j) first.changes) (events_from (suc j) waves))
    (has_left t (map moment_of (map (event_of j) first.changes)) (map moment_of (events_from (suc j) waves))
    (has_event t j first.changes (rw (sym (some-same first wave is)) at found)))
among t j (suc i) (first ∷ waves) wave is found =
    rw (map-append moment_of (map (event_of j) first.changes) (events_from (suc j) waves))
    (has_right t (map moment_of (map (event_of j) first.changes)) (map moment_of (events_from (suc j) waves)) (among t (suc j) i waves wave is found))

-- ---- the whole dump

declarations_pass : (k n under j : ℕ) (level : Level) (names : List Name) (later : List Line)
    → level_by k n under level (numbered declaration j names ++ later) ≡ level_by k n under level later
declarations_pass k n under j level [] later = refl
declarations_pass k n under j level (name ∷ names) later = declarations_pass k n under (suc j) level names later

under_after-starts : (under j : ℕ) (waves : List Wave) → under_after under (numbered start_line j waves) ≡ under
under_after-starts under j [] = refl
under_after-starts under j (wave ∷ waves) = under_after-starts under (suc j) waves

said : (netlist : Netlist) (names : List Name) (waves : List Wave) (k n : ℕ) (wave : Wave) (level : Level) → slice_get waves k ≡ Some wave → IsWave wave
    → level_by k n 0 level (dump_lines netlist names waves) ≡ level_under wave.start wave.changes n
said netlist names waves k n wave level is rises =
    let starts : List Line = numbered start_line 0 waves in
    let changes : List Line = change_lines (events_from 0 waves) in
    ap (λ (ls : List Line). level_by k n 0 level ls)
    (regroup (dump_head netlist) (numbered declaration 0 names) dump_begins starts dump_ends changes)
    ∙ declarations_pass k n 0 0 level names (dump_begins ++ (starts ++ (dump_ends ++ changes)))
    ∙ level_by-append k n 0 level starts (dump_ends ++ changes)
    ∙ ap (λ (u : ℕ). level_by k n u (level_by k n 0 level starts) (dump_ends ++ changes)) (under_after-starts 0 0 waves)
    ∙ ap (λ (l : Level). level_by k n 0 l changes)
    (starts_set k n 0 k level waves wave (omega arith) is ∙ sym (level_under-zero wave.start wave.changes))
    ∙ played k n 0 0 waves wave (rising (map moment_of (events_from 0 waves))) is rises (omega arith)
    (rising-increasing (map moment_of (events_from 0 waves)))
    (λ t from found. rising-has t (map moment_of (events_from 0 waves)) (among t 0 k waves wave is found))

wave_of_all : (waves : List Wave) (k : ℕ) (wave : Wave) → AllByRecursion IsWave waves → slice_get waves k ≡ Some wave → IsWave wave
wave_of_all [] k wave all is = absurd (none-some wave is)
wave_of_all (first ∷ waves) zero wave all is = rw (some-same first wave is) at all.0
wave_of_all (first ∷ waves) (suc k) wave all is = wave_of_all waves k wave all.1 is

pub says_start : (netlist : Netlist) (names : List Name) (waves : List Wave) (k : ℕ) (wave : Wave) (level : Level) → AllByRecursion IsWave waves
    → slice_get waves k ≡ Some wave → level_by k 0 0 level (dump_lines netlist names waves) ≡ wave.start
says_start netlist names waves k wave level all is =
    said netlist names waves k 0 wave level is (wave_of_all waves k wave all is) ∙ level_under-zero wave.start wave.changes

pub says_level : (netlist : Netlist) (names : List Name) (waves : List Wave) (k t : ℕ) (wave : Wave) (level : Level) → AllByRecursion IsWave waves
    → slice_get waves k ≡ Some wave → level_by k (suc t) 0 level (dump_lines netlist names waves) ≡ at wave t
says_level netlist names waves k t wave level all is =
    said netlist names waves k (suc t) wave level is (wave_of_all waves k wave all is) ∙ level_under-suc wave.start wave.changes t
