-- How possible levels are computed: a level is possible where a buffer that is driven by "the
-- target may be it" is at 1.
use Rattle.std.proofs.Common.{◌≡◌, ◌≢◌, ℕ, zero, suc, ◌+◌, ◌-◌, ◌<◌, ◌≤◌, max, Bool, true, false, List, [], ◌∷◌, ◌++◌, length, refl, arith, ap, ◌∙◌, sym, inl, inr, append-nil}
use Rattle.std.specs.Prelude.{not, ◌&&◌, ◌||◌, filter_map, slice_get}
use Rattle.std.specs.List.{All, AllByRecursion}
use Rattle.std.proofs.Math.Path.{fun_ext}
use Rattle.std.proofs.lemmas.List.Elements.{recursion_from_All, All-nil, All-cons, All-weaker}
use Rattle.std.proofs.lemmas.Option.{slice_get-get_or}
use Rattle.std.proofs.lemmas.Bool.{cases_Bool}
use Rattle.td_gates.specs.declared.primitives.Level.{Level}
use Rattle.td_gates.specs.declared.primitives.Level.TheVariants.{Zero as Low, One as High, X}
use Rattle.td_gates.specs.declared.primitives.Kind.{Kind}
use Rattle.td_gates.specs.declared.primitives.Kind.TheVariants.{Buf}
use Rattle.td_gates.specs.declared.timing.Delay.{Delay}
use Rattle.td_gates.specs.declared.timing.Change.{Change}
use Rattle.td_gates.specs.Delays.{IsInRange}
use Rattle.td_gates.specs.Table.{delay_to, level_eq}
use Rattle.td_gates.specs.Wave.{Wave, before, IsRising, IsWave}
use Rattle.td_gates.specs.Schedule.{Obeys}
use Rattle.td_gates.proofs.Levels.{level_eq-same, level_eq-other, cases_level}
use Rattle.td_gates.proofs.Obedience.{waves-equal}
use Rattle.td_run.specs.Waves.{AreWithin, constant, waves_of}
use Rattle.td_domain.proofs.Lists.{filter_map-all, weaker}
use Rattle.td_gates.proofs.Windows.{Held}
use Rattle.td_gates.proofs.Delays.{IsDelayed, delayed, taken_last}
use Rattle.td_ternary.specs.Possibles.{has, set_of, held_for, is_possible, possible, changes_below, last_level, last_change, last_input, capped, gate_signal}
use Rattle.td_ternary.specs.PossibleLaws.{held_true, held_gives, same_is, boundaries_low, listed}
use Rattle.td_ternary.specs.Turning.{may_be, either, possible_after}

-- 1 where the test holds, else 0
abbrev pub level_of_test : Bool → Level
level_of_test true = High
level_of_test false = Low

high_means : (b : Bool) → level_of_test b ≡ High → b ≡ true
high_means true h = refl
high_means false h = cc

low_means : (b : Bool) → level_of_test b ≡ Low → not b ≡ true
low_means true h = cc
low_means false h = refl

x_never : (b : Bool) → level_of_test b ≡ X → ⊥
x_never true h = cc
x_never false h = cc

is_high : (b : Bool) → b ≡ true → level_of_test b ≡ High
is_high b h = rw h refl

is_low : (b : Bool) → not b ≡ true → level_of_test b ≡ Low
is_low true h = cc
is_low false h = refl

module _ (may : ℕ → Bool) (e : ℕ → Level) (delay : Delay) (fits : IsInRange delay) (o : ℕ → Level) (is : IsDelayed e delay o)
    (drives : (n : ℕ) → e n ≡ level_of_test (may n)) where
  window_high : (t : ℕ) → Held e High delay.rise t → held_for may delay.rise t ≡ true
  window_high t window = held_true may delay.rise t (λ k low. high_means (may (t - k)) (sym (drives (t - k)) ∙ window k low))

  window_low : (t : ℕ) → Held e Low delay.fall t → held_for (λ n. not (may n)) delay.fall t ≡ true
  window_low t window = held_true (λ n. not (may n)) delay.fall t (λ k low. low_means (may (t - k)) (sym (drives (t - k)) ∙ window k low))

  unwindow_high : (t : ℕ) → held_for may delay.rise t ≡ true → Held e High delay.rise t
  unwindow_high t all = λ k low. drives (t - k) ∙ is_high (may (t - k)) (held_gives may delay.rise t all k low)

  unwindow_low : (t : ℕ) → held_for (λ n. not (may n)) delay.fall t ≡ true → Held e Low delay.fall t
  unwindow_low t all = λ k low. drives (t - k) ∙ is_low (may (t - k)) (held_gives (λ n. not (may n)) delay.fall t all k low)

  comes : (a b c : Bool) → a ≡ true → level_of_test (a || (b && not c)) ≡ High
  comes a b c h = rw h refl

  goes : (a b c : Bool) → a ≡ false → c ≡ true → level_of_test (a || (b && not c)) ≡ Low
  goes a true c h k = rw (h, k) refl
  goes a false c h k = rw h refl

  keeps : (a b c : Bool) → a ≡ false → c ≡ false → level_of_test (a || (b && not c)) ≡ level_of_test b
  keeps a true c h k = rw (h, k) refl
  keeps a false c h k = rw h refl

  none_high : (t : ℕ) → ¬ Held e High delay.rise t → held_for may delay.rise t ≡ false
  none_high t none = elim (cases_Bool (held_for may delay.rise t)) [ inl all ↦ absurd (none (unwindow_high t all)) | inr some ↦ some ]

  none_low : (t : ℕ) → ¬ Held e Low delay.fall t → held_for (λ n. not (may n)) delay.fall t ≡ false
  none_low t none = elim (cases_Bool (held_for (λ n. not (may n)) delay.fall t)) [ inl all ↦ absurd (none (unwindow_low t all)) | inr some ↦ some ]

  -- the buffer's output says where the level is possible
  pub buffer_says : (n : ℕ) → o n ≡ level_of_test (is_possible may delay.rise delay.fall n)
  buffer_says zero = is.opening ∙ drives 0
  buffer_says (suc t) = elim (is.next t) [
    | inr it ↦ it.1 ∙ buffer_says t ∙ sym (keeps _ (is_possible may delay.rise delay.fall t) _ (none_high t (it.0 High)) (none_low t (it.0 Low)))
    | inl it ↦ it.2 ∙ taken it.0 it.1
  ]
    where
      taken : (level : Level) → Held e level (delay_to delay level) t → level ≡ level_of_test (is_possible may delay.rise delay.fall (suc t))
      taken High window = sym (comes _ (is_possible may delay.rise delay.fall t) _ (window_high t window))
      taken Low window =
          let last = taken_last e delay fits o is Low t window in
          let not_high : held_for may delay.rise t ≡ false = none_high t (λ high. let other = taken_last e delay fits o is High t high in cc) in
          sym (goes _ (is_possible may delay.rise delay.fall t) _ not_high (window_low t window))
      taken X window = absurd (x_never (may t) (sym (drives t) ∙ taken_last e delay fits o is X t window))

-- of a wave that a buffer with the gate's delay makes of "the target may be the level"
pub buffered : (may : ℕ → Bool) (delay : Delay) → IsInRange delay → (target out : Wave) → ((n : ℕ) → before target n ≡ level_of_test (may n))
    → Obeys Buf delay (target ∷ []) out → (n : ℕ) → before out n ≡ level_of_test (is_possible may delay.rise delay.fall n)
buffered may delay fits target out drives obeys =
    buffer_says may (before target) delay fits (before out) (delayed Buf delay fits (target ∷ []) out obeys) drives

-- the possible levels, from the two buffers' waves
pub either-possible : (delay : Delay) (target zeros ones : ℕ → Level)
    → ((n : ℕ) → zeros n ≡ level_of_test (is_possible (λ m. has (target m) Low) delay.fall delay.rise n))
    → ((n : ℕ) → ones n ≡ level_of_test (is_possible (λ m. has (target m) High) delay.rise delay.fall n))
    → (n : ℕ) → either (zeros n) (ones n) ≡ possible_after delay target n
either-possible delay target zeros ones low high n = rw (low n, high n) (both _ _)
  where
    both : (a b : Bool) → either (level_of_test a) (level_of_test b) ≡ set_of a b
    both true true = refl
    both true false = refl
    both false true = refl
    both false false = refl

may_be-test : (wanted level : Level) → may_be wanted level ≡ level_of_test (has level wanted)
may_be-test wanted level = elim (cases_Bool (has level wanted)) [ inl may ↦ rw may refl | inr never ↦ rw never refl ]

-- the wave of a buffer that is driven by whether the target may be the level
pub possible-buffered : (wanted : Level) (delay : Delay) → IsInRange delay → (target drive out : Wave) → ((n : ℕ) → before drive n ≡ may_be wanted (before target n))
    → Obeys Buf delay (drive ∷ []) out
    → (n : ℕ) → before out n ≡ level_of_test (is_possible (λ m. has (before target m) wanted) delay.rise delay.fall n)
possible-buffered wanted delay fits target drive out drives obeys =
    buffered (λ m. has (before target m) wanted) delay fits drive out (λ n. drives n ∙ may_be-test wanted (before target n)) obeys

-- one more change
rising-more : (m : ℕ) (s : Level) (changes : List Change) (b : Change) → IsRising m s changes → m ≤ b.moment
    → AllByRecursion (λ a. a.moment < b.moment) changes → last_level s changes ≢ b.level → IsRising m s (changes ++ b ∷ [])
rising-more m s [] b rising low below differ = (low, differ, tt)
rising-more m s (a ∷ changes) b rising low below differ =
    (rising.0, rising.1, rising-more (suc a.moment) a.level changes b rising.2 (omega (arith, below.0)) below.1 differ)

last_append : (s : Level) (changes : List Change) (b : Change) → last_level s (changes ++ b ∷ []) ≡ b.level
last_append s [] b = refl
last_append s (a ∷ changes) b = last_append a.level changes b

last_listed : (f : ℕ → Level) (H : ℕ) → last_level (f 0) (changes_below f H) ≡ f H
last_listed f zero = refl
last_listed f (suc H) = elim (cases_Bool (level_eq (f H) (f (suc H)))) [
  | inl same ↦ rw (same, append-nil (changes_below f H)) (last_listed f H ∙ same_is (f H) (f (suc H)) same)
  | inr other ↦ rw other (last_append (f 0) (changes_below f H) (record { moment = H; level = f (suc H) }))
]

-- the listing rises
listing-rising : (f : ℕ → Level) (H : ℕ) → IsRising 0 (f 0) (changes_below f H)
listing-rising f zero = tt
listing-rising f (suc H) = elim (cases_level (f H) (f (suc H))) [
  | inl same ↦ rw (same, level_eq-same (f (suc H)), append-nil (changes_below f H)) (listing-rising f H)
  | inr other ↦ rw (level_eq-other (f H) (f (suc H)) other)
      (rising-more 0 (f 0) (changes_below f H) (record { moment = H; level = f (suc H) }) (listing-rising f H) (omega arith)
      (boundaries_low f H) (λ h. other (sym (last_listed f H) ∙ h)))
]

-- a wave that shows the possible levels is the listing
pub computed : (kind : Kind) (delay : Delay) → IsInRange delay → (signals : List Wave) (shown : Wave) → IsWave shown
    → ((n : ℕ) → before shown n ≡ possible kind delay signals n)
    → record { start = shown.start; changes = capped shown.start shown.changes } ≡ gate_signal kind delay signals
computed kind delay fits signals shown rising shows =
    ap (λ (wave : Wave). cap wave.start wave.changes) (waves-equal shown whole rising
    (listing-rising (possible kind delay signals) (last_input signals + max delay.rise delay.fall + 1)) same)
  where
    cap : Level → List Change → Wave
    cap start changes = record { start = start; changes = capped start changes }

    whole : Wave
    whole = record {
      start = possible kind delay signals 0;
      changes = changes_below (possible kind delay signals) (last_input signals + max delay.rise delay.fall + 1);
    }

    same : (n : ℕ) → before shown n ≡ before whole n
    same zero = shows 0
    same (suc t) = shows (suc t) ∙ sym (listed kind delay fits signals t)

-- the signals at places that are there
pub picked-inputs : (waves : List Wave) (places : List ℕ) → All (λ place. place < length waves) places
    → filter_map (slice_get waves) places ≡ waves_of waves places
picked-inputs waves places there = filter_map-all _ _ places
    (weaker _ _ (λ place within. slice_get-get_or waves place (constant X) within) places
    (recursion_from_All (λ place. place < length waves) places there))

-- targets that are the same everywhere
pub possible_after-same : (delay : Delay) (these those : ℕ → Level) → ((n : ℕ) → these n ≡ those n) → (n : ℕ)
    → possible_after delay these n ≡ possible_after delay those n
possible_after-same delay these those same n = ap (λ target. possible_after delay target n) (fun_ext same)

moments-within : (bound : ℕ) (changes : List Change) → last_change changes ≤ bound → AreWithin bound changes
moments-within bound [] low = All-nil (λ (change : Change). change.moment ≤ bound)
moments-within bound (change ∷ later) low =
    All-cons (λ (change : Change). change.moment ≤ bound) change later (omega arith) (moments-within bound later (omega arith))

-- signals whose moments are small
pub inputs-within : (more : ℕ) (signals : List Wave) → All (λ signal. last_change signal.changes + more < 1000000000000000) signals
    → All (λ signal. AreWithin 9223372036854775808 signal.changes) signals
inputs-within more signals small = All-weaker (λ (signal : Wave). last_change signal.changes + more < 1000000000000000)
    (λ (signal : Wave). AreWithin 9223372036854775808 signal.changes)
    (λ signal low. moments-within 9223372036854775808 signal.changes (omega arith)) signals small
