-- Internal: proofs of the laws of possible levels; an impl block takes them from specs/ alone.
use Rattle.std.proofs.Common.{◌≡◌, ◌≢◌, ℕ, zero, suc, ◌+◌, ◌-◌, ◌<◌, ◌≤◌, ◌^◌, min, max, Bool, true, false, List, [], ◌∷◌, ◌++◌, length, map, refl, arith, ap, subst, ◌∙◌, sym, Some, ◌⊎◌, inl, inr, take, drop}
use Rattle.std.specs.Prelude.{nat_le, not, ◌&&◌, ◌||◌}
use Rattle.std.specs.List.{All, AllZip, AllByRecursion, Contains}
use Rattle.std.proofs.lemmas.Bool.{cases_lt, cases_eq, le-leb, lt-leb, cases_Bool, or_left, or_right, and_parts}
use Rattle.std.proofs.lemmas.List.Elements.{recursion_from_All}
use Rattle.std.proofs.lemmas.List.{append-nil}
use Rattle.td_gates.specs.declared.primitives.Level.{Level}
use Rattle.td_gates.specs.declared.primitives.Level.TheVariants.{Zero as Low, One as High, X}
use Rattle.td_gates.specs.declared.primitives.Kind.{Kind}
use Rattle.td_gates.specs.declared.timing.Delay.{Delay}
use Rattle.td_gates.specs.declared.timing.Change.{Change}
use Rattle.td_gates.specs.Delays.{IsInRange}
use Rattle.td_gates.specs.Table.{level_from, table, delay_to, level_eq, TakesInputs}
use Rattle.td_gates.specs.Wave.{Wave, level_after, before}
use Rattle.td_gates.specs.Schedule.{Obeys, target_before}
use Rattle.td_domain.specs.declared.cubes.Trit.{Trit}
use Rattle.td_domain.specs.declared.cubes.Trit.TheVariants.{Zero, One, Free}
use Rattle.td_domain.specs.Waves.{IsBoolean, IsQuietAfter, IsConstant}
use Rattle.td_domain.specs.Cubes.{level_of_trit, Allows, IsInputWave}
use Rattle.td_domain.proofs.Lists.{weaker, take-drop, all_append}
use Rattle.td_gates.proofs.Windows.{Held}
use Rattle.td_gates.proofs.Delays.{IsDelayed, delayed, delayed-boolean}
use Rattle.td_gates.proofs.TableLaws.{Booleans, table-boolean, table_known}
use Rattle.td_gates.specs.Known.{Agrees}
use Rattle.td_gates.proofs.KnownLaws.{length-levels}
use Rattle.td_ternary.specs.Possibles.{has, set_of, change_at, input_signal, constant_signal, held_for, is_possible, possible, changes_below, last_change, last_input, last_level, widened, capped, gate_signal, last_of}
use Rattle.td_ternary.specs.Coverage.{LevelsCover, HasMoment}

-- windows of tests
pub held_true : (test : ℕ → Bool) (d t : ℕ) → ((k : ℕ) → k < d → test (t - k) ≡ true) → held_for test d t ≡ true
held_true test zero t all = refl
held_true test (suc d) t all = rw (all d (omega arith)) (held_true test d t (λ k low. all k (omega arith)))

pub held_gives : (test : ℕ → Bool) (d t : ℕ) → held_for test d t ≡ true → (k : ℕ) → k < d → test (t - k) ≡ true
held_gives test zero t is k low = absurd (omega arith)
held_gives test (suc d) t is k low =
    let both = and_parts (test (t - d)) (held_for test d t) is in
    elim (cases_eq k d) [
      | inl same ↦ rw same both.0
      | inr other ↦ held_gives test d t both.1 k (omega arith)
    ]

pub not_false : (b : Bool) → not b ≡ true → b ≡ false
not_false true h = cc
not_false false h = refl

stays : (a g : Bool) → a ≡ true → g ≡ false → a && not g ≡ true
stays a g h k = rw (h, k) refl

-- the output of a gate is at a level only where that level is possible
pub level_possible : (may : ℕ → Bool) (e : ℕ → Level) (delay : Delay) (o : ℕ → Level) → IsDelayed e delay o → (level other : Level)
    → ((n : ℕ) → e n ≡ level → may n ≡ true) → ((n : ℕ) → may n ≡ false → e n ≡ other)
    → (n : ℕ) → o n ≡ level → is_possible may (delay_to delay level) (delay_to delay other) n ≡ true
level_possible may e delay o is level other there away zero here = there 0 (sym is.opening ∙ here)
level_possible may e delay o is level other there away (suc t) here = elim (is.next t) [
  | inl it ↦
      let same : it.0 ≡ level = sym it.2 ∙ here in
      let window : Held e level (delay_to delay level) t = rw same at it.1 in
      or_left _ _ (held_true may (delay_to delay level) t (λ k low. there (t - k) (window k low)))
  | inr it ↦
      let old = level_possible may e delay o is level other there away t (sym it.1 ∙ here) in
      elim (cases_Bool (held_for (λ n. not (may n)) (delay_to delay other) t)) [
        | inl gone ↦ absurd (it.0 other (λ k low. away (t - k) (not_false (may (t - k)) (held_gives (λ n. not (may n)) (delay_to delay other) t gone k low))))
        | inr kept ↦ or_right _ _ (stays _ _ old kept)
      ]
]

never_x : (set : Level) → has set X ≡ true → ⊥
never_x Low h = cc
never_x High h = cc
never_x X h = cc

set_low : (zero one : Bool) → zero ≡ true → has (set_of zero one) Low ≡ true
set_low true true h = refl
set_low true false h = refl
set_low false one h = cc

set_high : (zero one : Bool) → one ≡ true → has (set_of zero one) High ≡ true
set_high true true h = refl
set_high true false h = cc
set_high false one h = refl

covered_boolean : (set : Level) (level : Level) → has set level ≡ true → level ≢ X
covered_boolean set Low h = λ e. cc
covered_boolean set High h = λ e. cc
covered_boolean set X h = absurd (never_x set h)

-- a level that is among those that another stands for agrees with it, and is Boolean
has_agrees : (set level : Level) → has set level ≡ true → Agrees set level
has_agrees Low Low h = λ clear. refl
has_agrees Low High h = cc
has_agrees Low X h = cc
has_agrees High Low h = cc
has_agrees High High h = λ clear. refl
has_agrees High X h = cc
has_agrees X level h = λ clear. absurd (clear refl)

agrees_has : (set level : Level) → level ≢ X → Agrees set level → has set level ≡ true
agrees_has Low level boolean agree = let same : level ≡ Low = agree (λ e. cc) in rw same refl
agrees_has High level boolean agree = let same : level ≡ High = agree (λ e. cc) in rw same refl
agrees_has X Low boolean agree = refl
agrees_has X High boolean agree = refl
agrees_has X X boolean agree = absurd (boolean refl)

agree_at : (signals ins : List Wave) (n : ℕ) → AllZip LevelsCover signals ins
    → AllZip Agrees (map (λ wave. before wave n) signals) (map (λ wave. before wave n) ins)
agree_at [] [] n covered = tt
agree_at (s ∷ signals) [] n covered = absurd covered
agree_at [] (w ∷ ins) n covered = absurd covered
agree_at (s ∷ signals) (w ∷ ins) n covered = (has_agrees _ _ (covered.0 n), agree_at signals ins n covered.1)

booleans_at : (signals ins : List Wave) (n : ℕ) → AllZip LevelsCover signals ins → Booleans (map (λ wave. before wave n) ins)
booleans_at [] [] n covered = tt
booleans_at (s ∷ signals) [] n covered = absurd covered
booleans_at [] (w ∷ ins) n covered = absurd covered
booleans_at (s ∷ signals) (w ∷ ins) n covered = (covered_boolean _ _ (covered.0 n), booleans_at signals ins n covered.1)

-- the output's level is possible
pub covers_possible : (kind : Kind) (delay : Delay) (signals : List Wave) (ins : List Wave) (out : Wave)
    → TakesInputs kind (length ins) → AllZip LevelsCover signals ins → IsDelayed (target_before kind ins) delay (before out)
    → (n : ℕ) → before out n ≢ X → has (possible kind delay signals n) (before out n) ≡ true
covers_possible kind delay signals ins out takes covered is n boolean = go (before out n) refl boolean
  where
    target : (m : ℕ) → has (target_before kind signals m) (target_before kind ins m) ≡ true
    target m = agrees_has _ _ (table-boolean kind _ (rw (length-levels ins m) takes) (booleans_at signals ins m covered))
        (table_known kind _ _ (agree_at signals ins m covered))

    is_low : (m : ℕ) → target_before kind ins m ≡ Low → has (target_before kind signals m) Low ≡ true
    is_low m same = rw same at (target m)

    is_high : (m : ℕ) → target_before kind ins m ≡ High → has (target_before kind signals m) High ≡ true
    is_high m same = rw same at (target m)

    not_low : (set : Level) (level : Level) → has set level ≡ true → has set Low ≡ false → level ≡ High
    not_low set Low h gone = cc
    not_low set High h gone = refl
    not_low set X h gone = absurd (never_x set h)

    not_high : (set : Level) (level : Level) → has set level ≡ true → has set High ≡ false → level ≡ Low
    not_high set Low h gone = refl
    not_high set High h gone = cc
    not_high set X h gone = absurd (never_x set h)

    go : (level : Level) → before out n ≡ level → level ≢ X → has (possible kind delay signals n) level ≡ true
    go Low same bool = set_low _ _ (level_possible (λ m. has (target_before kind signals m) Low) (target_before kind ins) delay (before out) is Low High
        is_low (λ m out_of. not_low (target_before kind signals m) (target_before kind ins m) (target m) out_of) n same)
    go High same bool = set_high _ _ (level_possible (λ m. has (target_before kind signals m) High) (target_before kind ins) delay (before out) is High Low
        is_high (λ m out_of. not_high (target_before kind signals m) (target_before kind ins m) (target m) out_of) n same)
    go X same bool = absurd (bool refl)

-- sets that are the same
pub same_is : (a b : Level) → level_eq a b ≡ true → a ≡ b
same_is Low Low h = refl
same_is Low High h = cc
same_is Low X h = cc
same_is High Low h = cc
same_is High High h = refl
same_is High X h = cc
same_is X Low h = cc
same_is X High h = cc
same_is X X h = refl

-- a boundary after the others
after_early : (s : Level) (boundaries : List Change) (b : Change) (t : ℕ) → t < b.moment
    → level_after s (boundaries ++ b ∷ []) t ≡ level_after s boundaries t
after_early s [] b t early = rw (lt-leb b.moment t early) refl
after_early s (a ∷ boundaries) b t early = elim (cases_lt t a.moment) [
  | inl under ↦ rw (lt-leb a.moment t under) refl
  | inr on ↦ rw (le-leb a.moment t on) (after_early a.level boundaries b t early)
]

after_late : (s : Level) (boundaries : List Change) (b : Change) (t : ℕ) → AllByRecursion (λ a. a.moment < b.moment) boundaries
    → b.moment ≤ t → level_after s (boundaries ++ b ∷ []) t ≡ b.level
after_late s [] b t below late = rw (le-leb b.moment t late) refl
after_late s (a ∷ boundaries) b t below late =
    let on : a.moment ≤ t = omega (arith, below.0) in
    rw (le-leb a.moment t on) (after_late a.level boundaries b t below.1 late)

one_below : (moment H : ℕ) (old new : Level) → moment < H → AllByRecursion (λ b. b.moment < H) (change_at moment old new)
one_below moment H old new low = elim (cases_Bool (level_eq old new)) [
  | inl same ↦ rw same tt
  | inr other ↦ rw other (low, tt)
]

pub boundaries_low : (f : ℕ → Level) (H : ℕ) → AllByRecursion (λ b. b.moment < H) (changes_below f H)
boundaries_low f zero = tt
boundaries_low f (suc H) = all_append _ (changes_below f H) (change_at H (f H) (f (suc H)))
    (weaker _ _ (λ b low. omega arith) (changes_below f H) (boundaries_low f H))
    (one_below H (suc H) (f H) (f (suc H)) (omega arith))

-- the listing shows the sets
pub shown : (f : ℕ → Level) (H t : ℕ) → level_after (f 0) (changes_below f H) t ≡ f (min (suc t) H)
shown f zero t = let e : 0 ≡ min (suc t) 0 = omega arith in ap f e
shown f (suc H) t = elim (cases_Bool (level_eq (f H) (f (suc H)))) [
  | inl same ↦ rw (same, append-nil) (shown f H t ∙ elim (cases_lt t H) [
    | inl early ↦ (let e : min (suc t) H ≡ min (suc t) (suc H) = omega arith in ap f e)
    | inr late ↦
        let e : min (suc t) H ≡ H = omega arith in
        let g : suc H ≡ min (suc t) (suc H) = omega arith in
        ap f e ∙ same_is (f H) (f (suc H)) same ∙ ap f g
  ])
  | inr other ↦ rw other (elim (cases_lt t H) [
    | inl early ↦
        let e : min (suc t) H ≡ min (suc t) (suc H) = omega arith in
        after_early (f 0) (changes_below f H) (record { moment = H; level = f (suc H) }) t early ∙ shown f H t ∙ ap f e
    | inr late ↦
        let g : suc H ≡ min (suc t) (suc H) = omega arith in
        after_late (f 0) (changes_below f H) (record { moment = H; level = f (suc H) }) t (boundaries_low f H) late ∙ ap f g
  ])
]

-- after the last boundary the set is the last one
pub settled : (s : Level) (boundaries : List Change) (t : ℕ) → last_change boundaries ≤ t → level_after s boundaries t ≡ last_level s boundaries
settled s [] t late = refl
settled s (b ∷ boundaries) t late =
    let on : b.moment ≤ t = omega arith in
    rw (le-leb b.moment t on) (settled b.level boundaries t (omega arith))

-- after the inputs' last boundary the targets stay
targets_stay : (signals : List Wave) (t u : ℕ) → last_input signals ≤ t → last_input signals ≤ u
    → map (λ signal. before signal (suc t)) signals ≡ map (λ signal. before signal (suc u)) signals
targets_stay [] t u one two = refl
targets_stay (s ∷ signals) t u one two =
    let rest = targets_stay signals t u (omega arith) (omega arith) in
    let here : level_after s.start s.changes t ≡ level_after s.start s.changes u =
    settled s.start s.changes t (omega arith) ∙ sym (settled s.start s.changes u (omega arith)) in
    rw (here, rest) refl

pub held_false : (test : ℕ → Bool) (d t : ℕ) → 1 ≤ d → test t ≡ false → held_for test d t ≡ false
held_false test zero t some fails = absurd (omega arith)
held_false test (suc d) t some fails = elim (cases_Bool (held_for test (suc d) t)) [
  | inr is ↦ is
  | inl is ↦
      let first = held_gives test (suc d) t is 0 (omega arith) in
      let e : t - 0 ≡ t = omega arith in
      let passes : test t ≡ true = rw e at first in
      cc
]

-- once the targets stay, so does what is possible
pub possible_stays : (may : ℕ → Bool) (coming going M D : ℕ) → 1 ≤ coming → coming ≤ D → going ≤ D
    → ((t u : ℕ) → M ≤ t → M ≤ u → may (suc t) ≡ may (suc u))
    → (t : ℕ) → M + D ≤ t → is_possible may coming going (suc t) ≡ may (suc M)
possible_stays may coming going M D some short fast stay t late =
    elim (cases_Bool (may (suc M))) [
      | inl on ↦ or_left _ _ (held_true may coming t (λ k low. at_place (t - k) (omega arith) ∙ on)) ∙ sym on
      | inr off ↦
          let none : held_for may coming t ≡ false = held_false may coming t some (at_place t (omega arith) ∙ off) in
          let gone : held_for (λ n. not (may n)) going t ≡ true =
          held_true (λ n. not (may n)) going t (λ k low. ap not (at_place (t - k) (omega arith) ∙ off)) in
          drops _ _ _ none gone ∙ sym off
    ]
  where
    at_place : (n : ℕ) → M < n → may n ≡ may (suc M)
    at_place zero after = absurd (omega arith)
    at_place (suc n) after = stay n M (omega arith) (omega arith)

    drops : (a b c : Bool) → a ≡ false → c ≡ true → a || (b && not c) ≡ false
    drops a true c h k = rw (h, k) refl
    drops a false c h k = rw h refl

-- the set of both levels has each Boolean one
all_in : (v : Level) → v ≢ X → has X v ≡ true
all_in Low h = refl
all_in High h = refl
all_in X h = absurd (h refl)

same_either : (set : Level) (level : Level) → level ≢ X → level_eq set X ≡ true → has set level ≡ true
same_either set level boolean same = let is = same_is set X same in rw is (all_in level boolean)

-- the cap only widens sets
widens : (s : Level) (first : List Change) (b : Change) (later : List Change) (t : ℕ) (level : Level) → level ≢ X
    → has (level_after s (first ++ b ∷ later) t) level ≡ true
    → has (level_after s (first ++ change_at b.moment (last_level s first) X) t) level ≡ true
widens s [] b later t level boolean h = elim (cases_Bool (level_eq s X)) [
  | inl same ↦ rw same (same_either s level boolean same)
  | inr other ↦ rw other (elim (cases_lt t b.moment) [
    | inl under ↦ rw (lt-leb b.moment t under) (rw (lt-leb b.moment t under) at h)
    | inr on ↦ rw (le-leb b.moment t on) (all_in level boolean)
  ])
]
widens s (a ∷ first) b later t level boolean h = elim (cases_lt t a.moment) [
  | inl under ↦ rw (lt-leb a.moment t under) (rw (lt-leb a.moment t under) at h)
  | inr on ↦ rw (le-leb a.moment t on) (widens a.level first b later t level boolean (rw (le-leb a.moment t on) at h))
]

widened_has : (s : Level) (first rest : List Change) (t : ℕ) (level : Level) → level ≢ X
    → has (level_after s (first ++ rest) t) level ≡ true → has (level_after s (widened s first rest) t) level ≡ true
widened_has s first [] t level boolean h = rw append-nil at h
widened_has s first (b ∷ later) t level boolean h = widens s first b later t level boolean h

pub capped_has : (s : Level) (boundaries : List Change) (t : ℕ) (level : Level) → level ≢ X
    → has (level_after s boundaries t) level ≡ true → has (level_after s (capped s boundaries) t) level ≡ true
capped_has s boundaries t level boolean h = elim (cases_Bool (nat_le (length boundaries) 512)) [
  | inl few ↦ rw few h
  | inr many ↦ rw many (widened_has s (take 511 boundaries) (drop 511 boundaries) t level boolean (rw (take-drop 511 boundaries) h))
]

sets_same : (a b c d : Bool) → a ≡ c → b ≡ d → set_of a b ≡ set_of c d
sets_same a b c d h k = rw (h, k) refl

-- what is possible from the horizon on
settles : (kind : Kind) (delay : Delay) → IsInRange delay → (signals : List Wave) (t : ℕ) → last_input signals + max delay.rise delay.fall ≤ t
    → possible kind delay signals (suc t) ≡ set_of (has (target_before kind signals (suc (last_input signals))) Low)
    (has (target_before kind signals (suc (last_input signals))) High)
settles kind delay fits signals t late =
    let M : ℕ = last_input signals in
    let D : ℕ = max delay.rise delay.fall in
    let stay : (u v : ℕ) → M ≤ u → M ≤ v → target_before kind signals (suc u) ≡ target_before kind signals (suc v) =
    λ u v one two. ap (table kind) (targets_stay signals u v one two) in
    let low = possible_stays (λ m. has (target_before kind signals m) Low) delay.fall delay.rise M D fits.least_fall (omega arith) (omega arith)
    (λ u v one two. ap (λ set. has set Low) (stay u v one two)) t late in
    let high = possible_stays (λ m. has (target_before kind signals m) High) delay.rise delay.fall M D fits.least_rise (omega arith) (omega arith)
    (λ u v one two. ap (λ set. has set High) (stay u v one two)) t late in
    sets_same _ _ _ _ low high

-- the listing up to the horizon shows all
pub listed : (kind : Kind) (delay : Delay) → IsInRange delay → (signals : List Wave) (t : ℕ)
    → level_after (possible kind delay signals 0)
    (changes_below (possible kind delay signals) (last_input signals + max delay.rise delay.fall + 1)) t
    ≡ possible kind delay signals (suc t)
listed kind delay fits signals t =
    let f : ℕ → Level = possible kind delay signals in
    let H : ℕ = last_input signals + max delay.rise delay.fall + 1 in
    shown f H t ∙ elim (cases_lt t H) [
      | inl early ↦ (let e : min (suc t) H ≡ suc t = omega arith in ap f e)
      | inr late ↦
          let e : min (suc t) H ≡ suc (last_input signals + max delay.rise delay.fall) = omega arith in
          ap f e ∙ settles kind delay fits signals _ (omega arith) ∙ sym (settles kind delay fits signals t (omega arith))
    ]

pub covers_gate : (kind : Kind) (delay : Delay) (signals : List Wave) (ins : List Wave) (out : Wave)
    → IsInRange delay → TakesInputs kind (length ins) → All IsBoolean ins → AllZip LevelsCover signals ins → Obeys kind delay ins out
    → LevelsCover (gate_signal kind delay signals) out
covers_gate kind delay signals ins out fits takes boolean covered obeys n = go n
  where
    is : IsDelayed (target_before kind ins) delay (before out)
    is = delayed kind delay fits ins out obeys

    out_boolean : (m : ℕ) → before out m ≢ X
    out_boolean m = delayed-boolean (target_before kind ins) delay fits (before out) is
        (λ t. table-boolean kind _ (rw (length-levels ins t) takes) (booleans_at signals ins t covered)) m

    go : (m : ℕ) → has (before (gate_signal kind delay signals) m) (before out m) ≡ true
    go zero = covers_possible kind delay signals ins out takes covered is 0 (out_boolean 0)
    go (suc t) = capped_has (possible kind delay signals 0)
        (changes_below (possible kind delay signals) (last_input signals + max delay.rise delay.fall + 1)) t
        (before out (suc t)) (out_boolean (suc t)) (rw (listed kind delay fits signals t) (covers_possible kind delay signals ins out takes covered is (suc t) (out_boolean (suc t))))

-- inputs and constants
allowed_has : (trit : Trit) (bit : Bool) → Allows trit bit → has (level_of_trit trit) (level_from bit) ≡ true
allowed_has Zero false h = refl
allowed_has Zero true h = absurd h
allowed_has One false h = absurd h
allowed_has One true h = refl
allowed_has Free true h = refl
allowed_has Free false h = refl

before_change : (s new : Level) (moment t : ℕ) → t < moment → level_after s (change_at moment s new) t ≡ s
before_change s new moment t early = elim (cases_Bool (level_eq s new)) [
  | inl same ↦ rw same refl
  | inr other ↦ rw (other, lt-leb moment t early) refl
]

after_change : (s new : Level) (moment t : ℕ) → moment ≤ t → level_after s (change_at moment s new) t ≡ new
after_change s new moment t late = elim (cases_Bool (level_eq s new)) [
  | inl same ↦ rw same (same_is s new same)
  | inr other ↦ rw (other, le-leb moment t late) refl
]

pub covers_input : (first second : Trit) (moment : ℕ) (wave : Wave) → IsInputWave first second moment wave
    → LevelsCover (input_signal first second moment) wave
covers_input first second moment wave is zero = rw is.starts (allowed_has first is.before is.first_allows)
covers_input first second moment wave is (suc t) = elim (cases_lt t moment) [
  | inl early ↦ rw (before_change (level_of_trit first) (level_of_trit second) moment t early, is.keeps t early)
      (allowed_has first is.before is.first_allows)
  | inr late ↦ rw (after_change (level_of_trit first) (level_of_trit second) moment t late, is.then t late)
      (allowed_has second is.after is.second_allows)
]

pub covers_constant : (one : Bool) (wave : Wave) → IsConstant (level_from one) wave → LevelsCover (constant_signal one) wave
covers_constant true wave is zero = rw (is 0) refl
covers_constant true wave is (suc t) = rw (is (suc t)) refl
covers_constant false wave is zero = rw (is 0) refl
covers_constant false wave is (suc t) = rw (is (suc t)) refl

-- a set that isn't that of both levels holds at most one
one_level : (set : Level) (v w : Level) → level_eq set X ≡ false → has set v ≡ true → has set w ≡ true → v ≡ w
one_level set Low Low single h k = refl
one_level set High High single h k = refl
one_level Low Low High single h k = cc
one_level High Low High single h k = cc
one_level X Low High single h k = cc
one_level Low High Low single h k = cc
one_level High High Low single h k = cc
one_level X High Low single h k = cc
one_level set X w single h k = absurd (never_x set h)
one_level set Low X single h k = absurd (never_x set k)
one_level set High X single h k = absurd (never_x set k)

pub quiet_after_last : (signal : Wave) (moment : ℕ) (wave : Wave) → last_of signal ≡ Some moment → LevelsCover signal wave
    → IsQuietAfter moment wave
quiet_after_last signal moment wave is covered =
    elim (cases_Bool (level_eq (last_level signal.start signal.changes) X)) [
      | inl both ↦ (let none = rw both at is in cc)
      | inr single ↦
          let some = rw single at is in
          let same : last_change signal.changes ≡ moment = cc in
          rw (← same) (λ t late.
          let here = rw (settled signal.start signal.changes t late) at (covered (suc t)) in
          let there = rw (settled signal.start signal.changes (last_change signal.changes) (omega arith)) at (covered (suc (last_change signal.changes))) in
          one_level (last_level signal.start signal.changes) _ _ single here there)
    ]

-- the moments of a signal
pub last_change_low : (H : ℕ) (boundaries : List Change) → AllByRecursion (λ b. b.moment ≤ H) boundaries → last_change boundaries ≤ H
last_change_low H [] h = omega arith
last_change_low H (b ∷ boundaries) h = let rest = last_change_low H boundaries h.1 in let here = h.0 in omega arith

all_take : {A : Type 0} (P : A → Type 0) (n : ℕ) (xs : List A) → AllByRecursion P xs → AllByRecursion P (take n xs)
all_take P zero xs h = tt
all_take P (suc n) [] h = tt
all_take P (suc n) (x ∷ xs) h = (h.0, all_take P n xs h.1)

all_drop : {A : Type 0} (P : A → Type 0) (n : ℕ) (xs : List A) → AllByRecursion P xs → AllByRecursion P (drop n xs)
all_drop P zero xs h = h
all_drop P (suc n) [] h = tt
all_drop P (suc n) (x ∷ xs) h = all_drop P n xs h.1

widened_low : (H : ℕ) (s : Level) (first rest : List Change) → AllByRecursion (λ b. b.moment ≤ H) first → AllByRecursion (λ b. b.moment ≤ H) rest
    → AllByRecursion (λ b. b.moment ≤ H) (widened s first rest)
widened_low H s first [] h k = h
widened_low H s first (b ∷ later) h k = all_append _ first _ h (elim (cases_Bool (level_eq (last_level s first) X)) [
  | inl same ↦ rw same tt
  | inr other ↦ rw other (k.0, tt)
])

capped_low : (H : ℕ) (s : Level) (boundaries : List Change) → AllByRecursion (λ b. b.moment ≤ H) boundaries
    → AllByRecursion (λ b. b.moment ≤ H) (capped s boundaries)
capped_low H s boundaries h = elim (cases_Bool (nat_le (length boundaries) 512)) [
  | inl few ↦ rw few h
  | inr many ↦ rw many (widened_low H s _ _ (all_take _ 511 boundaries h) (all_drop _ 511 boundaries h))
]

last_input_low : (m : ℕ) (signals : List Wave) → AllByRecursion (λ signal. last_change signal.changes ≤ m) signals → last_input signals ≤ m
last_input_low m [] h = omega arith
last_input_low m (s ∷ signals) h = let rest = last_input_low m signals h.1 in let here = h.0 in omega arith

pub reach_gate : (kind : Kind) (delay : Delay) (signals : List Wave) (m : ℕ) → All (λ signal. last_change signal.changes ≤ m) signals
    → last_change (gate_signal kind delay signals).changes ≤ m + max delay.rise delay.fall
reach_gate kind delay signals m small =
    let low = last_input_low m signals (recursion_from_All (λ signal. last_change signal.changes ≤ m) signals small) in
    let H : ℕ = last_input signals + max delay.rise delay.fall + 1 in
    last_change_low (m + max delay.rise delay.fall) _ (capped_low _ (possible kind delay signals 0) _
    (weaker _ _ (λ b under. omega arith) (changes_below (possible kind delay signals) H) (boundaries_low (possible kind delay signals) H)))

pub reach_input : (first second : Trit) (moment : ℕ) → moment ≤ 10 ^ 9
    → last_change (change_at moment (level_of_trit first) (level_of_trit second)) ≤ 10 ^ 9
reach_input first second moment small = elim (cases_Bool (level_eq (level_of_trit first) (level_of_trit second))) [
  | inl same ↦ rw same (omega arith)
  | inr other ↦ rw other (omega arith)
]

pub reach_constant : (one : Bool) → last_change (constant_signal one).changes ≡ 0
reach_constant true = refl
reach_constant false = refl

last_stands : (changes : List Change) → (last_change changes ≡ 0) ⊎ Contains (map (λ change. change.moment) changes) (last_change changes)
last_stands [] = inl refl
last_stands (change ∷ later) = elim (cases_lt (last_change later) change.moment) [
  | inl less ↦ inr (let e : change.moment ≡ max change.moment (last_change later) = omega arith in (0, omega arith, e))
  | inr more ↦ elim (last_stands later) [
    | inl none ↦ inl (omega arith)
    | inr there ↦ inr (
        let e : last_change later ≡ max change.moment (last_change later) = omega arith in
        subst (λ m. Contains (map (λ change. change.moment) (change ∷ later)) m) e (suc there.0, omega (arith, there.1), there.2))
  ]
]

pub last_is_moment : (signal : Wave) (moment : ℕ) → last_of signal ≡ Some moment → (moment ≡ 0) ⊎ HasMoment signal moment
last_is_moment signal moment is =
    elim (cases_Bool (level_eq (last_level signal.start signal.changes) X)) [
      | inl both ↦ (let none = rw both at is in cc)
      | inr single ↦
          let some = rw single at is in
          let same : last_change signal.changes ≡ moment = cc in
          rw same at (last_stands signal.changes)
    ]

change_reach : (changes : List Change) (moment : ℕ) → Contains (map (λ change. change.moment) changes) moment → moment ≤ last_change changes
change_reach [] moment has = absurd (omega (arith, has.1))
change_reach (change ∷ later) moment (zero, below, at) = let same : change.moment ≡ moment = at in omega arith
change_reach (change ∷ later) moment (suc k, below, at) = let rest = change_reach later moment (k, omega arith, at) in omega arith

pub reach_each : (signal : Wave) (moment : ℕ) → HasMoment signal moment → moment ≤ last_change signal.changes
reach_each signal moment has = change_reach signal.changes moment has
