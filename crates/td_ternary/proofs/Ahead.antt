-- A gate with two inputs: its target read from moment to moment, and what its output makes of it.
use Rattle.std.proofs.Common.{◌≡◌, ◌≢◌, ℕ, zero, suc, ◌+◌, ◌<◌, ◌≤◌, ◌⊎◌, min, List, [], ◌∷◌, ◌++◌, length, drop, get_or, refl, arith, ap, ◌∙◌, sym, inl, inr, Option, Some, None, append-nil, drop-cons}
use Rattle.std.specs.List.Sorted.{IsStrictlyIncreasing}
use Rattle.std.proofs.lemmas.Bool.{cases_lt, cases_eq, le-leb, lt-leb, eq-eqb, ne_eqb}
use Rattle.std.proofs.lemmas.List.{drop_all}
use Rattle.td_gates.specs.declared.primitives.Level.{Level}
use Rattle.td_gates.specs.declared.primitives.Level.TheVariants.{Zero as Low, One as High, X}
use Rattle.td_gates.specs.declared.primitives.Kind.{Kind}
use Rattle.td_gates.specs.declared.primitives.Kind.TheVariants.{And, Nand, Or, Nor, Xor, Xnor, Buf, Not}
use Rattle.td_gates.specs.declared.timing.Delay.{Delay}
use Rattle.td_gates.specs.declared.timing.Change.{Change}
use Rattle.td_gates.specs.Delays.{IsInRange}
use Rattle.td_gates.specs.Table.{table}
use Rattle.td_gates.specs.Wave.{Wave, level_after, at, before, IsRising, IsWave}
use Rattle.td_gates.specs.Schedule.{target_at, target_before}
use Rattle.td_gates.proofs.Levels.{level_eq-same, level_eq-other, cases_level, level_after-early}
use Rattle.td_run.specs.Waves.{AreWithin}
use Rattle.td_run.proofs.Sampling.{sampled, sampled-is_wave, sampled-shows}
use Rattle.td_run.proofs.Turning.{IsStrictlyIncreasing-from}
use Rattle.td_ternary.specs.Possibles.{possible}
use Rattle.td_ternary.specs.Prospects.{Outlook, earlier, begun, settling}
use Rattle.td_ternary.specs.Merging.{first_moment, level_behind, rest_behind, shifted, shifting, beside_one}
use Rattle.td_ternary.proofs.Computing.{possible_after-same}
use Rattle.td_ternary.proofs.Passing.{IsKept, IsShown, both, buffer, goes-on, kept-begun, kept-end, kept-rising, kept-possible, begun-level}
use Rattle.td_ternary.proofs.Moments.{moments, merge, merge-increasing, merge-next, merge-keeps, rising-moments}

-- ---- one signal

-- from a moment on a wave is what is left of its changes after this level
pub record IsRead (wave : Wave) (n : ℕ) (level : Level) (rest : List Change) : Type 0 where
  pub rising : IsRising n level rest
  pub shows : (t : ℕ) → n ≤ t → at wave t ≡ level_after level rest t

-- no change is before a moment
abbrev AreFrom : ℕ → List Change → Type 0
AreFrom m [] = Unit {0}
AreFrom m (change ∷ later) = m ≤ change.moment

read-on : (wave : Wave) (n m : ℕ) (level : Level) (rest : List Change) → n ≤ m → AreFrom m rest → IsRead wave n level rest
    → IsRead wave (suc m) (level_behind m level rest) (rest_behind m rest) × (at wave m ≡ level_behind m level rest)
read-on wave n m level [] reached from read = (record { rising = tt; shows = λ t late. read.shows t (omega arith) }, read.shows m reached)
read-on wave n m level (change ∷ later) reached from read = elim (cases_eq change.moment m) [
  | inl now ↦
      let rising : IsRising (suc m) change.level later = rw now at read.rising.2 in
      let shows : (t : ℕ) → m ≤ t → at wave t ≡ level_after change.level later t =
      (λ t late. read.shows t (omega arith) ∙ rw (le-leb change.moment t (omega (arith, now))) refl) in
      rw (eq-eqb change.moment m now) (
        record { rising = rising; shows = λ t late. shows t (omega arith) },
        shows m (omega arith) ∙ level_after-early (suc m) m change.level later rising (omega arith),
      )
  | inr other ↦
      let after : suc m ≤ change.moment = omega arith in
      rw (ne_eqb change.moment m other) (
        record { rising = (after, read.rising.1, read.rising.2); shows = λ t late. read.shows t (omega arith) },
        read.shows m reached ∙ rw (lt-leb change.moment m after) refl,
      )
]

-- ---- the next moment of two signals

same_moment : (a b : ℕ) → Some a ≡ Some b → a ≡ b
same_moment a b same = Prim.cc

none_some : (m : ℕ) → None ≡ Some m → ⊥
none_some m same = Prim.cc

some_none : (m : ℕ) → Some m ≡ None → ⊥
some_none m same = Prim.cc

next-from : (m : ℕ) (rest other : List Change) → earlier (first_moment rest) (first_moment other) ≡ Some m → AreFrom m rest × AreFrom m other
next-from m [] [] is = absurd (none_some m is)
next-from m [] (b ∷ those) is = (tt, omega (arith, same_moment b.moment m is))
next-from m (a ∷ these) [] is = (omega (arith, same_moment a.moment m is), tt)
next-from m (a ∷ these) (b ∷ those) is = let now = same_moment (min a.moment b.moment) m is in (omega arith, omega arith)

next-reached : (n m : ℕ) (level next : Level) (rest other : List Change) → IsRising n level rest → IsRising n next other
    → earlier (first_moment rest) (first_moment other) ≡ Some m → n ≤ m
next-reached n m level next [] [] left right is = absurd (none_some m is)
next-reached n m level next [] (b ∷ those) left right is = omega (arith, same_moment b.moment m is, right.0)
next-reached n m level next (a ∷ these) [] left right is = omega (arith, same_moment a.moment m is, left.0)
next-reached n m level next (a ∷ these) (b ∷ those) left right is = omega (arith, same_moment (min a.moment b.moment) m is, left.0, right.0)

none-left : (rest other : List Change) → earlier (first_moment rest) (first_moment other) ≡ None → (rest ≡ []) × (other ≡ [])
none-left [] [] is = (refl, refl)
none-left [] (b ∷ those) is = absurd (some_none b.moment is)
none-left (a ∷ these) [] is = absurd (some_none a.moment is)
none-left (a ∷ these) (b ∷ those) is = absurd (some_none (min a.moment b.moment) is)

-- less is left of one of them after the next moment
pub next-shorter : (m : ℕ) (rest other : List Change) → earlier (first_moment rest) (first_moment other) ≡ Some m
    → length (rest_behind m rest) + length (rest_behind m other) < length rest + length other
next-shorter m [] [] is = absurd (none_some m is)
next-shorter m [] (b ∷ those) is = rw (eq-eqb b.moment m (same_moment b.moment m is)) (omega arith)
next-shorter m (a ∷ these) [] is = rw (eq-eqb a.moment m (same_moment a.moment m is)) (omega arith)
next-shorter m (a ∷ these) (b ∷ those) is = elim (cases_eq a.moment m) [
  | inl first ↦ elim (cases_eq b.moment m) [
    | inl second ↦ rw (eq-eqb a.moment m first, eq-eqb b.moment m second) (omega arith)
    | inr other ↦ rw (eq-eqb a.moment m first, ne_eqb b.moment m other) (omega arith)
  ]
  | inr apart ↦
      let now = same_moment (min a.moment b.moment) m is in
      let second : b.moment ≡ m = omega (arith, apart, now) in
      rw (ne_eqb a.moment m apart, eq-eqb b.moment m second) (omega arith)
]

first-within : (bound m : ℕ) (changes : List Change) (i : ℕ) → AreWithin bound changes → first_moment (drop i changes) ≡ Some m → m ≤ bound
first-within bound m changes i all is = elim (cases_lt i (length changes)) [
  | inl inside ↦
      let origin : Change = record { moment = 0; level = Low } in
      let now : (get_or changes i origin).moment ≡ m = same_moment _ m (rw (drop-cons changes i origin inside) at is) in
      let low = all i origin inside in
      omega (arith, now, low)
  | inr past ↦ absurd (none_some m (rw (drop_all i changes past) at is))
]

earlier-one : (m : ℕ) (this that : Option ℕ) → earlier this that ≡ Some m → (this ≡ Some m) ⊎ (that ≡ Some m)
earlier-one m None that is = inr is
earlier-one m (Some a) None is = inl is
earlier-one m (Some a) (Some b) is = elim (cases_lt a b) [
  | inl first ↦ (let e : min a b ≡ a = omega arith in inl (sym (ap (λ t. Some t) e) ∙ is))
  | inr second ↦ (let e : min a b ≡ b = omega arith in inr (sym (ap (λ t. Some t) e) ∙ is))
]

-- by the parts that it is found from
pub next-is : (this that : Option ℕ) (rest other : List Change) (found : Option ℕ) → this ≡ first_moment rest → that ≡ first_moment other
    → found ≡ earlier this that → earlier (first_moment rest) (first_moment other) ≡ found
next-is this that rest other found this_is that_is is = rw (← this_is, ← that_is) (sym is)

-- it is by the bound of their changes
pub next-within : (bound m : ℕ) (these those : List Change) (i j : ℕ) → AreWithin bound these → AreWithin bound those
    → earlier (first_moment (drop i these)) (first_moment (drop j those)) ≡ Some m → m ≤ bound
next-within bound m these those i j left right is = elim (earlier-one m _ _ is) [
  | inl first ↦ first-within bound m these i left first
  | inr second ↦ first-within bound m those j right second
]

-- ---- the target

-- the changes of the target from this level on, where so much is left of the inputs' changes
abbrev pub ahead : Kind → Wave → Wave → Level → List Change → List Change → List Change
ahead kind left right target rest other = sampled (target_at kind (left ∷ right ∷ [])) target (merge (moments rest) (moments other))

abbrev pub target_of : Kind → Wave → Wave → Wave
target_of kind left right = record {
  start = target_before kind (left ∷ right ∷ []) 0;
  changes = ahead kind left right (target_before kind (left ∷ right ∷ []) 0) left.changes right.changes;
}

module _ (kind : Kind) (left right : Wave) (left_is : IsWave left) (right_is : IsWave right) where
  strict : IsStrictlyIncreasing (merge (moments left.changes) (moments right.changes))
  strict = IsStrictlyIncreasing-from 0 _ (merge-increasing 0 (moments left.changes) (moments right.changes)
      (rising-moments 0 left.start left.changes left_is) (rising-moments 0 right.start right.changes right_is))

  target_of-is_wave : IsWave (target_of kind left right)
  target_of-is_wave = sampled-is_wave kind (left ∷ right ∷ []) (merge (moments left.changes) (moments right.changes)) strict (merge-keeps left right)

  target_of-shows : (t : ℕ) → before (target_of kind left right) t ≡ target_before kind (left ∷ right ∷ []) t
  target_of-shows = sampled-shows kind (left ∷ right ∷ []) (merge (moments left.changes) (moments right.changes)) strict (merge-keeps left right)

sample-same : (e : ℕ → Level) (target : Level) (m : ℕ) (ms : List ℕ) → e m ≡ target → sampled e target (m ∷ ms) ≡ sampled e target ms
sample-same e target m ms is = rw (is, level_eq-same target) refl

sample-other : (e : ℕ → Level) (target level : Level) (m : ℕ) (ms : List ℕ) → e m ≡ level → level ≢ target
    → sampled e target (m ∷ ms) ≡ record { moment = m; level = level } ∷ sampled e level ms
sample-other e target level m ms is differ = rw (is, level_eq-other level target differ) refl

-- ---- the loop

module _ (kind : Kind) (delay falling : Delay) (left right : Wave) where
  -- so much is left of both inputs' changes, whose levels and whose target's level are these so far
  pub record IsMerging (rest other : List Change) (level next target : Level) (out : List Change) (now : Outlook) : Type 0 where
    pub n : ℕ
    pub left_is : IsRead left n level rest
    pub right_is : IsRead right n next other
    pub kept : IsKept delay falling (target_of kind left right) (ahead kind left right target rest other) out now

  pub merging-begun : IsWave left → IsWave right
      → IsMerging left.changes right.changes left.start right.start (target_of kind left right).start [] (begun (target_of kind left right).start)
  merging-begun left_is right_is = record {
    n = 0;
    left_is = record { rising = left_is; shows = λ t late. refl };
    right_is = record { rising = right_is; shows = λ t late. refl };
    kept = kept-begun delay falling (target_of kind left right) (target_of-is_wave kind left right left_is right_is);
  }

  pub merging-init : (lefts rights : List Change) (level next start target : Level) (out : List Change) (now : Outlook) → IsWave left → IsWave right
      → lefts ≡ left.changes → rights ≡ right.changes → level ≡ left.start → next ≡ right.start → start ≡ table kind (level ∷ next ∷ [])
      → target ≡ start → now ≡ begun start → out ≡ [] → IsMerging lefts rights level next target out now
  merging-init lefts rights level next start target out now left_is right_is lefts_are rights_are level_is next_is start_is target_is now_is out_is =
      rw (out_is, now_is, target_is, start_is, level_is, next_is, lefts_are, rights_are) (merging-begun left_is right_is)

  kept-sample : (m : ℕ) (ms : List ℕ) (level target : Level) (out : List Change) (now : Outlook) → target_at kind (left ∷ right ∷ []) m ≡ level
      → IsKept delay falling (target_of kind left right) (sampled (target_at kind (left ∷ right ∷ [])) target (m ∷ ms)) out now
      → IsKept delay falling (target_of kind left right) (sampled (target_at kind (left ∷ right ∷ [])) level ms)
      (out ++ shifting (record { moment = m; level = level }) target now) (shifted falling delay (record { moment = m; level = level }) target now)
  kept-sample m ms level target out now is kept = elim (cases_level level target) [
    | inl same ↦ rw (same, level_eq-same target, append-nil out)
        (rw (sample-same (target_at kind (left ∷ right ∷ [])) target m ms (is ∙ same)) at kept)
    | inr differ ↦
        let sample : Change = record { moment = m; level = level } in
        let whole : IsKept delay falling (target_of kind left right) (sample ∷ sampled (target_at kind (left ∷ right ∷ [])) level ms) out now =
        rw (sample-other (target_at kind (left ∷ right ∷ [])) target level m ms is differ) at kept in
        rw (level_eq-other level target differ)
        (λ (fits : IsInRange delay) (fits_falling : IsInRange falling).
        goes-on falling delay fits_falling fits _ _ _ sample (sampled (target_at kind (left ∷ right ∷ [])) level ms) out now (whole fits fits_falling))
  ]

  step : (m : ℕ) (rest other : List Change) (level next target : Level) (out : List Change) (now : Outlook)
      → earlier (first_moment rest) (first_moment other) ≡ Some m → IsMerging rest other level next target out now
      → IsMerging (rest_behind m rest) (rest_behind m other) (level_behind m level rest) (level_behind m next other)
      (table kind (level_behind m level rest ∷ level_behind m next other ∷ []))
      (out ++ shifting (record { moment = m; level = table kind (level_behind m level rest ∷ level_behind m next other ∷ []) }) target now)
      (shifted falling delay (record { moment = m; level = table kind (level_behind m level rest ∷ level_behind m next other ∷ []) }) target now)
  step m rest other level next target out now is merging =
      let reached = next-reached merging.n m level next rest other merging.left_is.rising merging.right_is.rising is in
      let from = next-from m rest other is in
      let left_on = read-on left merging.n m level rest reached from.0 merging.left_is in
      let right_on = read-on right merging.n m next other reached from.1 merging.right_is in
      let all = merge-next merging.n m rest other (rising-moments merging.n level rest merging.left_is.rising)
      (rising-moments merging.n next other merging.right_is.rising) is in
      let sample : target_at kind (left ∷ right ∷ []) m ≡ table kind (level_behind m level rest ∷ level_behind m next other ∷ []) =
      rw (left_on.1, right_on.1) refl in
      record {
        n = suc m;
        left_is = left_on.0;
        right_is = right_on.0;
        kept = kept-sample m (merge (moments (rest_behind m rest)) (moments (rest_behind m other))) _ target out now sample (rw all at merging.kept);
      }

  -- both inputs are read past the next moment
  pub merging-on : (m : ℕ) (rest other rest_on other_on : List Change) (level next level_on next_on target sample target_on : Level) (out changes : List Change) (now after : Outlook)
      → earlier (first_moment rest) (first_moment other) ≡ Some m → IsMerging rest other level next target out now
      → rest_on ≡ rest_behind m rest → other_on ≡ rest_behind m other → level_on ≡ level_behind m level rest → next_on ≡ level_behind m next other
      → sample ≡ table kind (level_on ∷ next_on ∷ []) → target_on ≡ sample
      → after ≡ shifted falling delay (record { moment = m; level = sample }) target now
      → changes ≡ out ++ shifting (record { moment = m; level = sample }) target now
      → IsMerging rest_on other_on level_on next_on target_on changes after
  merging-on m rest other rest_on other_on level next level_on next_on target sample target_on out changes now after is merging rest_is other_is level_is next_is sample_is target_is after_is changes_are =
      rw (after_is, changes_are, target_is, sample_is, rest_is, other_is, level_is, next_is) (step m rest other level next target out now is merging)

  -- nothing is left of either
  pub merging-end : (rest other : List Change) (level next target : Level) (out changes : List Change) (now : Outlook) → IsInRange delay
      → falling ≡ record { rise = delay.fall; fall = delay.rise } → earlier (first_moment rest) (first_moment other) ≡ None
      → IsMerging rest other level next target out now → changes ≡ out ++ settling None now
      → IsShown 0 (begun (target_of kind left right).start).level changes
      (both (buffer Low falling (target_of kind left right)) (buffer High delay (target_of kind left right)))
  merging-end rest other level next target out changes now fits falling_is none merging changes_are =
      let empty = none-left rest other none in
      let kept : IsKept delay falling (target_of kind left right) [] out now = rw (empty.0, empty.1) at merging.kept in
      kept-end delay falling (target_of kind left right) [] out changes now 0 (omega arith) fits falling_is kept changes_are

  pub merged-rising : (start : Level) (changes : List Change) → start ≡ (target_of kind left right).start
      → IsShown 0 (begun (target_of kind left right).start).level changes
      (both (buffer Low falling (target_of kind left right)) (buffer High delay (target_of kind left right)))
      → IsRising 0 start changes
  merged-rising start changes is shown = kept-rising delay falling (target_of kind left right) start changes
      (begun-level start ∙ ap (λ (level : Level). (begun level).level) is) shown

  pub merged-possible : (start : Level) (changes : List Change) (out : Wave) → IsInRange delay → IsWave left → IsWave right
      → falling ≡ record { rise = delay.fall; fall = delay.rise } → start ≡ (target_of kind left right).start
      → IsShown 0 (begun (target_of kind left right).start).level changes
      (both (buffer Low falling (target_of kind left right)) (buffer High delay (target_of kind left right)))
      → out ≡ record { start = start; changes = changes }
      → (n : ℕ) → before out n ≡ possible kind delay (left ∷ right ∷ []) n
  merged-possible start changes out fits left_is right_is falling_is is shown out_is n =
      kept-possible delay falling (target_of kind left right) start changes out fits (target_of-is_wave kind left right left_is right_is) falling_is
      (begun-level start ∙ ap (λ (level : Level). (begun level).level) is) shown out_is n
      ∙ possible_after-same delay (before (target_of kind left right)) (target_before kind (left ∷ right ∷ [])) (target_of-shows kind left right left_is right_is) n

-- ---- one input

beside-same : (kind : Kind) (level : Level) → table (beside_one kind) (level ∷ High ∷ []) ≡ table kind (level ∷ [])
beside-same And Low = refl
beside-same And High = refl
beside-same And X = refl
beside-same Nand Low = refl
beside-same Nand High = refl
beside-same Nand X = refl
beside-same Or Low = refl
beside-same Or High = refl
beside-same Or X = refl
beside-same Nor Low = refl
beside-same Nor High = refl
beside-same Nor X = refl
beside-same Xor Low = refl
beside-same Xor High = refl
beside-same Xor X = refl
beside-same Xnor Low = refl
beside-same Xnor High = refl
beside-same Xnor X = refl
beside-same Buf Low = refl
beside-same Buf High = refl
beside-same Buf X = refl
beside-same Not Low = refl
beside-same Not High = refl
beside-same Not X = refl

abbrev ones : Wave
ones = record { start = High; changes = [] }

target-beside : (kind : Kind) (input : Wave) (n : ℕ) → target_before (beside_one kind) (input ∷ ones ∷ []) n ≡ target_before kind (input ∷ []) n
target-beside kind input zero = beside-same kind input.start
target-beside kind input (suc t) = beside-same kind (at input t)

pub possible-beside : (kind other : Kind) (delay : Delay) (input beside : Wave) → other ≡ beside_one kind → beside ≡ record { start = High; changes = [] } → (n : ℕ)
    → possible other delay (input ∷ beside ∷ []) n ≡ possible kind delay (input ∷ []) n
possible-beside kind other delay input beside other_is beside_is n = rw (other_is, beside_is)
    (possible_after-same delay (target_before (beside_one kind) (input ∷ ones ∷ [])) (target_before kind (input ∷ [])) (target-beside kind input) n)
