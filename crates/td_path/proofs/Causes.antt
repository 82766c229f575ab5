-- What made a gate's output change: some net that it reads changed just the delay before.
use Rattle.std.proofs.Common.{◌≡◌, ◌≢◌, ℕ, suc, ◌+◌, ◌<◌, List, [], ◌∷◌, length, map, get_or, refl, arith, ◌∙◌, sym, ap, inl, inr, Some, Bool, true, false}
use Rattle.std.specs.Prelude.{slice_get}
use Rattle.std.proofs.lemmas.Bool.{cases_lt, cases_eq}
use Rattle.td_gates.specs.declared.primitives.Kind.{Kind}
use Rattle.td_gates.specs.declared.timing.Delay.{Delay}
use Rattle.td_gates.specs.Delays.{IsInRange}
use Rattle.td_gates.specs.declared.primitives.Level.{Level}
use Rattle.td_gates.specs.Table.{level_eq, table, delay_to}
use Rattle.td_gates.specs.Wave.{Wave, at, before}
use Rattle.td_gates.specs.Schedule.{target_at, target_before, Obeys}
use Rattle.td_gates.proofs.Levels.{cases_level, level_eq-same, level_eq-other}
use Rattle.td_gates.proofs.Places.{some-same, slice_get-some, slice_get-within, slice_get-get}
use Rattle.td_gates.proofs.Delays.{delayed}
use Rattle.td_gates.specs.declared.primitives.Level.TheVariants.{X}
use Rattle.td_gates.proofs.Sources.{source}
use Rattle.td_run.specs.Waves.{constant, waves_of}
use Rattle.td_path.specs.Walks.{wave_at, ChangesAt, SomeChanges, AreKept, IsFirstChange}

-- where the levels of these nets differ one of them changes
some_changes : (waves : List Wave) (numbers : List ℕ) (t : ℕ)
    → map (λ wave. at wave t) (waves_of waves numbers) ≢ map (λ wave. before wave t) (waves_of waves numbers) → SomeChanges waves numbers t
some_changes waves [] t differ = absurd (differ refl)
some_changes waves (n ∷ numbers) t differ = elim (cases_level (at (wave_at waves n) t) (before (wave_at waves n) t)) [
  | inr changes ↦ record { terminal = 0; number = n; is_number = refl; changes = changes }
  | inl same ↦
      let rest = some_changes waves numbers t (λ equal. differ
      (ap (λ level. level ∷ map (λ wave. at wave t) (waves_of waves numbers)) same
      ∙ ap (λ levels. before (wave_at waves n) t ∷ levels) equal)) in
      record { terminal = suc rest.terminal; number = rest.number; is_number = rest.is_number; changes = rest.changes }
]

-- while none before it changes, the one that does is still to come
pub some_left : (waves : List Wave) (numbers : List ℕ) (moment end : ℕ) → AreKept waves numbers moment end → SomeChanges waves numbers moment
    → end < length numbers
some_left waves numbers moment end kept some = elim (cases_lt some.terminal end) [
  | inl before ↦ absurd (some.changes (kept some.terminal some.number before some.is_number))
  | inr late ↦ omega (arith, slice_get-some numbers some.terminal some.number some.is_number)
]

same_level : (this that : Level) → level_eq this that ≡ true → this ≡ that
same_level this that same = elim (cases_level this that) [
  | inl equal ↦ equal
  | inr differ ↦ (let no_way = level_eq-other this that differ in cc)
]

other_level : (this that : Level) → level_eq this that ≡ false → this ≢ that
other_level this that differ equal = let same : level_eq this that ≡ true = rw equal (level_eq-same that) in cc

pub kept_more : (waves : List Wave) (numbers : List ℕ) (moment end number : ℕ) → AreKept waves numbers moment end
    → slice_get numbers end ≡ Some number
    → level_eq (at (wave_at waves number) moment) (before (wave_at waves number) moment) ≡ true
    → AreKept waves numbers moment (suc end)
kept_more waves numbers moment end number kept at_end same k other less at_k = elim (cases_eq k end) [
  | inl last ↦
      let equal : other ≡ number = some-same other number (sym at_k ∙ ap (λ n. slice_get numbers n) last ∙ at_end) in
      rw equal (same_level (at (wave_at waves number) moment) (before (wave_at waves number) moment) same)
  | inr earlier ↦ kept k other (omega (arith, less, earlier)) at_k
]

pub first_found : (waves : List Wave) (numbers : List ℕ) (moment end number : ℕ) → AreKept waves numbers moment end
    → slice_get numbers end ≡ Some number
    → level_eq (at (wave_at waves number) moment) (before (wave_at waves number) moment) ≡ false
    → IsFirstChange waves numbers moment end
first_found waves numbers moment end number kept at_end differ = record {
  number = number;
  is_number = at_end;
  changes = other_level (at (wave_at waves number) moment) (before (wave_at waves number) moment) differ;
  first = kept;
}

-- the same of a wave that was read and an answer
pub kept_next : (waves : List Wave) (numbers : List ℕ) (moment end d : ℕ) (wave : Wave) (answer : Bool) → end < length numbers
    → AreKept waves numbers moment end → slice_get waves (get_or numbers end d) ≡ Some wave
    → answer ≡ level_eq (at wave moment) (before wave moment) → answer ≡ true → AreKept waves numbers moment (suc end)
kept_next waves numbers moment end d wave answer below kept read is same =
    let number = slice_get-within numbers end below in
    let own : get_or numbers end d ≡ number.0 = slice_get-get numbers end number.0 d number.1 in
    let equal : wave_at waves number.0 ≡ wave = slice_get-get waves number.0 wave (constant X) (rw own at read) in
    kept_more waves numbers moment end number.0 kept number.1 (rw equal (sym is ∙ same))

pub found_next : (waves : List Wave) (numbers : List ℕ) (moment end d : ℕ) (wave : Wave) (answer : Bool) → end < length numbers
    → AreKept waves numbers moment end → slice_get waves (get_or numbers end d) ≡ Some wave
    → answer ≡ level_eq (at wave moment) (before wave moment) → answer ≡ false → IsFirstChange waves numbers moment end
found_next waves numbers moment end d wave answer below kept read is differ =
    let number = slice_get-within numbers end below in
    let own : get_or numbers end d ≡ number.0 = slice_get-get numbers end number.0 d number.1 in
    let equal : wave_at waves number.0 ≡ wave = slice_get-get waves number.0 wave (constant X) (rw own at read) in
    first_found waves numbers moment end number.0 kept number.1 (rw equal (sym is ∙ differ))

pub record HasCause (kind : Kind) (delay : Delay) (waves : List Wave) (numbers : List ℕ) (out : Wave) (moment : ℕ) : Type 0 where
  pub earlier : ℕ
  pub put_off : moment ≡ earlier + delay_to delay (at out moment)
  pub target : target_at kind (waves_of waves numbers) earlier ≡ at out moment
  pub changed : target_before kind (waves_of waves numbers) earlier ≢ at out moment
  pub some : SomeChanges waves numbers earlier

pub has_cause : (kind : Kind) (delay : Delay) → IsInRange delay → (waves : List Wave) (numbers : List ℕ) (out : Wave) (moment : ℕ)
    → Obeys kind delay (waves_of waves numbers) out → ChangesAt out moment → HasCause kind delay waves numbers out moment
has_cause kind delay fits waves numbers out moment obeys changes =
    let is = delayed kind delay fits (waves_of waves numbers) out obeys in
    let from = source (target_before kind (waves_of waves numbers)) delay fits (before out) is moment changes in
    record {
      earlier = from.moment;
      put_off = from.put_off;
      target = from.same;
      changed = λ same. from.reaches.change (from.same ∙ sym same);
      some = some_changes waves numbers from.moment (λ equal. from.reaches.change (ap (table kind) equal));
    }
