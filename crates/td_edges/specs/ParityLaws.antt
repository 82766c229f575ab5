-- Internal: when the parity of a gate's inputs changes. These proofs stand here for EdgeLaws.
use Rattle.std.proofs.Common.{◌≡◌, ◌≢◌, ℕ, zero, suc, ◌+◌, ◌<◌, ◌≤◌, max, false, List, [], ◌∷◌, refl, arith, ap, subst, ◌∙◌, sym, Option, Some, None, inl, inr}
use Rattle.std.specs.Prelude.{nat_lt, ◌%◌, ◌==◌, if◌then◌else◌}
use Rattle.std.specs.List.{AllZip, list_any}
use Rattle.std.proofs.Math.Nat.{suc-mod}
use Rattle.std.proofs.lemmas.Bool.{cases_lt, cases_Bool}
use Rattle.td_gates.specs.declared.primitives.Level.{Level}
use Rattle.td_gates.specs.declared.primitives.Level.TheVariants.{Zero as Low, One as High, X}
use Rattle.td_gates.specs.Table.{level_eq, xor_of, inverse_of}
use Rattle.td_gates.specs.Wave.{Wave, at, before}
use Rattle.td_gates.proofs.Levels.{cases_level}
use Rattle.td_gates.proofs.TableLaws.{Booleans}
use Rattle.td_gates.proofs.CountLaws.{count-passing, passing}
use Rattle.td_gates.proofs.KnownLaws.{levels_before}
use Rattle.td_gates.specs.Known.{Agrees, Finishes}
use Rattle.td_edges.specs.declared.signals.Span.{Span}
use Rattle.td_edges.specs.declared.signals.Signal.{Signal}
use Rattle.td_edges.specs.declared.parting.Parting.{Parting}
use Rattle.td_edges.specs.Spans.{until_of}
use Rattle.td_edges.specs.Parting.{odd, no_parts, parted_with, parted, parity_until}
use Rattle.td_edges.specs.Coverage.{ChangesWithin, EdgesCover}
use Rattle.td_edges.specs.WindowLaws.{Ends}

-- waves that the signals cover, one by one
abbrev pub Covered : List Signal → List Wave → Type 0
Covered signals ins = AllZip EdgesCover signals ins

-- a change of a covered wave comes before the moment for its level
pub change_low : (changes : Option Span) (wave : Wave) (t : ℕ) → ChangesWithin changes wave → before wave (suc t) ≢ before wave t
    → t < until_of (before wave (suc t)) changes
change_low None wave t within differ = absurd (differ (within t))
change_low (Some span) wave t within differ = (within t differ).1

pub until_greatest : (v : Level) (changes : Option Span) → until_of v changes ≤ until_of X changes
until_greatest Low None = omega arith
until_greatest High None = omega arith
until_greatest X None = omega arith
until_greatest Low (Some span) = omega arith
until_greatest High (Some span) = omega arith
until_greatest X (Some span) = omega arith

wave_still : (signal : Signal) (wave : Wave) (t : ℕ) → EdgesCover signal wave → until_of X signal.changes ≤ t → before wave (suc t) ≡ before wave t
wave_still signal wave t covered late = elim (cases_level (before wave (suc t)) (before wave t)) [
  | inl same ↦ same
  | inr differ ↦
      let low = change_low signal.changes wave t covered.changes differ in
      let most = until_greatest (before wave (suc t)) signal.changes in
      absurd (omega arith)
]

pub wave_ends : (known : Level) (wave : Wave) → Finishes known wave → Ends known (before wave)
wave_ends known wave finishes = elim (cases_level known X) [
  | inl unknown ↦ record { from = 0; ends = λ n late clear. absurd (clear unknown) }
  | inr clear ↦ let it = finishes clear in record { from = suc it.0; ends = λ n late known. there it.0 it.1 n late }
]
  where
    there : (from : ℕ) → ((t : ℕ) → from ≤ t → before wave (suc t) ≡ known) → (n : ℕ) → suc from ≤ n → before wave n ≡ known
    there from all zero late = absurd (omega arith)
    there from all (suc n) late = all n (omega arith)

-- the exclusive or of two levels
odd-comm : (a b : Level) → odd a b ≡ odd b a
odd-comm Low Low = refl
odd-comm Low High = refl
odd-comm Low X = refl
odd-comm High Low = refl
odd-comm High High = refl
odd-comm High X = refl
odd-comm X Low = refl
odd-comm X High = refl
odd-comm X X = refl

odd-inverse : (b c : Level) → odd (inverse_of b) c ≡ inverse_of (odd b c)
odd-inverse Low c = refl
odd-inverse High Low = refl
odd-inverse High High = refl
odd-inverse High X = refl
odd-inverse X c = refl

odd-assoc : (a b c : Level) → odd (odd a b) c ≡ odd a (odd b c)
odd-assoc Low b c = refl
odd-assoc High b c = odd-inverse b c
odd-assoc X b c = refl

odd-swap : (a b c : Level) → odd (odd a b) c ≡ odd (odd a c) b
odd-swap a b c = odd-assoc a b c ∙ ap (λ l. odd a l) (odd-comm b c) ∙ sym (odd-assoc a c b)

odd-low : (a : Level) → a ≡ odd a Low
odd-low Low = refl
odd-low High = refl
odd-low X = refl

odd-twice : (p w : Level) → p ≢ X → odd p (odd p w) ≡ w
odd-twice Low w known = refl
odd-twice High Low known = refl
odd-twice High High known = refl
odd-twice High X known = refl
odd-twice X w known = absurd (known refl)

odd-agrees : (p f a b : Level) → Agrees p a → Agrees f b → Agrees (odd p f) (odd a b)
odd-agrees Low f a b one two known = let same : a ≡ Low = one (λ e. cc) in rw same (two known)
odd-agrees High Low a b one two known = let same : a ≡ High = one (λ e. cc) in let other : b ≡ Low = two (λ e. cc) in rw (same, other) refl
odd-agrees High High a b one two known = let same : a ≡ High = one (λ e. cc) in let other : b ≡ High = two (λ e. cc) in rw (same, other) refl
odd-agrees High X a b one two known = absurd (known refl)
odd-agrees X f a b one two known = absurd (known refl)

-- the exclusive or of all levels, one by one
abbrev pub odds : Level → List Level → Level
odds parity [] = parity
odds parity (level ∷ levels) = odds (odd parity level) levels

parity-suc : (n : ℕ) → (if (1 + n) % 2 == 1 then High else Low) ≡ inverse_of (if n % 2 == 1 then High else Low)
parity-suc n = let one : 1 + n ≡ suc n = omega arith in rw (one, suc-mod n 2) (by (n % 2) (omega arith))
  where
    by : (r : ℕ) → r < 2 → (if suc r % 2 == 1 then High else Low) ≡ inverse_of (if r == 1 then High else Low)
    by zero low = refl
    by (suc zero) low = refl
    by (suc (suc r)) low = absurd (omega arith)

no_x : (levels : List Level) → Booleans levels → list_any (level_eq X) levels ≡ false
no_x [] h = refl
no_x (Low ∷ levels) h = no_x levels h.1
no_x (High ∷ levels) h = no_x levels h.1
no_x (X ∷ levels) h = absurd (h.0 refl)

xor-passing : (levels : List Level) → Booleans levels → xor_of levels ≡ (if passing (level_eq High) levels % 2 == 1 then High else Low)
xor-passing levels boolean = rw (no_x levels boolean, count-passing (level_eq High) levels) refl

xor-cons : (level : Level) (levels : List Level) → Booleans (level ∷ levels) → xor_of (level ∷ levels) ≡ odd level (xor_of levels)
xor-cons Low levels boolean = xor-passing (Low ∷ levels) boolean ∙ sym (xor-passing levels boolean.1)
xor-cons High levels boolean = xor-passing (High ∷ levels) boolean ∙ parity-suc (passing (level_eq High) levels)
    ∙ ap inverse_of (sym (xor-passing levels boolean.1))
xor-cons X levels boolean = absurd (boolean.0 refl)

pub xor-odds : (parity : Level) (levels : List Level) → Booleans levels → odd parity (xor_of levels) ≡ odds parity levels
xor-odds parity [] boolean = sym (odd-low parity)
xor-odds parity (level ∷ levels) boolean =
    ap (λ l. odd parity l) (xor-cons level levels boolean) ∙ sym (odd-assoc parity level (xor_of levels))
    ∙ xor-odds (odd parity level) levels boolean.1

-- what the parts say of a parity: it is that of one wave, which the last signal covers, and of the
-- others
pub record IsParted (parts : Parting) (e : ℕ → Level) : Type 0 where
  pub wave : Wave
  pub covered : EdgesCover parts.latest wave
  pub others : ℕ → Level
  pub splits : (n : ℕ) → e n ≡ odd (others n) (before wave n)
  pub still : (t : ℕ) → parts.others_until ≤ t → others (suc t) ≡ others t
  pub final : Ends parts.others_parity others

none_parted : (parity : Level) → IsParted (no_parts parity) (λ n. parity)
none_parted parity = record {
  wave = record { start = Low; changes = [] };
  covered = record { start = λ known. refl; finish = λ known. (0, λ t late. refl); changes = never };
  others = λ n. parity;
  splits = quiet;
  still = λ t late. refl;
  final = record { from = 0; ends = λ n late known. refl };
}
  where
    never : (t : ℕ) → at (record { start = Low; changes = [] }) t ≡ before (record { start = Low; changes = [] }) t
    never zero = refl
    never (suc t) = refl

    quiet : (n : ℕ) → parity ≡ odd parity (before (record { start = Low; changes = [] }) n)
    quiet zero = odd-low parity
    quiet (suc n) = odd-low parity

final_both : (p f : Level) (a b : ℕ → Level) → Ends p a → Ends f b → Ends (odd p f) (λ n. odd (a n) (b n))
final_both p f a b one two = record {
  from = max one.from two.from;
  ends = λ n late. odd-agrees p f (a n) (b n) (one.ends n (omega arith)) (two.ends n (omega arith));
}

with_one : (parts : Parting) (e : ℕ → Level) (signal : Signal) (wave : Wave) → IsParted parts e → EdgesCover signal wave
    → IsParted (parted_with signal parts) (λ n. odd (e n) (before wave n))
with_one parts e signal wave is covered = elim (cases_Bool (nat_lt (until_of X parts.latest.changes) (until_of X signal.changes))) [
  | inl later ↦ rw later (record {
    wave = wave;
    covered = covered;
    others = λ n. odd (is.others n) (before is.wave n);
    splits = λ n. ap (λ l. odd l (before wave n)) (is.splits n);
    still = λ t late. both (is.still t (omega arith)) (wave_still parts.latest is.wave t is.covered (omega arith));
    final = final_both parts.others_parity parts.latest.finish is.others (before is.wave) is.final
        (wave_ends parts.latest.finish is.wave is.covered.finish);
  })
  | inr sooner ↦ rw sooner (record {
    wave = is.wave;
    covered = is.covered;
    others = λ n. odd (is.others n) (before wave n);
    splits = λ n. ap (λ l. odd l (before wave n)) (is.splits n) ∙ odd-swap (is.others n) (before is.wave n) (before wave n);
    still = λ t late. both (is.still t (omega arith)) (wave_still signal wave t covered (omega arith));
    final = final_both parts.others_parity signal.finish is.others (before wave) is.final (wave_ends signal.finish wave covered.finish);
  })
]
  where
    both : {a b c d : Level} → a ≡ b → c ≡ d → odd a c ≡ odd b d
    both one two = rw (one, two) refl

with_all : (parts : Parting) (e : ℕ → Level) (signals : List Signal) (ins : List Wave) → IsParted parts e → Covered signals ins
    → IsParted (parted parts signals) (λ n. odds (e n) (levels_before ins n))
with_all parts e [] [] is covered = is
with_all parts e (s ∷ signals) [] is covered = absurd covered
with_all parts e [] (w ∷ ins) is covered = absurd covered
with_all parts e (s ∷ signals) (w ∷ ins) is covered =
    with_all (parted_with s parts) (λ n. odd (e n) (before w n)) signals ins (with_one parts e s w is covered.0) covered.1

-- the parity changes to a level only before the moment for it
parted_low : (parts : Parting) (e : ℕ → Level) → IsParted parts e → (t : ℕ) → e (suc t) ≢ e t → t < parity_until parts (e (suc t))
parted_low parts e is t differ = elim (cases_lt t parts.others_until) [
  | inl early ↦ omega arith
  | inr late ↦ elim (cases_level parts.others_parity X) [
    | inl unknown ↦
        let low = wave_low late in
        let most = until_greatest (before is.wave (suc t)) parts.latest.changes in
        rw unknown (omega arith)
    | inr known ↦
        let level : odd parts.others_parity (e (suc t)) ≡ before is.wave (suc t) =
        ap (λ l. odd parts.others_parity l) (is.splits (suc t) ∙ ap (λ l. odd l (before is.wave (suc t))) (others_known late known))
        ∙ odd-twice parts.others_parity (before is.wave (suc t)) known in
        let low = wave_low late in
        rw level (omega arith)
  ]
]
  where
    wave_low : parts.others_until ≤ t → t < until_of (before is.wave (suc t)) parts.latest.changes
    wave_low late = change_low parts.latest.changes is.wave t is.covered.changes (λ same. differ (
        is.splits (suc t) ∙ ap (λ l. odd l (before is.wave (suc t))) (is.still t late) ∙ ap (λ l. odd (is.others t) l) same ∙ sym (is.splits t)))

    stays : parts.others_until ≤ t → (k : ℕ) → is.others (suc t + k) ≡ is.others (suc t)
    stays late zero = let same : suc t + 0 ≡ suc t = omega arith in rw same refl
    stays late (suc k) = let same : suc t + suc k ≡ suc (suc t + k) = omega arith in
        rw same (is.still (suc t + k) (omega arith) ∙ stays late k)

    others_known : parts.others_until ≤ t → parts.others_parity ≢ X → is.others (suc t) ≡ parts.others_parity
    others_known late known = sym (stays late is.final.from) ∙ is.final.ends (suc t + is.final.from) (omega arith) known

pub parity_low : (parity : Level) (signals : List Signal) (ins : List Wave) (e : ℕ → Level) → Covered signals ins
    → ((n : ℕ) → e n ≡ odds parity (levels_before ins n))
    → (t : ℕ) → e (suc t) ≢ e t → t < parity_until (parted (no_parts parity) signals) (e (suc t))
parity_low parity signals ins e covered same t differ =
    subst (λ (v : Level). t < parity_until (parted (no_parts parity) signals) v) (sym (same (suc t)))
    (parted_low (parted (no_parts parity) signals) (λ n. odds parity (levels_before ins n))
    (with_all (no_parts parity) (λ n. parity) signals ins (none_parted parity) covered) t
    (λ still. differ (same (suc t) ∙ still ∙ sym (same t))))
