-- Internal: proofs of the laws of edges; an impl block takes them from specs/ alone.
use Rattle.std.proofs.Common.{◌≡◌, ◌≢◌, ℕ, zero, suc, ◌+◌, ◌-◌, ◌<◌, ◌≤◌, ◌^◌, max, Bool, true, false, List, [], ◌∷◌, length, map, refl, arith, subst, ◌∙◌, sym, Option, Some, None, ◌⊎◌, inl, inr}
use Rattle.std.specs.Prelude.{nat_lt, ◌||◌}
use Rattle.std.specs.List.{All, AllZip, AllByRecursion}
use Rattle.std.proofs.lemmas.Bool.{cases_lt, lt-ltb, cases_Bool}
use Rattle.std.proofs.lemmas.List.Elements.{recursion_from_All}
use Rattle.td_gates.specs.declared.primitives.Level.{Level}
use Rattle.td_gates.specs.declared.primitives.Level.TheVariants.{Zero as Low, One as High, X}
use Rattle.td_gates.specs.declared.primitives.Kind.{Kind}
use Rattle.td_gates.specs.declared.primitives.Kind.TheVariants.{And, Nand, Or, Nor, Xor, Xnor, Buf, Not}
use Rattle.td_gates.specs.declared.timing.Delay.{Delay}
use Rattle.td_gates.specs.Delays.{IsInRange}
use Rattle.td_gates.specs.Table.{level_from, level_eq, delay_to, inverse_of, TakesInputs, controlling, controls}
use Rattle.td_gates.specs.Wave.{Wave, at, before}
use Rattle.td_gates.specs.Schedule.{Obeys, target_before}
use Rattle.td_domain.specs.declared.cubes.Trit.{Trit}
use Rattle.td_domain.specs.Waves.{IsBoolean, IsQuietAfter, IsConstant}
use Rattle.td_domain.specs.Cubes.{level_of_trit, IsInputWave}
use Rattle.td_domain.proofs.BitLemmas.{all_booleans, bit_known}
use Rattle.td_domain.proofs.Soundness.{level_from-boolean}
use Rattle.td_gates.proofs.Levels.{cases_level, level_eq-other}
use Rattle.td_gates.proofs.Delays.{IsDelayed, delayed}
use Rattle.td_gates.proofs.TableLaws.{AllAgree, Booleans, table-boolean, table_known}
use Rattle.td_gates.specs.Known.{Agrees, Finishes}
use Rattle.td_gates.proofs.KnownLaws.{levels_before, length-levels, delay_to_greatest}
use Rattle.td_gates.proofs.Sources.{source}
use Rattle.td_edges.specs.declared.signals.Span.{Span}
use Rattle.td_edges.specs.declared.signals.Signal.{Signal}
use Rattle.td_edges.specs.declared.parting.Parting.{Parting}
use Rattle.td_edges.specs.Spans.{until, until_of, earliest_of, moving}
use Rattle.td_edges.specs.Parting.{odd, no_parts, parted_with, parted, parity_span}
use Rattle.td_edges.specs.EdgeSignals.{input_until, input_changes, input_signal, constant_signal, around, hull, target_span, settled, limited, capped, raised, kept_by, filtered, after_earliest, timely, never_changes, put_off, output_changes, gate_changes, gate_start, gate_finish, gate_signal}
use Rattle.td_edges.specs.Coverage.{ChangesWithin, EdgesCover, IsEnd, HasMoment, span_reach}
use Rattle.td_edges.specs.WindowLaws.{Ends, MovesIn, output_ends, delayed_holds}
use Rattle.td_edges.specs.ParityLaws.{Covered, until_greatest, change_low, wave_ends}
use Rattle.td_edges.specs.TargetLaws.{target_in, target_still, kept_in}

-- the starts and the finishes of the inputs
starts_agree : (signals : List Signal) (ins : List Wave) → Covered signals ins
    → AllAgree (map (λ signal. signal.start) signals) (levels_before ins 0)
starts_agree [] [] covered = tt
starts_agree (s ∷ signals) [] covered = absurd covered
starts_agree [] (w ∷ ins) covered = absurd covered
starts_agree (s ∷ signals) (w ∷ ins) covered = (covered.0.start, starts_agree signals ins covered.1)

finishes_agree : (signals : List Signal) (ins : List Wave) → Covered signals ins
    → (from : ℕ) × ((n : ℕ) → from ≤ n → AllAgree (map (λ signal. signal.finish) signals) (levels_before ins n))
finishes_agree [] [] covered = (0, λ n late. tt)
finishes_agree (s ∷ signals) [] covered = absurd covered
finishes_agree [] (w ∷ ins) covered = absurd covered
finishes_agree (s ∷ signals) (w ∷ ins) covered =
    let rest = finishes_agree signals ins covered.1 in
    let own = wave_ends s.finish w covered.0.finish in
    (max own.from rest.0, λ n late. (own.ends n (omega arith), rest.1 n (omega arith)))

module _ (kind : Kind) (delay : Delay) (signals : List Signal) (ins : List Wave) (out : Wave)
    (fits : IsInRange delay) (takes : TakesInputs kind (length ins)) (boolean : All IsBoolean ins) (covered : Covered signals ins)
    (is : IsDelayed (target_before kind ins) delay (before out)) where
  whole : (n : ℕ) → Booleans (levels_before ins n)
  whole n = all_booleans ins n (recursion_from_All IsBoolean ins boolean)

  target_boolean : (n : ℕ) → target_before kind ins n ≢ X
  target_boolean n = table-boolean kind (levels_before ins n) (rw length-levels takes) (whole n)

  target_starts : Agrees (gate_start kind signals) (target_before kind ins 0)
  target_starts = table_known kind _ _ (starts_agree signals ins covered)

  target_final : Ends (gate_finish kind signals) (target_before kind ins)
  target_final = let final = finishes_agree signals ins covered in
      record { from = final.0; ends = λ n late. table_known kind _ _ (final.1 n late) }

  changes_for : (span : Option Span) → hull signals ≡ span
      → MovesIn (gate_changes kind delay (gate_start kind signals) (gate_finish kind signals) signals span) (before out)
  changes_for None none = λ t. elim (cases_level (before out (suc t)) (before out t)) [
    | inl same ↦ same
    | inr differ ↦
        let from = source (target_before kind ins) delay fits (before out) is t differ in
        absurd (from.reaches.change (target_still kind signals ins covered none from.moment))
  ]
  changes_for (Some span) some = delayed_holds delay fits (target_before kind ins) (before out) is (gate_start kind signals) (gate_finish kind signals)
      (kept_by (controlling kind) (settled kind) signals (target_span kind signals span)) (record {
        boolean = target_boolean;
        starts = target_starts;
        final = target_final;
        all = kept_in kind signals ins covered target_boolean (target_span kind signals span)
            (target_in kind signals ins covered whole target_boolean span some);
      })

  -- the output ends at its known finish
  finishes : Finishes (gate_finish kind signals) out
  finishes known =
      let final = output_ends delay fits (target_before kind ins) (before out) is (gate_finish kind signals) target_final in
      (final.from, λ t late. final.ends (suc t) (omega arith) known)

  within : (changes : Option Span) → MovesIn changes (before out) → ChangesWithin changes out
  within None moves = moves
  within (Some span) moves = moves

  covers_output : EdgesCover (gate_signal kind delay signals) out
  covers_output = record {
    start = λ known. is.opening ∙ target_starts known;
    finish = finishes;
    changes = within _ (changes_for (hull signals) refl);
  }

pub covers_gate : (kind : Kind) (delay : Delay) (signals : List Signal) (ins : List Wave) (out : Wave)
    → IsInRange delay → TakesInputs kind (length ins) → All IsBoolean ins → AllZip EdgesCover signals ins → Obeys kind delay ins out
    → EdgesCover (gate_signal kind delay signals) out
covers_gate kind delay signals ins out fits takes boolean covered obeys =
    covers_output kind delay signals ins out fits takes boolean covered (delayed kind delay fits ins out obeys)

-- changes within a span, where it may have some
moving_holds : (span : Span) (wave : Wave) → ChangesWithin (Some span) wave → ChangesWithin (moving span) wave
moving_holds span wave within = elim (cases_Bool (nat_lt 0 (until X span))) [
  | inl some ↦ rw some within
  | inr none ↦ rw none (λ t. elim (cases_level (at wave t) (before wave t)) [
    | inl same ↦ same
    | inr differ ↦
        let low = (within t differ).1 in
        let most = until_greatest (at wave t) (Some span) in
        let positive = lt-ltb 0 (until X span) (omega arith) in
        cc
  ])
]

-- an input that turns to a level
turn_until : (start finish : Level) (moment : ℕ) (level : Level) → start ≢ level → finish ≢ inverse_of level
    → input_until start finish moment level ≡ moment + 1
turn_until start finish moment level one two = rw (level_eq-other start level one, level_eq-other finish (inverse_of level) two) refl

input_at : (start finish : Level) (moment : ℕ) (level : Level) → level ≢ X → start ≢ level → finish ≢ inverse_of level
    → moment < until level (record {
      earliest = moment;
      falls_until = input_until start finish moment Low;
      rises_until = input_until start finish moment High;
    })
input_at start finish moment Low known one two = rw (turn_until start finish moment Low one two) (omega arith)
input_at start finish moment High known one two = rw (turn_until start finish moment High one two) (omega arith)
input_at start finish moment X known one two = absurd (known refl)

not_inverse : (level : Level) → level ≢ X → level ≢ inverse_of level
not_inverse Low known = λ e. cc
not_inverse High known = λ e. cc
not_inverse X known = absurd (known refl)

agrees_other : (known level other : Level) → Agrees known level → level ≢ other → other ≢ X → known ≢ other
agrees_other known level other agrees differ clear same = differ (agrees (λ x. clear (sym same ∙ x)) ∙ same)

module _ (first second : Trit) (moment : ℕ) (wave : Wave) (is : IsInputWave first second moment wave) where
  input_starts : Agrees (level_of_trit first) (level_from is.before)
  input_starts = bit_known first is.before is.first_allows

  input_ends : Agrees (level_of_trit second) (level_from is.after)
  input_ends = bit_known second is.after is.second_allows

  early : (n : ℕ) → n ≤ moment → before wave n ≡ level_from is.before
  early zero low = is.starts
  early (suc n) low = is.keeps n (omega arith)

  late : (n : ℕ) → moment < n → before wave n ≡ level_from is.after
  late zero high = absurd (omega arith)
  late (suc n) high = is.then n (omega arith)

  changes_at : (t : ℕ) → before wave (suc t) ≢ before wave t → t ≡ moment
  changes_at t differ = elim (cases_lt t moment) [
    | inl sooner ↦ absurd (differ (early (suc t) (omega arith) ∙ sym (early t (omega arith))))
    | inr now ↦ elim (cases_lt moment t) [
      | inl later ↦ absurd (differ (late (suc t) (omega arith) ∙ sym (late t later)))
      | inr same ↦ omega arith
    ]
  ]

  -- the level before the change isn't the level after it
  both_differ : (t : ℕ) → before wave (suc t) ≢ before wave t → t ≡ moment → level_from is.before ≢ level_from is.after
  both_differ t differ here same = differ (late (suc t) (omega arith) ∙ sym same ∙ sym (early t (omega arith)))

  abbrev input_span : Span
  input_span = record {
    earliest = moment;
    falls_until = input_until (level_of_trit first) (level_of_trit second) moment Low;
    rises_until = input_until (level_of_trit first) (level_of_trit second) moment High;
  }

  input_within : ChangesWithin (Some input_span) wave
  input_within t differ =
      let here = changes_at t differ in
      let level : Level = level_from is.after in
      let clear : level ≢ X = level_from-boolean is.after in
      let low = input_at (level_of_trit first) (level_of_trit second) moment level clear
      (agrees_other (level_of_trit first) (level_from is.before) level input_starts (both_differ t differ here) clear)
      (agrees_other (level_of_trit second) level (inverse_of level) input_ends (not_inverse level clear) (inverse_boolean is.after)) in
      (omega arith, subst (λ (v : Level). t < until v input_span) (sym (late (suc t) (omega arith))) (omega arith))
    where
      inverse_boolean : (bit : Bool) → inverse_of (level_from bit) ≢ X
      inverse_boolean true = λ e. cc
      inverse_boolean false = λ e. cc

  input_covered : EdgesCover (input_signal first second moment) wave
  input_covered = record {
    start = λ known. is.starts ∙ input_starts known;
    finish = λ known. (moment, λ t high. is.then t high ∙ input_ends known);
    changes = moving_holds input_span wave input_within;
  }

pub covers_input : (first second : Trit) (moment : ℕ) (wave : Wave) → IsInputWave first second moment wave
    → EdgesCover (input_signal first second moment) wave
covers_input first second moment wave is = input_covered first second moment wave is

pub covers_constant : (one : Bool) (wave : Wave) → IsConstant (level_from one) wave → EdgesCover (constant_signal one) wave
covers_constant one wave is = record {
  start = λ known. is 0;
  finish = λ known. (0, λ t h. is (suc t));
  changes = λ t. is (suc t) ∙ sym (is t);
}

-- after the latest change a covered wave stays as it is
quiet_by : (changes : Option Span) (wave : Wave) → ChangesWithin changes wave → (k : ℕ)
    → at wave (until_of X changes - 1 + k) ≡ at wave (until_of X changes - 1)
quiet_by changes wave within zero = let same : until_of X changes - 1 + 0 ≡ until_of X changes - 1 = omega arith in rw same refl
quiet_by changes wave within (suc k) =
    let last : ℕ = until_of X changes - 1 in
    let same : last + suc k ≡ suc (last + k) = omega arith in
    rw same (elim (cases_level (before wave (suc (suc (last + k)))) (before wave (suc (last + k)))) [
      | inl still ↦ still ∙ quiet_by changes wave within k
      | inr differ ↦
          let low = change_low changes wave (suc (last + k)) within differ in
          let most = until_greatest (before wave (suc (suc (last + k)))) changes in
          absurd (omega arith)
    ])

pub quiet_after_last : (signal : Signal) (moment : ℕ) (wave : Wave) → Some (until_of X signal.changes - 1) ≡ Some moment → EdgesCover signal wave
    → IsQuietAfter moment wave
quiet_after_last signal moment wave is covered t late =
    let same : until_of X signal.changes - 1 ≡ moment = cc in
    let here : until_of X signal.changes - 1 + (t - moment) ≡ t = omega arith in
    let quiet = quiet_by signal.changes wave covered.changes (t - moment) in
    rw (here, same) at quiet

-- the moments of a signal
abbrev pub Within : ℕ → Signal → Type 0
Within m signal = span_reach signal.changes ≤ m

around_reach : (m : ℕ) (a b : Option Span) → span_reach a ≤ m → span_reach b ≤ m → span_reach (around a b) ≤ m
around_reach m None b h k = k
around_reach m (Some a) None h k = h
around_reach m (Some a) (Some b) h k = omega arith

pub hull_reach : (m : ℕ) (signals : List Signal) → AllByRecursion (Within m) signals → span_reach (hull signals) ≤ m
hull_reach m [] h = omega arith
hull_reach m (s ∷ signals) h = around_reach m s.changes (hull signals) h.0 (hull_reach m signals h.1)

until_reach : (m : ℕ) (v : Level) (changes : Option Span) → span_reach changes ≤ m → until_of v changes ≤ m + 1
until_reach m v None h = omega arith
until_reach m Low (Some span) h = omega arith
until_reach m High (Some span) h = omega arith
until_reach m X (Some span) h = omega arith

earliest_reach : (m : ℕ) (changes : Option Span) → span_reach changes ≤ m → earliest_of changes ≤ m
earliest_reach m None h = omega arith
earliest_reach m (Some span) h = omega arith

abbrev PartsWithin : ℕ → Parting → Type 0
PartsWithin m parts = (span_reach parts.latest.changes ≤ m) × (parts.others_until ≤ m + 1)

parted_reach : (m : ℕ) (parts : Parting) (signals : List Signal) → PartsWithin m parts → AllByRecursion (Within m) signals
    → PartsWithin m (parted parts signals)
parted_reach m parts [] low h = low
parted_reach m parts (s ∷ signals) low h = parted_reach m (parted_with s parts) signals (one s parts low h.0) h.1
  where
    one : (s : Signal) (parts : Parting) → PartsWithin m parts → Within m s → PartsWithin m (parted_with s parts)
    one s parts low h = elim (cases_Bool (nat_lt (until_of X parts.latest.changes) (until_of X s.changes))) [
      | inl later ↦ rw later (h, omega (arith, low.1, until_reach m X parts.latest.changes low.0))
      | inr sooner ↦ rw sooner (low.0, omega (arith, low.1, until_reach m X s.changes h))
    ]

parity_reach : (m : ℕ) (parity : Level) (signals : List Signal) (earliest : ℕ) → earliest ≤ m → AllByRecursion (Within m) signals
    → span_reach (Some (parity_span parity signals earliest)) ≤ m
parity_reach m parity signals earliest low h =
    let parts : Parting = parted (no_parts parity) signals in
    let all = parted_reach m (no_parts parity) signals (omega arith, omega arith) h in
    let falls = until_reach m (odd parts.others_parity Low) parts.latest.changes all.0 in
    let rises = until_reach m (odd parts.others_parity High) parts.latest.changes all.0 in
    let others = all.1 in
    omega arith

target_reach : (m : ℕ) (kind : Kind) (signals : List Signal) (span : Span) → span_reach (Some span) ≤ m → AllByRecursion (Within m) signals
    → span_reach (Some (target_span kind signals span)) ≤ m
target_reach m And signals span low h = low
target_reach m Or signals span low h = low
target_reach m Buf signals span low h = low
target_reach m Nand signals span low h = omega arith
target_reach m Nor signals span low h = omega arith
target_reach m Not signals span low h = omega arith
target_reach m Xor signals span low h = parity_reach m Low signals span.earliest (omega arith) h
target_reach m Xnor signals span low h = parity_reach m High signals span.earliest (omega arith) h

limited_reach : (m : ℕ) (level : Level) (until : ℕ) (span : Span) → span_reach (Some span) ≤ m → span_reach (Some (limited level until span)) ≤ m
limited_reach m Low until span low = omega arith
limited_reach m High until span low = omega arith
limited_reach m X until span low = low

kept_reach : (m : ℕ) (control : Option Level) (out : Level) (signals : List Signal) (span : Span) → span_reach (Some span) ≤ m
    → AllByRecursion (Within m) signals → span_reach (Some (kept_by control out signals span)) ≤ m
kept_reach m control out [] span low h = low
kept_reach m control out (s ∷ signals) span low h =
    kept_reach m control out signals (raised control s (capped control out s span)) (one (capped control out s span) (other span low)) h.1
  where
    other : (span : Span) → span_reach (Some span) ≤ m → span_reach (Some (capped control out s span)) ≤ m
    other span low = elim (cases_Bool (controls control s.finish)) [
      | inl here ↦ rw here (limited_reach m out (until_of s.finish s.changes) span low)
      | inr away ↦ rw away low
    ]

    one : (span : Span) → span_reach (Some span) ≤ m → span_reach (Some (raised control s span)) ≤ m
    one span low = elim (cases_Bool (controls control s.start)) [
      | inl here ↦ rw here (omega (arith, earliest_reach m s.changes h.0))
      | inr away ↦ rw away low
    ]

-- the changes of a gate's target reach no further than those of its inputs
pub target_within : (m : ℕ) (kind : Kind) (signals : List Signal) (span : Span) → span_reach (Some span) ≤ m → AllByRecursion (Within m) signals
    → span_reach (Some (kept_by (controlling kind) (settled kind) signals (target_span kind signals span))) ≤ m
target_within m kind signals span low h = kept_reach m (controlling kind) (settled kind) signals (target_span kind signals span)
    (target_reach m kind signals span low h) h

after_earliest_low : (earliest until : ℕ) → after_earliest earliest until ≤ until
after_earliest_low earliest until = elim (cases_Bool (nat_lt earliest until)) [
  | inl late ↦ rw late (omega arith)
  | inr soon ↦ rw soon (omega arith)
]

pub timely_reach : (m : ℕ) (span : Span) → span_reach (Some span) ≤ m → span_reach (Some (timely span)) ≤ m
timely_reach m span low =
    omega (arith, after_earliest_low span.earliest span.falls_until, after_earliest_low span.earliest span.rises_until)

put_off_low : (steps until : ℕ) → put_off steps until ≤ until + steps
put_off_low steps until = elim (cases_Bool (nat_lt 0 until)) [
  | inl some ↦ rw some (omega arith)
  | inr none ↦ rw none (omega arith)
]

put_off_reach : (m steps until : ℕ) → until ≤ m + 1 → put_off steps until ≤ m + steps + 1
put_off_reach m steps until low = omega (arith, put_off_low steps until)

output_reach : (delay : Delay) (start finish : Level) (m : ℕ) (span : Span) → span_reach (Some span) ≤ m
    → span_reach (output_changes delay start finish span) ≤ m + max delay.rise delay.fall
output_reach delay start finish m span low = elim (cases_Bool (never_changes start finish span)) [
  | inl never ↦ rw never (omega arith)
  | inr some ↦ rw some (omega (
    arith,
    delay_to_greatest delay (inverse_of start),
    put_off_reach m delay.fall span.falls_until (omega arith),
    put_off_reach m delay.rise span.rises_until (omega arith),
  ))
]

pub seen_reach : (m : ℕ) (delay : Delay) (finish : Level) (span : Span) → span_reach (Some span) ≤ m
    → span_reach (Some (timely (filtered delay finish span))) ≤ m
seen_reach m delay finish span low = timely_reach m (filtered delay finish span)
    (limited_reach m (inverse_of finish) (until finish span - delay_to delay (inverse_of finish)) span low)

changes_reach : (kind : Kind) (delay : Delay) (start finish : Level) (m : ℕ) (signals : List Signal) (span : Option Span)
    → AllByRecursion (Within m) signals → span_reach span ≤ m
    → span_reach (gate_changes kind delay start finish signals span) ≤ m + max delay.rise delay.fall
changes_reach kind delay start finish m signals None h low = omega arith
changes_reach kind delay start finish m signals (Some span) h low =
    let kept : Span = kept_by (controlling kind) (settled kind) signals (target_span kind signals span) in
    output_reach delay start finish m (timely (filtered delay finish kept)) (seen_reach m delay finish kept (target_within m kind signals span low h))

pub reach_gate : (kind : Kind) (delay : Delay) (signals : List Signal) (m : ℕ) → All (λ signal. span_reach signal.changes ≤ m) signals
    → span_reach (gate_changes kind delay (gate_start kind signals) (gate_finish kind signals) signals (hull signals))
    ≤ m + max delay.rise delay.fall
reach_gate kind delay signals m small =
    let each = recursion_from_All (Within m) signals small in
    changes_reach kind delay (gate_start kind signals) (gate_finish kind signals) m signals (hull signals) each (hull_reach m signals each)

input_until_low : (start finish : Level) (moment : ℕ) (level : Level) → input_until start finish moment level ≤ moment + 1
input_until_low start finish moment level = elim (cases_Bool (level_eq start level || level_eq finish (inverse_of level))) [
  | inl never ↦ rw never (omega arith)
  | inr may ↦ rw may (omega arith)
]

moving_reach : (span : Span) → span_reach (moving span) ≤ span_reach (Some span)
moving_reach span = elim (cases_Bool (nat_lt 0 (until X span))) [
  | inl some ↦ rw some (omega arith)
  | inr none ↦ rw none (omega arith)
]

pub reach_input : (first second : Trit) (moment : ℕ) → moment ≤ 10 ^ 9
    → span_reach (input_changes (level_of_trit first) (level_of_trit second) moment) ≤ 10 ^ 9
reach_input first second moment small =
    let start : Level = level_of_trit first in
    let finish : Level = level_of_trit second in
    omega (
      arith,
      moving_reach (record { earliest = moment; falls_until = input_until start finish moment Low; rises_until = input_until start finish moment High }),
      input_until_low start finish moment Low,
      input_until_low start finish moment High,
    )

last_is_end : (changes : Option Span) → (until_of X changes - 1 ≡ 0) ⊎ IsEnd changes (until_of X changes - 1)
last_is_end None = inl refl
last_is_end (Some span) = elim (cases_lt 0 (until X span)) [
  | inr none ↦ inl (omega arith)
  | inl some ↦ elim (cases_lt span.falls_until span.rises_until) [
    | inl rise ↦ inr (inr (inr (omega arith)))
    | inr fall ↦ inr (inr (inl (omega arith)))
  ]
]

pub last_is_moment : (signal : Signal) (moment : ℕ) → Some (until_of X signal.changes - 1) ≡ Some moment → (moment ≡ 0) ⊎ HasMoment signal moment
last_is_moment signal moment is = let same : until_of X signal.changes - 1 ≡ moment = cc in rw same at (last_is_end signal.changes)

end_reach : (changes : Option Span) (moment : ℕ) → IsEnd changes moment → moment ≤ span_reach changes
end_reach None moment ends = absurd ends
end_reach (Some span) moment ends = elim ends [
  | inl first ↦ omega arith
  | inr later ↦ elim later [ inl fall ↦ omega arith | inr rise ↦ omega arith ]
]

pub reach_each : (signal : Signal) (moment : ℕ) → HasMoment signal moment → moment ≤ span_reach signal.changes
reach_each signal moment ends = end_reach signal.changes moment ends
