-- Internal: proofs of the laws of arrival windows; an impl block takes them from specs/ alone.
use Rattle.std.proofs.Common.{◌≡◌, ◌≢◌, ℕ, zero, suc, ◌+◌, ◌-◌, ◌<◌, ◌≤◌, ◌^◌, max, Bool, true, List, [], ◌∷◌, length, map, refl, arith, ap, ◌∙◌, sym, Option, Some, None, ◌⊎◌, inl, inr}
use Rattle.std.specs.Prelude.{nat_lt, ◌||◌, is_none, if◌then◌else◌}
use Rattle.std.specs.List.{All, AllZip, AllByRecursion, list_any}
use Rattle.std.proofs.lemmas.Bool.{cases_lt, le-ltb, cases_Bool, or_left, or_right, or_cases, and_parts}
use Rattle.std.proofs.lemmas.List.Elements.{recursion_from_All}
use Rattle.td_gates.specs.declared.primitives.Level.{Level}
use Rattle.td_gates.specs.declared.primitives.Level.TheVariants.{Zero as Low, One as High, X}
use Rattle.td_gates.specs.declared.primitives.Kind.{Kind}
use Rattle.td_gates.specs.declared.primitives.Kind.TheVariants.{And, Nand, Or, Nor, Xor, Xnor, Buf, Not}
use Rattle.td_gates.specs.declared.timing.Delay.{Delay}
use Rattle.td_gates.specs.Delays.{IsInRange}
use Rattle.td_gates.specs.Table.{level_from, table, delay_to, inverse_of, TakesInputs, controlling, controls}
use Rattle.td_gates.specs.Wave.{Wave, at, before}
use Rattle.td_gates.specs.Schedule.{Obeys, target_before}
use Rattle.td_domain.specs.declared.cubes.Trit.{Trit}
use Rattle.td_domain.specs.declared.cubes.Trit.TheVariants.{Zero, One, Free}
use Rattle.td_domain.specs.Waves.{IsBoolean, IsQuietAfter, IsConstant}
use Rattle.td_domain.specs.Cubes.{level_of_trit, IsInputWave}
use Rattle.td_domain.proofs.Lists.{weaker}
use Rattle.td_domain.proofs.BitLemmas.{all_booleans, bit_known}
use Rattle.td_gates.proofs.Levels.{cases_level}
use Rattle.td_gates.proofs.Scheduling.{delay_to-positive}
use Rattle.td_gates.proofs.Delays.{IsDelayed, delayed, delayed-early, delayed-late, delayed-lost}
use Rattle.td_gates.proofs.TableLaws.{AllAgree, table-boolean, table_known}
use Rattle.td_gates.specs.Known.{Agrees, Finishes}
use Rattle.td_gates.proofs.KnownLaws.{levels_before, length-levels, IsClear, controlling_clear, nothing_controls, other_level, first_slow, delay_to_greatest}
use Rattle.td_arrival.specs.declared.signals.Span.{Span}
use Rattle.td_arrival.specs.declared.signals.Signal.{Signal}
use Rattle.td_arrival.specs.Arrivals.{input_changes, input_signal, constant_signal, around, hull, is_held, earliest_of, latest_of, opens_at, closes_at, is_lost, last_delay, delayed_span, gate_changes, gate_start, gate_finish, gate_signal}
use Rattle.td_arrival.specs.Coverage.{ChangesWithin, ArrivalsCover, IsEnd, HasMoment, span_reach}

-- whether some level is the controlling one
abbrev IsControlled : Option Level → List Level → Type 0
IsControlled control levels = list_any (controls control) levels ≡ true

-- an input at the controlling level settles the output
pub controlled : (kind : Kind) (levels others : List Level) → IsControlled (controlling kind) levels → IsControlled (controlling kind) others
    → table kind levels ≡ table kind others
controlled And levels others one two = rw (one, two) refl
controlled Nand levels others one two = rw (one, two) refl
controlled Or levels others one two = rw (one, two) refl
controlled Nor levels others one two = rw (one, two) refl
controlled Xor levels others one two = absurd (nothing_controls levels one)
controlled Xnor levels others one two = absurd (nothing_controls levels one)
controlled Buf levels others one two = absurd (nothing_controls levels one)
controlled Not levels others one two = absurd (nothing_controls levels one)

-- waves that the signals cover, one by one
abbrev Covered : List Signal → List Wave → Type 0
Covered signals ins = AllZip ArrivalsCover signals ins

starts_agree : (signals : List Signal) (ins : List Wave) → Covered signals ins
    → AllAgree (map (λ signal. signal.start) signals) (levels_before ins 0)
starts_agree [] [] covered = tt
starts_agree (s ∷ signals) [] covered = absurd covered
starts_agree [] (w ∷ ins) covered = absurd covered
starts_agree (s ∷ signals) (w ∷ ins) covered = (covered.0.start, starts_agree signals ins covered.1)

-- from some moment on each wave has its known final level
finishes_agree : (signals : List Signal) (ins : List Wave) → Covered signals ins
    → (from : ℕ) × ((t : ℕ) → from ≤ t → AllAgree (map (λ signal. signal.finish) signals) (levels_before ins (suc t)))
finishes_agree [] [] covered = (0, λ t h. tt)
finishes_agree (s ∷ signals) [] covered = absurd covered
finishes_agree [] (w ∷ ins) covered = absurd covered
finishes_agree (s ∷ signals) (w ∷ ins) covered =
    let rest = finishes_agree signals ins covered.1 in
    elim (cases_level s.finish X) [
      | inl unknown ↦ (rest.0, λ t h. ((λ clear. absurd (clear unknown)), rest.1 t h))
      | inr known ↦
          let it = covered.0.finish known in
          (max it.0 rest.0, λ t h. ((λ clear. it.1 t (omega arith)), rest.1 t (omega arith)))
    ]

-- a wave is at its start before every moment up to this place
abbrev StaysUntil : ℕ → Wave → Type 0
StaysUntil place wave = (n : ℕ) → n ≤ place → before wave n ≡ wave.start

-- a wave has one level before every moment past this place
abbrev StaysPast : ℕ → Wave → Type 0
StaysPast place wave = (n m : ℕ) → place < n → place < m → before wave n ≡ before wave m

until_earliest : (span : Span) (wave : Wave) → ChangesWithin (Some span) wave → StaysUntil span.earliest wave
until_earliest span wave within zero low = refl
until_earliest span wave within (suc t) low = within.0 t (omega arith)

past_latest : (span : Span) (wave : Wave) → ChangesWithin (Some span) wave → StaysPast span.latest wave
past_latest span wave within zero m one two = absurd (omega arith)
past_latest span wave within (suc n) zero one two = absurd (omega arith)
past_latest span wave within (suc n) (suc m) one two = within.1 n (omega arith) ∙ sym (within.1 m (omega arith))

never_until : (place : ℕ) (wave : Wave) → ChangesWithin None wave → StaysUntil place wave
never_until place wave never zero low = refl
never_until place wave never (suc t) low = never t

never_past : (place : ℕ) (wave : Wave) → ChangesWithin None wave → StaysPast place wave
never_past place wave never n m one two = never_until n wave never n (omega arith) ∙ sym (never_until m wave never m (omega arith))

-- what the hull says of each wave
abbrev HullHolds : Option Span → Wave → Type 0
HullHolds None wave = ChangesWithin None wave
HullHolds (Some span) wave = StaysUntil span.earliest wave × StaysPast span.latest wave

around_left : (changes others : Option Span) (wave : Wave) → ChangesWithin changes wave → HullHolds (around changes others) wave
around_left None None wave within = within
around_left None (Some span) wave within = (never_until span.earliest wave within, never_past span.latest wave within)
around_left (Some span) None wave within = (until_earliest span wave within, past_latest span wave within)
around_left (Some span) (Some others) wave within = (
  (λ n low. until_earliest span wave within n (omega arith)),
  (λ n m one two. past_latest span wave within n m (omega arith) (omega arith)),
)

around_right : (changes others : Option Span) (wave : Wave) → HullHolds others wave → HullHolds (around changes others) wave
around_right None others wave holds = holds
around_right (Some span) None wave holds = (never_until span.earliest wave holds, never_past span.latest wave holds)
around_right (Some span) (Some others) wave holds =
    ((λ n low. holds.0 n (omega arith)), (λ n m one two. holds.1 n m (omega arith) (omega arith)))

pub hull_holds : (signals : List Signal) (ins : List Wave) → Covered signals ins → AllByRecursion (HullHolds (hull signals)) ins
hull_holds [] [] covered = tt
hull_holds (s ∷ signals) [] covered = absurd covered
hull_holds [] (w ∷ ins) covered = absurd covered
hull_holds (s ∷ signals) (w ∷ ins) covered = (
  around_left s.changes (hull signals) w covered.0.changes,
  weaker _ _ (λ wave holds. around_right s.changes (hull signals) wave holds) ins (hull_holds signals ins covered.1),
)

same_before : (ins : List Wave) (n m : ℕ) → AllByRecursion (λ wave. before wave n ≡ before wave m) ins → levels_before ins n ≡ levels_before ins m
same_before [] n m h = refl
same_before (w ∷ ins) n m h = let rest = same_before ins n m h.1 in rw (h.0, rest) refl

none_is : {A : Type 0} (o : Option A) → is_none o ≡ true → o ≡ None
none_is None h = refl
none_is (Some x) h = cc

pub closes_within : (control : Option Level) (latest : ℕ) (signals : List Signal) → closes_at control latest signals ≤ latest
closes_within control latest [] = omega arith
closes_within control latest (s ∷ signals) = omega (arith, closes_within control latest signals)

module _ (control : Option Level) (clear : IsClear control) where
  -- an input that is held at the controlling level
  held_here : (s : Signal) (w : Wave) → ArrivalsCover s w → controls control s.finish ≡ true → (changes : Option Span) → changes ≡ None
      → ChangesWithin changes w → (n : ℕ) → controls control (before w n) ≡ true
  held_here s w covered at_control None none never n =
      let known = clear s.finish at_control in
      let final = covered.finish known in
      let same : before w n ≡ s.finish =
      never_until n w never n (omega arith) ∙ sym (never_until (suc final.0) w never (suc final.0) (omega arith)) ∙ final.1 final.0 (omega arith) in
      rw same at_control
  held_here s w covered at_control (Some span) none never n = cc

  pub held_controls : (signals : List Signal) (ins : List Wave) → Covered signals ins
      → is_held control signals ≡ true → (n : ℕ) → IsControlled control (levels_before ins n)
  held_controls [] [] covered held n = cc
  held_controls (s ∷ signals) [] covered held n = absurd covered
  held_controls [] (w ∷ ins) covered held n = absurd covered
  held_controls (s ∷ signals) (w ∷ ins) covered held n = elim (or_cases _ _ held) [
    | inl here ↦
        let both = and_parts _ _ here in
        or_left _ _ (held_here s w covered.0 both.0 s.changes (none_is s.changes both.1) covered.0.changes n)
    | inr there ↦ or_right _ _ (held_controls signals ins covered.1 there n)
  ]

  -- an input that starts at the controlling level, until its earliest change
  opens_here : (s : Signal) (w : Wave) → ArrivalsCover s w → controls control s.start ≡ true → (changes : Option Span) → ChangesWithin changes w
      → (n : ℕ) → n ≤ earliest_of changes → controls control (before w n) ≡ true
  opens_here s w covered at_control None within n low =
      let same : before w n ≡ s.start = never_until n w within n (omega arith) ∙ covered.start (clear s.start at_control) in
      rw same at_control
  opens_here s w covered at_control (Some span) within n low =
      let same : before w n ≡ s.start = until_earliest span w within n low ∙ covered.start (clear s.start at_control) in
      rw same at_control

  -- the opening is that of the hull, or up to it some input is at the controlling level
  pub opens_controls : (earliest : ℕ) (signals : List Signal) (ins : List Wave) → Covered signals ins
      → (opens_at control earliest signals ≤ earliest)
      ⊎ ((n : ℕ) → n ≤ opens_at control earliest signals → IsControlled control (levels_before ins n))
  opens_controls earliest [] [] covered = inl (omega arith)
  opens_controls earliest (s ∷ signals) [] covered = absurd covered
  opens_controls earliest [] (w ∷ ins) covered = absurd covered
  opens_controls earliest (s ∷ signals) (w ∷ ins) covered = elim (cases_Bool (controls control s.start)) [
    | inr other ↦ rw other (elim (opens_controls earliest signals ins covered.1) [
      | inl under ↦ inl (omega arith)
      | inr inputs ↦ inr (λ n low. or_right _ _ (inputs n (omega arith)))
    ])
    | inl here ↦ rw here (elim (cases_lt (opens_at control earliest signals) (earliest_of s.changes)) [
      | inl more ↦ inr (λ n low. or_left _ _ (opens_here s w covered.0 here s.changes covered.0.changes n (omega arith)))
      | inr less ↦ elim (opens_controls earliest signals ins covered.1) [
        | inl under ↦ inl (omega arith)
        | inr inputs ↦ inr (λ n low. or_right _ _ (inputs n (omega arith)))
      ]
    ])
  ]

  -- an input that finishes at the controlling level, from its latest change on
  closes_here : (s : Signal) (w : Wave) → ArrivalsCover s w → controls control s.finish ≡ true → (span : Span) → ChangesWithin (Some span) w
      → (n : ℕ) → span.latest < n → controls control (before w n) ≡ true
  closes_here s w covered at_control span within n high =
      let final = covered.finish (clear s.finish at_control) in
      let later : ℕ = suc (max final.0 span.latest) in
      let same : before w n ≡ s.finish =
      past_latest span w within n later high (omega arith) ∙ final.1 (max final.0 span.latest) (omega arith) in
      rw same at_control

  abbrev closing : ℕ → Signal → ℕ
  closing latest s = if controls control s.finish then latest_of latest s.changes else latest

  closes_changes : (latest : ℕ) (s : Signal) (w : Wave) → ArrivalsCover s w → controls control s.finish ≡ true → (changes : Option Span)
      → ChangesWithin changes w
      → (latest ≤ latest_of latest changes) ⊎ ((n : ℕ) → latest_of latest changes < n → controls control (before w n) ≡ true)
  closes_changes latest s w covered here None within = inl (omega arith)
  closes_changes latest s w covered here (Some span) within = inr (closes_here s w covered here span within)

  closes_one : (latest : ℕ) (s : Signal) (w : Wave) → ArrivalsCover s w
      → (latest ≤ closing latest s) ⊎ ((n : ℕ) → closing latest s < n → controls control (before w n) ≡ true)
  closes_one latest s w covered = elim (cases_Bool (controls control s.finish)) [
    | inr other ↦ rw other (inl (omega arith))
    | inl here ↦ rw here (closes_changes latest s w covered here s.changes covered.changes)
  ]

  -- the closing is that of the hull, or past it some input is at the controlling level
  pub closes_controls : (latest : ℕ) (signals : List Signal) (ins : List Wave) → Covered signals ins
      → (latest ≤ closes_at control latest signals)
      ⊎ ((n : ℕ) → closes_at control latest signals < n → IsControlled control (levels_before ins n))
  closes_controls latest [] [] covered = inl (omega arith)
  closes_controls latest (s ∷ signals) [] covered = absurd covered
  closes_controls latest [] (w ∷ ins) covered = absurd covered
  closes_controls latest (s ∷ signals) (w ∷ ins) covered =
      let small = closes_within control latest signals in
      elim (cases_lt (closing latest s) (closes_at control latest signals)) [
        | inl sooner ↦ elim (closes_one latest s w covered.0) [
          | inl late ↦ inl (omega arith)
          | inr inputs ↦ inr (λ n high. or_left _ _ (inputs n (omega arith)))
        ]
        | inr later ↦ elim (closes_controls latest signals ins covered.1) [
          | inl late ↦ inl (omega arith)
          | inr inputs ↦ inr (λ n high. or_right _ _ (inputs n (omega arith)))
        ]
      ]

last_fast : (delay : Delay) (finish level : Level) → Agrees finish level → level ≢ X → delay_to delay level ≤ last_delay delay finish
last_fast delay Low level agree boolean = let same : level ≡ Low = agree (λ e. cc) in rw same (omega arith)
last_fast delay High level agree boolean = let same : level ≡ High = agree (λ e. cc) in rw same (omega arith)
last_fast delay X Low agree boolean = omega arith
last_fast delay X High agree boolean = omega arith
last_fast delay X X agree boolean = omega arith

lt_from : (a b : ℕ) → nat_lt a b ≡ true → a < b
lt_from a b h = elim (cases_lt a b) [
  | inl less ↦ less
  | inr more ↦ (let no = le-ltb a b more in cc)
]

lost_cases : (delay : Delay) (start finish : Level) (width : ℕ) → is_lost delay start finish width ≡ true
    → (start ≢ X) × (start ≡ finish) × (width < delay_to delay (inverse_of start))
lost_cases delay Low Low width h = ((λ e. cc), refl, lt_from width delay.rise h)
lost_cases delay Low High width h = cc
lost_cases delay Low X width h = cc
lost_cases delay High Low width h = cc
lost_cases delay High High width h = ((λ e. cc), refl, lt_from width delay.fall h)
lost_cases delay High X width h = cc
lost_cases delay X finish width h = cc

-- a target that changes only from E to L, with its levels before and after
pub record IsTarget (e : ℕ → Level) (start finish : Level) (E L : ℕ) : Type 0 where
  pub boolean : (n : ℕ) → e n ≢ X
  pub starts : Agrees start (e 0)
  pub from : ℕ
  pub finishes : (t : ℕ) → from ≤ t → Agrees finish (e (suc t))
  pub early : (n : ℕ) → n ≤ E → e n ≡ e 0
  pub late : (n m : ℕ) → L < n → L < m → e n ≡ e m

module _ (delay : Delay) (fits : IsInRange delay) (out : Wave) (e : ℕ → Level) (is : IsDelayed e delay (before out)) (start finish : Level) (E L : ℕ)
    (target : IsTarget e start finish E L) where
  -- the level after the last change
  final_agrees : Agrees finish (e (suc L))
  final_agrees known =
      let later : ℕ = max target.from L in
      target.late (suc L) (suc later) (omega arith) (omega arith) ∙ target.finishes later (omega arith) known

  never_by : (level : Level) → ((n : ℕ) → before out n ≡ level) → ChangesWithin None out
  never_by level all t = all (suc t) ∙ sym (all 0)

  crossed : L < E → ChangesWithin None out
  crossed apart = never_by (e 0) (delayed-lost e delay fits (before out) is E L (e 0) target.early
      (λ n after. target.late n E after apart ∙ target.early E (omega arith))
      (λ n differ. omega (arith, delay_to-positive delay fits (e n))))

  lost : is_lost delay start finish (L - E) ≡ true → ChangesWithin None out
  lost short =
      let known = lost_cases delay start finish (L - E) short in
      let first : e 0 ≡ start = target.starts known.0 in
      let final : e (suc L) ≡ start = final_agrees (λ x. known.0 (known.1 ∙ x)) ∙ sym known.1 in
      never_by start (delayed-lost e delay fits (before out) is E L start
      (λ n low. target.early n low ∙ first)
      (λ n after. target.late n (suc L) after (omega arith) ∙ final)
      (λ n differ. rw (other_level start (e n) known.0 (target.boolean n) differ) known.2))

  spread : ChangesWithin (Some (record { earliest = E + delay_to delay (inverse_of start); latest = L + last_delay delay finish })) out
  spread = (
    (λ t sooner. delayed-early e delay fits (before out) is E (delay_to delay (inverse_of start)) target.early
        (λ n differ. first_slow delay start (e 0) (e n) target.starts (target.boolean n) differ) (suc t) (omega arith)
        ∙ sym is.opening),
    (λ t later.
        let there : (n : ℕ) → L + last_delay delay finish < n → before out n ≡ e (suc L) =
        delayed-late e delay fits (before out) is L (last_delay delay finish) (e (suc L))
        (λ n after. target.late n (suc L) after (omega arith))
        (last_fast delay finish (e (suc L)) final_agrees (target.boolean (suc L))) in
        there (suc t) (omega arith) ∙ sym (there (suc (L + last_delay delay finish)) (omega arith))),
  )

  pub delayed_changes : ChangesWithin (delayed_span delay start finish E L) out
  delayed_changes = elim (cases_Bool (nat_lt L E || is_lost delay start finish (L - E))) [
    | inl none ↦ rw none (elim (or_cases _ _ none) [
      | inl apart ↦ crossed (lt_from L E apart)
      | inr short ↦ lost short
    ])
    | inr some ↦ rw some spread
  ]

module _ (kind : Kind) (delay : Delay) (signals : List Signal) (ins : List Wave) (out : Wave)
    (fits : IsInRange delay) (takes : TakesInputs kind (length ins)) (boolean : All IsBoolean ins) (covered : Covered signals ins)
    (is : IsDelayed (target_before kind ins) delay (before out)) where
  target_boolean : (n : ℕ) → target_before kind ins n ≢ X
  target_boolean n = table-boolean kind (levels_before ins n) (rw length-levels takes)
      (all_booleans ins n (recursion_from_All IsBoolean ins boolean))

  target_starts : Agrees (gate_start kind signals) (target_before kind ins 0)
  target_starts = table_known kind _ _ (starts_agree signals ins covered)

  target_finishes : (from : ℕ) × ((t : ℕ) → from ≤ t → Agrees (gate_finish kind signals) (target_before kind ins (suc t)))
  target_finishes =
      let final = finishes_agree signals ins covered in
      (final.0, λ t h. table_known kind _ _ (final.1 t h))

  -- a target of one level gives an output of one level
  still : ((n : ℕ) → target_before kind ins n ≡ target_before kind ins 0) → ChangesWithin None out
  still same = let all = delayed-lost (target_before kind ins) delay fits (before out) is 0 0 (target_before kind ins 0)
      (λ n low. same n) (λ n high. same n) (λ n differ. absurd (differ (same n))) in
      λ t. all (suc t) ∙ sym (all 0)

  is_target : (span : Span) → AllByRecursion (HullHolds (Some span)) ins
      → IsTarget (target_before kind ins) (gate_start kind signals) (gate_finish kind signals)
      (opens_at (controlling kind) span.earliest signals) (closes_at (controlling kind) span.latest signals)
  is_target span holds = record {
    boolean = target_boolean;
    starts = target_starts;
    from = target_finishes.0;
    finishes = target_finishes.1;
    early = λ n low. elim (opens_controls (controlling kind) (controlling_clear kind) span.earliest signals ins covered) [
      | inl under ↦ ap (table kind) (same_before ins n 0 (weaker _ _ (λ wave h. h.0 n (omega arith)) ins holds))
      | inr inputs ↦ controlled kind _ _ (inputs n low) (inputs 0 (omega arith))
    ];
    late = λ n m one two. elim (closes_controls (controlling kind) (controlling_clear kind) span.latest signals ins covered) [
      | inl over ↦ ap (table kind) (same_before ins n m (weaker _ _ (λ wave h. h.1 n m (omega arith) (omega arith)) ins holds))
      | inr inputs ↦ controlled kind _ _ (inputs n one) (inputs m two)
    ];
  }

  changes_for : (span : Option Span) → AllByRecursion (HullHolds span) ins
      → ChangesWithin (gate_changes (controlling kind) delay (gate_start kind signals) (gate_finish kind signals) signals span) out
  changes_for None holds = still (λ n. ap (table kind) (same_before ins n 0 (weaker _ _ (λ wave never. never_until n wave never n (omega arith)) ins holds)))
  changes_for (Some span) holds = elim (cases_Bool (is_held (controlling kind) signals)) [
    | inl held ↦ rw held (still (λ n. controlled kind _ _
        (held_controls (controlling kind) (controlling_clear kind) signals ins covered held n)
        (held_controls (controlling kind) (controlling_clear kind) signals ins covered held 0)))
    | inr free ↦ rw free (delayed_changes delay fits out (target_before kind ins) is _ _ _ _ (is_target span holds))
  ]

  finishes : Finishes (gate_finish kind signals) out
  finishes known =
      let level : Level = gate_finish kind signals in
      let from : ℕ = target_finishes.0 in (
        suc from + delay_to delay level,
        λ t h. delayed-late (target_before kind ins) delay fits (before out) is (suc from) (delay_to delay level) level
            (λ n after. finish_at n after known) (omega arith) (suc t) (omega arith),
      )
    where
      finish_at : (n : ℕ) → suc target_finishes.0 < n → gate_finish kind signals ≢ X → target_before kind ins n ≡ gate_finish kind signals
      finish_at zero after known = absurd (omega arith)
      finish_at (suc n) after known = target_finishes.1 n (omega arith) known

  covers_output : ArrivalsCover (gate_signal kind delay signals) out
  covers_output = record {
    start = λ known. is.opening ∙ target_starts known;
    finish = finishes;
    changes = changes_for (hull signals) (hull_holds signals ins covered);
  }

pub covers_gate : (kind : Kind) (delay : Delay) (signals : List Signal) (ins : List Wave) (out : Wave)
    → IsInRange delay → TakesInputs kind (length ins) → All IsBoolean ins → AllZip ArrivalsCover signals ins → Obeys kind delay ins out
    → ArrivalsCover (gate_signal kind delay signals) out
covers_gate kind delay signals ins out fits takes boolean covered obeys =
    covers_output kind delay signals ins out fits takes boolean covered (delayed kind delay fits ins out obeys)

-- the wave keeps its start before this moment, and stays from then on
abbrev ChangesAt : ℕ → Wave → Type 0
ChangesAt moment wave = ((t : ℕ) → t < moment → at wave t ≡ wave.start) × IsQuietAfter moment wave

never_from : (moment : ℕ) (wave : Wave) (known : Level) → known ≢ X → Agrees known wave.start → Agrees known (at wave moment)
    → ChangesAt moment wave → ChangesWithin None wave
never_from moment wave known clear first second changes t = elim (cases_lt t moment) [
  | inl early ↦ changes.0 t early
  | inr late ↦ changes.1 t late ∙ second clear ∙ sym (first clear)
]

input_within : (first second : Trit) (moment : ℕ) (wave : Wave) → Agrees (level_of_trit first) wave.start
    → Agrees (level_of_trit second) (at wave moment) → ChangesAt moment wave → ChangesWithin (input_changes first second moment) wave
input_within Zero Zero moment wave a b changes = never_from moment wave Low (λ e. cc) a b changes
input_within One One moment wave a b changes = never_from moment wave High (λ e. cc) a b changes
input_within Zero One moment wave a b changes = changes
input_within One Zero moment wave a b changes = changes
input_within Zero Free moment wave a b changes = changes
input_within One Free moment wave a b changes = changes
input_within Free second moment wave a b changes = changes

pub covers_input : (first second : Trit) (moment : ℕ) (wave : Wave) → IsInputWave first second moment wave
    → ArrivalsCover (input_signal first second moment) wave
covers_input first second moment wave is =
    let a : Agrees (level_of_trit first) wave.start = λ known. is.starts ∙ bit_known first is.before is.first_allows known in
    let b : (t : ℕ) → moment ≤ t → Agrees (level_of_trit second) (at wave t) =
    λ t late known. is.then t late ∙ bit_known second is.after is.second_allows known in
    let now : moment ≤ moment = omega arith in
    record {
      start = a;
      finish = λ known. (moment, λ t h. b t h known);
      changes = input_within first second moment wave a (b moment now)
          ((λ t early. is.keeps t early ∙ sym is.starts), (λ t late. is.then t late ∙ sym (is.then moment now)));
    }

pub covers_constant : (one : Bool) (wave : Wave) → IsConstant (level_from one) wave → ArrivalsCover (constant_signal one) wave
covers_constant one wave is = record {
  start = λ known. is 0;
  finish = λ known. (0, λ t h. is (suc t));
  changes = λ t. is (suc t) ∙ sym (is 0);
}

quiet_by : (changes : Option Span) (wave : Wave) → ChangesWithin changes wave → IsQuietAfter (latest_of 0 changes) wave
quiet_by None wave within = λ t h. within t ∙ sym (within 0)
quiet_by (Some span) wave within = within.1

pub quiet_after_last : (signal : Signal) (moment : ℕ) (wave : Wave) → Some (latest_of 0 signal.changes) ≡ Some moment → ArrivalsCover signal wave
    → IsQuietAfter moment wave
quiet_after_last signal moment wave is covered =
    let same : latest_of 0 signal.changes ≡ moment = cc in rw same at (quiet_by signal.changes wave covered.changes)

-- the moments of a signal
around_reach : (m : ℕ) (a b : Option Span) → span_reach a ≤ m → span_reach b ≤ m → span_reach (around a b) ≤ m
around_reach m None b h k = k
around_reach m (Some a) None h k = h
around_reach m (Some a) (Some b) h k = omega arith

abbrev pub Within : ℕ → Signal → Type 0
Within m signal = span_reach signal.changes ≤ m

pub hull_reach : (m : ℕ) (signals : List Signal) → AllByRecursion (Within m) signals → span_reach (hull signals) ≤ m
hull_reach m [] h = omega arith
hull_reach m (s ∷ signals) h = around_reach m s.changes (hull signals) h.0 (hull_reach m signals h.1)

earliest_reach : (m : ℕ) (changes : Option Span) → span_reach changes ≤ m → earliest_of changes ≤ m
earliest_reach m None h = omega arith
earliest_reach m (Some span) h = omega arith

pub opens_reach : (control : Option Level) (m earliest : ℕ) (signals : List Signal) → earliest ≤ m → AllByRecursion (Within m) signals
    → opens_at control earliest signals ≤ m
opens_reach control m earliest [] low h = low
opens_reach control m earliest (s ∷ signals) low h =
    let rest = opens_reach control m earliest signals low h.1 in
    elim (cases_Bool (controls control s.start)) [
      | inl here ↦ rw here (omega (arith, earliest_reach m s.changes h.0))
      | inr other ↦ rw other (omega arith)
    ]

last_delay_greatest : (delay : Delay) (level : Level) → last_delay delay level ≤ max delay.rise delay.fall
last_delay_greatest delay Low = omega arith
last_delay_greatest delay High = omega arith
last_delay_greatest delay X = omega arith

span_delay_reach : (delay : Delay) (start finish : Level) (m earliest latest : ℕ) → earliest ≤ m → latest ≤ m
    → span_reach (delayed_span delay start finish earliest latest) ≤ m + max delay.rise delay.fall
span_delay_reach delay start finish m earliest latest low high =
    elim (cases_Bool (nat_lt latest earliest || is_lost delay start finish (latest - earliest))) [
      | inl none ↦ rw none (omega arith)
      | inr some ↦ rw some (omega (arith, delay_to_greatest delay (inverse_of start), last_delay_greatest delay finish))
    ]

changes_reach : (control : Option Level) (delay : Delay) (start finish : Level) (m : ℕ) (signals : List Signal) (span : Option Span)
    → AllByRecursion (Within m) signals → span_reach span ≤ m
    → span_reach (gate_changes control delay start finish signals span) ≤ m + max delay.rise delay.fall
changes_reach control delay start finish m signals None h low = omega arith
changes_reach control delay start finish m signals (Some span) h low = elim (cases_Bool (is_held control signals)) [
  | inl held ↦ rw held (omega arith)
  | inr free ↦ rw free (span_delay_reach delay start finish m _ _
      (opens_reach control m span.earliest signals (omega arith) h)
      (omega (arith, closes_within control span.latest signals)))
]

pub reach_gate : (kind : Kind) (delay : Delay) (signals : List Signal) (m : ℕ) → All (λ signal. span_reach signal.changes ≤ m) signals
    → span_reach (gate_changes (controlling kind) delay (gate_start kind signals) (gate_finish kind signals) signals (hull signals))
    ≤ m + max delay.rise delay.fall
reach_gate kind delay signals m small =
    let each = recursion_from_All (Within m) signals small in
    changes_reach (controlling kind) delay _ _ m signals (hull signals) each (hull_reach m signals each)

pub reach_input : (first second : Trit) (moment : ℕ) → moment ≤ 10 ^ 9 → span_reach (input_changes first second moment) ≤ 10 ^ 9
reach_input Zero Zero moment small = omega arith
reach_input One One moment small = omega arith
reach_input Zero One moment small = omega arith
reach_input One Zero moment small = omega arith
reach_input Zero Free moment small = omega arith
reach_input One Free moment small = omega arith
reach_input Free second moment small = omega arith

last_is_end : (changes : Option Span) → (latest_of 0 changes ≡ 0) ⊎ IsEnd changes (latest_of 0 changes)
last_is_end None = inl refl
last_is_end (Some span) = inr (inr refl)

pub last_is_moment : (signal : Signal) (moment : ℕ) → Some (latest_of 0 signal.changes) ≡ Some moment → (moment ≡ 0) ⊎ HasMoment signal moment
last_is_moment signal moment is = let same : latest_of 0 signal.changes ≡ moment = cc in rw same at (last_is_end signal.changes)

end_reach : (changes : Option Span) (moment : ℕ) → IsEnd changes moment → moment ≤ span_reach changes
end_reach None moment ends = absurd ends
end_reach (Some span) moment ends = elim ends [
  | inl first ↦ omega arith
  | inr last ↦ omega arith
]

pub reach_each : (signal : Signal) (moment : ℕ) → HasMoment signal moment → moment ≤ span_reach signal.changes
reach_each signal moment ends = end_reach signal.changes moment ends
