-- Internal: when the target of a gate changes. These proofs stand here for EdgeLaws.
use Rattle.std.proofs.Common.{◌≡◌, ◌≢◌, ℕ, zero, suc, ◌<◌, ◌≤◌, max, true, false, List, [], ◌∷◌, refl, arith, ap, subst, ◌∙◌, sym, Option, Some, None, ◌⊎◌, inl, inr}
use Rattle.std.specs.List.{AllByRecursion, list_any, list_all}
use Rattle.std.proofs.lemmas.Bool.{cases_lt, cases_Bool, or_left, or_right, and_parts}
use Rattle.td_gates.specs.declared.primitives.Level.{Level}
use Rattle.td_gates.specs.declared.primitives.Level.TheVariants.{Zero as Low, One as High, X}
use Rattle.td_gates.specs.declared.primitives.Kind.{Kind}
use Rattle.td_gates.specs.declared.primitives.Kind.TheVariants.{And, Nand, Or, Nor, Xor, Xnor, Buf, Not}
use Rattle.td_gates.specs.Table.{table, level_eq, and_of, or_of, buf_of, inverse_of, controlling, controls}
use Rattle.td_gates.specs.Wave.{Wave, before}
use Rattle.td_gates.specs.Schedule.{target_before}
use Rattle.td_gates.proofs.Levels.{cases_level, level_eq-same, level_eq-other}
use Rattle.td_gates.proofs.TableLaws.{Booleans}
use Rattle.td_gates.proofs.KnownLaws.{levels_before, IsClear, controlling_clear, nothing_controls}
use Rattle.td_edges.specs.declared.signals.Span.{Span}
use Rattle.td_edges.specs.declared.signals.Signal.{Signal}
use Rattle.td_edges.specs.Spans.{until, until_of, earliest_of}
use Rattle.td_edges.specs.Parting.{parity_span, parity_until, parted, no_parts}
use Rattle.td_edges.specs.EdgeSignals.{around, hull, turned, target_span, settled, capped, raised, kept_by}
use Rattle.td_edges.specs.Coverage.{ChangesWithin, EdgesCover}
use Rattle.td_edges.specs.WindowLaws.{StaysIn, turns_to_end, limited_at, limited-earliest}
use Rattle.td_edges.specs.ParityLaws.{Covered, change_low, wave_ends, odds, xor-odds, parity_low}

-- some input changes at moment t
abbrev pub SomeChange : ℕ → List Wave → Type 0
SomeChange t [] = ⊥
SomeChange t (w ∷ ins) = (before w (suc t) ≢ before w t) ⊎ SomeChange t ins

pub some_or_none : (t : ℕ) (ins : List Wave) → SomeChange t ins ⊎ (levels_before ins (suc t) ≡ levels_before ins t)
some_or_none t [] = inr refl
some_or_none t (w ∷ ins) = elim (cases_level (before w (suc t)) (before w t)) [
  | inr differ ↦ inl (inl differ)
  | inl same ↦ elim (some_or_none t ins) [
    | inl some ↦ inl (inr some)
    | inr none ↦ inr (rw (same, none) refl)
  ]
]

-- some input changes to a level at moment t
abbrev pub SomeTurn : Level → ℕ → List Wave → Type 0
SomeTurn v t [] = ⊥
SomeTurn v t (w ∷ ins) = ((before w (suc t) ≡ v) × (before w t ≢ v)) ⊎ SomeTurn v t ins

abbrev NoTurn : Level → ℕ → List Wave → Type 0
NoTurn v t ins = AllByRecursion (λ wave. before wave (suc t) ≡ v → before wave t ≡ v) ins

turn_or_none : (v : Level) (t : ℕ) (ins : List Wave) → SomeTurn v t ins ⊎ NoTurn v t ins
turn_or_none v t [] = inr tt
turn_or_none v t (w ∷ ins) = elim (turn_or_none v t ins) [
  | inl some ↦ inl (inr some)
  | inr none ↦ elim (cases_level (before w (suc t)) v) [
    | inr other ↦ inr ((λ here. absurd (other here)), none)
    | inl here ↦ elim (cases_level (before w t) v) [
      | inl there ↦ inr ((λ now. there), none)
      | inr away ↦ inl (inl (here, away))
    ]
  ]
]

-- what the hull says of a change, and of one to a level
abbrev IsFrom : Option Span → ℕ → Type 0
IsFrom None t = ⊥
IsFrom (Some span) t = span.earliest ≤ t

from_left : (changes others : Option Span) (t : ℕ) → IsFrom changes t → IsFrom (around changes others) t
from_left None others t from = absurd from
from_left (Some span) None t from = from
from_left (Some span) (Some other) t from = omega arith

from_right : (changes others : Option Span) (t : ℕ) → IsFrom others t → IsFrom (around changes others) t
from_right None others t from = from
from_right (Some span) None t from = absurd from
from_right (Some span) (Some other) t from = omega arith

within_from : (changes : Option Span) (wave : Wave) (t : ℕ) → ChangesWithin changes wave → before wave (suc t) ≢ before wave t → IsFrom changes t
within_from None wave t within differ = absurd (differ (within t))
within_from (Some span) wave t within differ = (within t differ).0

pub hull_from : (signals : List Signal) (ins : List Wave) (t : ℕ) → Covered signals ins → SomeChange t ins → IsFrom (hull signals) t
hull_from [] [] t covered some = absurd some
hull_from (s ∷ signals) [] t covered some = absurd covered
hull_from [] (w ∷ ins) t covered some = absurd covered
hull_from (s ∷ signals) (w ∷ ins) t covered some = elim some [
  | inl here ↦ from_left s.changes (hull signals) t (within_from s.changes w t covered.0.changes here)
  | inr there ↦ from_right s.changes (hull signals) t (hull_from signals ins t covered.1 there)
]

low_left : (v : Level) (changes others : Option Span) (t : ℕ) → t < until_of v changes → t < until_of v (around changes others)
low_left v None others t low = absurd (omega arith)
low_left v (Some span) None t low = low
low_left Low (Some span) (Some other) t low = omega arith
low_left High (Some span) (Some other) t low = omega arith
low_left X (Some span) (Some other) t low = omega arith

low_right : (v : Level) (changes others : Option Span) (t : ℕ) → t < until_of v others → t < until_of v (around changes others)
low_right v None others t low = low
low_right v (Some span) None t low = absurd (omega arith)
low_right Low (Some span) (Some other) t low = omega arith
low_right High (Some span) (Some other) t low = omega arith
low_right X (Some span) (Some other) t low = omega arith

pub hull_low : (v : Level) (signals : List Signal) (ins : List Wave) (t : ℕ) → Covered signals ins → SomeTurn v t ins → t < until_of v (hull signals)
hull_low v [] [] t covered some = absurd some
hull_low v (s ∷ signals) [] t covered some = absurd covered
hull_low v [] (w ∷ ins) t covered some = absurd covered
hull_low v (s ∷ signals) (w ∷ ins) t covered some = elim some [
  | inl here ↦ low_left v s.changes (hull signals) t
      (subst (λ (l : Level). t < until_of l s.changes) here.0
      (change_low s.changes w t covered.0.changes (λ same. here.1 (sym same ∙ here.0))))
  | inr there ↦ low_right v s.changes (hull signals) t (hull_low v signals ins t covered.1 there)
]

eq_is : (v level : Level) → level_eq v level ≡ true → level ≡ v
eq_is v level h = elim (cases_level v level) [
  | inl same ↦ sym same
  | inr other ↦ (let no = level_eq-other v level other in cc)
]

-- where no input turns to a level, those at it were at it before
any_before : (v : Level) (t : ℕ) (ins : List Wave) → NoTurn v t ins → list_any (level_eq v) (levels_before ins (suc t)) ≡ true
    → list_any (level_eq v) (levels_before ins t) ≡ true
any_before v t [] none some = some
any_before v t (w ∷ ins) none some = elim (cases_Bool (level_eq v (before w (suc t)))) [
  | inl here ↦
      let was : before w t ≡ v = none.0 (eq_is v (before w (suc t)) here) in
      rw (was, level_eq-same v) refl
  | inr other ↦ or_right _ _ (any_before v t ins none.1 (rw other at some))
]

all_before : (v : Level) (t : ℕ) (ins : List Wave) → NoTurn v t ins → list_all (level_eq v) (levels_before ins (suc t)) ≡ true
    → list_all (level_eq v) (levels_before ins t) ≡ true
all_before v t [] none all = all
all_before v t (w ∷ ins) none all =
    let both = and_parts _ _ all in
    let was : before w t ≡ v = none.0 (eq_is v (before w (suc t)) both.0) in
    rw (was, level_eq-same v) (all_before v t ins none.1 both.1)

ones_no_zero : (levels : List Level) → list_all (level_eq High) levels ≡ true → list_any (level_eq Low) levels ≡ false
ones_no_zero [] all = refl
ones_no_zero (Low ∷ levels) all = cc
ones_no_zero (High ∷ levels) all = ones_no_zero levels all
ones_no_zero (X ∷ levels) all = cc

zeros_no_one : (levels : List Level) → list_all (level_eq Low) levels ≡ true → list_any (level_eq High) levels ≡ false
zeros_no_one [] all = refl
zeros_no_one (High ∷ levels) all = cc
zeros_no_one (Low ∷ levels) all = zeros_no_one levels all
zeros_no_one (X ∷ levels) all = cc

and_low : (levels : List Level) → and_of levels ≡ Low → list_any (level_eq Low) levels ≡ true
and_low levels is = elim (cases_Bool (list_any (level_eq Low) levels)) [
  | inl some ↦ some
  | inr none ↦ elim (cases_Bool (list_all (level_eq High) levels)) [
    | inl all ↦ (let no = rw (none, all) at is in cc)
    | inr other ↦ (let no = rw (none, other) at is in cc)
  ]
]

and_high : (levels : List Level) → and_of levels ≡ High → list_all (level_eq High) levels ≡ true
and_high levels is = elim (cases_Bool (list_all (level_eq High) levels)) [
  | inl all ↦ all
  | inr other ↦ elim (cases_Bool (list_any (level_eq Low) levels)) [
    | inl some ↦ (let no = rw some at is in cc)
    | inr none ↦ (let no = rw (none, other) at is in cc)
  ]
]

or_high : (levels : List Level) → or_of levels ≡ High → list_any (level_eq High) levels ≡ true
or_high levels is = elim (cases_Bool (list_any (level_eq High) levels)) [
  | inl some ↦ some
  | inr none ↦ elim (cases_Bool (list_all (level_eq Low) levels)) [
    | inl all ↦ (let no = rw (none, all) at is in cc)
    | inr other ↦ (let no = rw (none, other) at is in cc)
  ]
]

or_low : (levels : List Level) → or_of levels ≡ Low → list_all (level_eq Low) levels ≡ true
or_low levels is = elim (cases_Bool (list_all (level_eq Low) levels)) [
  | inl all ↦ all
  | inr other ↦ elim (cases_Bool (list_any (level_eq High) levels)) [
    | inl some ↦ (let no = rw some at is in cc)
    | inr none ↦ (let no = rw (none, other) at is in cc)
  ]
]

and_before : (v : Level) (t : ℕ) (ins : List Wave) → v ≢ X → NoTurn v t ins → and_of (levels_before ins (suc t)) ≡ v
    → and_of (levels_before ins t) ≡ v
and_before Low t ins known none is = rw (any_before Low t ins none (and_low (levels_before ins (suc t)) is)) refl
and_before High t ins known none is =
    let all = all_before High t ins none (and_high (levels_before ins (suc t)) is) in
    rw (ones_no_zero (levels_before ins t) all, all) refl
and_before X t ins known none is = absurd (known refl)

or_before : (v : Level) (t : ℕ) (ins : List Wave) → v ≢ X → NoTurn v t ins → or_of (levels_before ins (suc t)) ≡ v
    → or_of (levels_before ins t) ≡ v
or_before High t ins known none is = rw (any_before High t ins none (or_high (levels_before ins (suc t)) is)) refl
or_before Low t ins known none is =
    let all = all_before Low t ins none (or_low (levels_before ins (suc t)) is) in
    rw (zeros_no_one (levels_before ins t) all, all) refl
or_before X t ins known none is = absurd (known refl)

buf_before : (v : Level) (t : ℕ) (ins : List Wave) → NoTurn v t ins → buf_of (levels_before ins (suc t)) ≡ v → buf_of (levels_before ins t) ≡ v
buf_before v t [] none is = is
buf_before v t (w ∷ ins) none is = none.0 is

-- a gate turns to a level only where some input does
abbrev TurnsWith : (List Level → Level) → Level → ℕ → List Wave → Type 0
TurnsWith f v t ins = f (levels_before ins (suc t)) ≡ v → f (levels_before ins t) ≢ v → SomeTurn v t ins

turns_with : (f : List Level → Level) (v : Level) (t : ℕ) (ins : List Wave)
    → (NoTurn v t ins → f (levels_before ins (suc t)) ≡ v → f (levels_before ins t) ≡ v) → TurnsWith f v t ins
turns_with f v t ins keeps after away = elim (turn_or_none v t ins) [
  | inl some ↦ some
  | inr none ↦ absurd (away (keeps none after))
]

and_turns : (v : Level) (t : ℕ) (ins : List Wave) → v ≢ X → TurnsWith and_of v t ins
and_turns v t ins known = turns_with and_of v t ins (and_before v t ins known)

or_turns : (v : Level) (t : ℕ) (ins : List Wave) → v ≢ X → TurnsWith or_of v t ins
or_turns v t ins known = turns_with or_of v t ins (or_before v t ins known)

buf_turns : (v : Level) (t : ℕ) (ins : List Wave) → TurnsWith buf_of v t ins
buf_turns v t ins = turns_with buf_of v t ins (buf_before v t ins)

inverse_twice : (level : Level) → inverse_of (inverse_of level) ≡ level
inverse_twice Low = refl
inverse_twice High = refl
inverse_twice X = refl

inverse_clear : (level : Level) → level ≢ X → inverse_of level ≢ X
inverse_clear Low known = λ e. cc
inverse_clear High known = λ e. cc
inverse_clear X known = absurd (known refl)

-- the same where the gate negates
negated_turns : (f : List Level → Level) (v : Level) (t : ℕ) (ins : List Wave) → TurnsWith f (inverse_of v) t ins
    → inverse_of (f (levels_before ins (suc t))) ≡ v → inverse_of (f (levels_before ins t)) ≢ v → SomeTurn (inverse_of v) t ins
negated_turns f v t ins turns after away =
    turns (sym (inverse_twice (f (levels_before ins (suc t)))) ∙ ap inverse_of after)
    (λ same. away (ap inverse_of same ∙ inverse_twice v))

turned_until : (v : Level) (span : Span) (t : ℕ) → t < until (inverse_of v) span → t < until v (turned span)
turned_until Low span t low = low
turned_until High span t low = low
turned_until X span t low = omega arith

parity_at : (v : Level) (parity : Level) (signals : List Signal) (earliest t : ℕ) → v ≢ X
    → t < parity_until (parted (no_parts parity) signals) v → t < until v (parity_span parity signals earliest)
parity_at Low parity signals earliest t known low = low
parity_at High parity signals earliest t known low = low
parity_at X parity signals earliest t known low = absurd (known refl)

target-earliest : (kind : Kind) (signals : List Signal) (span : Span) → (target_span kind signals span).earliest ≡ span.earliest
target-earliest And signals span = refl
target-earliest Nand signals span = refl
target-earliest Or signals span = refl
target-earliest Nor signals span = refl
target-earliest Xor signals span = refl
target-earliest Xnor signals span = refl
target-earliest Buf signals span = refl
target-earliest Not signals span = refl

module _ (signals : List Signal) (ins : List Wave) (covered : Covered signals ins) (whole : (n : ℕ) → Booleans (levels_before ins n)) (span : Span)
    (is : hull signals ≡ Some span) (t : ℕ) where
  -- an input's change to a level comes before the hull's moment for it
  input_low : (v : Level) → SomeTurn v t ins → t < until v span
  input_low v some = let low = hull_low v signals ins t covered some in rw is at low

  parity_turns : (parity v : Level) → v ≢ X → (e : ℕ → Level) → ((n : ℕ) → e n ≡ odds parity (levels_before ins n)) → e (suc t) ≡ v → e (suc t) ≢ e t
      → t < until v (parity_span parity signals span.earliest)
  parity_turns parity v known e same after differ =
      let low = parity_low parity signals ins e covered same t differ in
      parity_at v parity signals span.earliest t known (subst (λ (l : Level). t < parity_until (parted (no_parts parity) signals) l) after low)

  until_low : (kind : Kind) (v : Level) → v ≢ X → target_before kind ins (suc t) ≡ v → target_before kind ins t ≢ v
      → t < until v (target_span kind signals span)
  until_low And v known after away = input_low v (and_turns v t ins known after away)
  until_low Or v known after away = input_low v (or_turns v t ins known after away)
  until_low Buf v known after away = input_low v (buf_turns v t ins after away)
  until_low Nand v known after away = turned_until v span t
      (input_low (inverse_of v) (negated_turns and_of v t ins (and_turns (inverse_of v) t ins (inverse_clear v known)) after away))
  until_low Nor v known after away = turned_until v span t
      (input_low (inverse_of v) (negated_turns or_of v t ins (or_turns (inverse_of v) t ins (inverse_clear v known)) after away))
  until_low Not v known after away = turned_until v span t
      (input_low (inverse_of v) (negated_turns buf_of v t ins (buf_turns (inverse_of v) t ins) after away))
  until_low Xor v known after away = parity_turns Low v known (target_before Xor ins) (λ n. xor-odds Low (levels_before ins n) (whole n)) after
      (λ same. away (sym same ∙ after))
  until_low Xnor v known after away = parity_turns High v known (target_before Xnor ins) (λ n. xor-odds High (levels_before ins n) (whole n)) after
      (λ same. away (sym same ∙ after))

-- a target that no input's change moves
pub target_still : (kind : Kind) (signals : List Signal) (ins : List Wave) → Covered signals ins → hull signals ≡ None → (t : ℕ)
    → target_before kind ins (suc t) ≡ target_before kind ins t
target_still kind signals ins covered is t = elim (some_or_none t ins) [
  | inr none ↦ ap (table kind) none
  | inl some ↦ (let from = hull_from signals ins t covered some in absurd (rw is at from))
]

-- steps 1 and 2: the target changes in the span
pub target_in : (kind : Kind) (signals : List Signal) (ins : List Wave) → Covered signals ins → ((n : ℕ) → Booleans (levels_before ins n))
    → ((n : ℕ) → target_before kind ins n ≢ X) → (span : Span) → hull signals ≡ Some span → StaysIn (target_span kind signals span) (target_before kind ins)
target_in kind signals ins covered whole boolean span is t differ = elim (some_or_none t ins) [
  | inr none ↦ absurd (differ (ap (table kind) none))
  | inl some ↦
      let from = hull_from signals ins t covered some in (
        rw (target-earliest kind signals span) (rw is at from),
        until_low signals ins covered whole span is t kind (target_before kind ins (suc t)) (boolean (suc t)) refl (λ same. differ (sym same)),
      )
]

-- an input at the controlling level settles the output
settles : (kind : Kind) (levels : List Level) → list_any (controls (controlling kind)) levels ≡ true → table kind levels ≡ settled kind
settles And levels some = rw some refl
settles Nand levels some = rw some refl
settles Or levels some = rw some refl
settles Nor levels some = rw some refl
settles Xor levels some = absurd (nothing_controls levels some)
settles Xnor levels some = absurd (nothing_controls levels some)
settles Buf levels some = absurd (nothing_controls levels some)
settles Not levels some = absurd (nothing_controls levels some)

-- an input with a known finish is at that level after its last change to it
input_late : (signal : Signal) (wave : Wave) → EdgesCover signal wave → signal.finish ≢ X → (n : ℕ) → until_of signal.finish signal.changes ≤ n
    → before wave n ≡ signal.finish
input_late signal wave covered known n late = elim (cases_level (before wave n) signal.finish) [
  | inl same ↦ same
  | inr away ↦
      let back = turns_to_end (before wave) signal.finish known (wave_ends signal.finish wave covered.finish) n away in
      let low = change_low signal.changes wave back.turn covered.changes (λ same. back.before (sym same ∙ back.after)) in
      let less : back.turn < until_of signal.finish signal.changes = subst (λ (v : Level). back.turn < until_of v signal.changes) back.after low in
      let later = back.later in
      absurd (omega arith)
]

-- an input with a known start is there until its earliest change
input_early : (signal : Signal) (wave : Wave) → EdgesCover signal wave → signal.start ≢ X → (n : ℕ) → n ≤ earliest_of signal.changes
    → before wave n ≡ signal.start
input_early signal wave covered known n low = from signal.changes covered.changes n low ∙ covered.start known
  where
    from : (changes : Option Span) → ChangesWithin changes wave → (n : ℕ) → n ≤ earliest_of changes → before wave n ≡ wave.start
    from changes within zero low = refl
    from None within (suc n) low = absurd (omega arith)
    from (Some span) within (suc n) low = elim (cases_level (before wave (suc n)) (before wave n)) [
      | inl same ↦ same ∙ from (Some span) within n (omega arith)
      | inr differ ↦ let late = (within n differ).0 in absurd (omega arith)
    ]

module _ (control : Option Level) (clear : IsClear control) (out : Level) (e : ℕ → Level) (boolean : (n : ℕ) → e n ≢ X) where
  -- step 3
  cap_holds : (signal : Signal) (wave : Wave) → EdgesCover signal wave → ((n : ℕ) → controls control (before wave n) ≡ true → e n ≡ out)
      → (span : Span) → StaysIn span e → StaysIn (capped control out signal span) e
  cap_holds signal wave covered gives span all = elim (cases_Bool (controls control signal.finish)) [
    | inr other ↦ rw other all
    | inl here ↦ rw here (λ t differ.
        let low = all t differ in (
          rw (limited-earliest out (until_of signal.finish signal.changes) span) low.0,
          limited_at out (e (suc t)) (until_of signal.finish signal.changes) t span (boolean (suc t)) low.1 (λ same. before_cap here t differ),
        ))
  ]
    where
      at_out : controls control signal.finish ≡ true → (n : ℕ) → until_of signal.finish signal.changes ≤ n → e n ≡ out
      at_out here n late = gives n (subst (λ (v : Level). controls control v ≡ true)
          (sym (input_late signal wave covered (clear signal.finish here) n late)) here)

      before_cap : controls control signal.finish ≡ true → (t : ℕ) → e (suc t) ≢ e t → t < until_of signal.finish signal.changes
      before_cap here t differ = elim (cases_lt t (until_of signal.finish signal.changes)) [
        | inl less ↦ less
        | inr late ↦ absurd (differ (at_out here (suc t) (omega arith) ∙ sym (at_out here t late)))
      ]

  raised_until : (v : Level) (earliest t : ℕ) (span : Span) → t < until v span → t < until v (record span { earliest = earliest })
  raised_until Low earliest t span low = low
  raised_until High earliest t span low = low
  raised_until X earliest t span low = low

  -- step 4
  raise_holds : (signal : Signal) (wave : Wave) → EdgesCover signal wave → ((n : ℕ) → controls control (before wave n) ≡ true → e n ≡ out)
      → (span : Span) → StaysIn span e → StaysIn (raised control signal span) e
  raise_holds signal wave covered gives span all = elim (cases_Bool (controls control signal.start)) [
    | inr other ↦ rw other all
    | inl here ↦ rw here (λ t differ.
        let low = all t differ in
        let late = after_raise here t differ in
        (omega arith, raised_until (e (suc t)) (max span.earliest (earliest_of signal.changes)) t span low.1))
  ]
    where
      at_out : controls control signal.start ≡ true → (n : ℕ) → n ≤ earliest_of signal.changes → e n ≡ out
      at_out here n low = gives n (subst (λ (v : Level). controls control v ≡ true)
          (sym (input_early signal wave covered (clear signal.start here) n low)) here)

      after_raise : controls control signal.start ≡ true → (t : ℕ) → e (suc t) ≢ e t → earliest_of signal.changes ≤ t
      after_raise here t differ = elim (cases_lt t (earliest_of signal.changes)) [
        | inr late ↦ late
        | inl less ↦ absurd (differ (at_out here (suc t) (omega arith) ∙ sym (at_out here t (omega arith))))
      ]

  kept_holds : (signals : List Signal) (ins : List Wave) → Covered signals ins
      → ((n : ℕ) → list_any (controls control) (levels_before ins n) ≡ true → e n ≡ out)
      → (span : Span) → StaysIn span e → StaysIn (kept_by control out signals span) e
  kept_holds [] [] covered gives span all = all
  kept_holds (s ∷ signals) [] covered gives span all = absurd covered
  kept_holds [] (w ∷ ins) covered gives span all = absurd covered
  kept_holds (s ∷ signals) (w ∷ ins) covered gives span all =
      kept_holds signals ins covered.1 (λ n there. gives n (or_right _ _ there)) (raised control s (capped control out s span))
      (raise_holds s w covered.0 (λ n here. gives n (or_left _ _ here)) (capped control out s span)
      (cap_holds s w covered.0 (λ n here. gives n (or_left _ _ here)) span all))

-- steps 3 and 4: inputs at the controlling level keep the target
pub kept_in : (kind : Kind) (signals : List Signal) (ins : List Wave) → Covered signals ins → ((n : ℕ) → target_before kind ins n ≢ X)
    → (span : Span) → StaysIn span (target_before kind ins) → StaysIn (kept_by (controlling kind) (settled kind) signals span) (target_before kind ins)
kept_in kind signals ins covered boolean span all =
    kept_holds (controlling kind) (controlling_clear kind) (settled kind) (target_before kind ins) boolean signals ins covered
    (λ n some. settles kind (levels_before ins n) some) span all
