-- The last level of a net by possible levels: where another domain doesn't know how a net finishes,
-- both levels stay possible there. That domain says the finish of a gate's output by the gate's
-- table.
use Rattle.std.proofs.Common.{◌≡◌, ℕ, zero, suc, ◌+◌, ◌≤◌, max, Bool, List, [], ◌∷◌, ◌++◌, length, map, take, drop, refl, arith, inl, inr, sym, ap, ◌∙◌}
use Rattle.std.specs.Prelude.{nat_le}
use Rattle.std.proofs.lemmas.Bool.{cases_Bool}
use Rattle.std.proofs.lemmas.List.{append-nil}
use Rattle.td_domain.proofs.Lists.{take-drop}
use Rattle.td_gates.specs.declared.primitives.Level.{Level}
use Rattle.td_gates.specs.declared.primitives.Level.TheVariants.{Zero as Low, One as High, X}
use Rattle.td_gates.specs.declared.primitives.Kind.{Kind}
use Rattle.td_gates.specs.declared.timing.Delay.{Delay}
use Rattle.td_gates.specs.declared.timing.Change.{Change}
use Rattle.td_gates.specs.Delays.{IsInRange}
use Rattle.td_gates.specs.Table.{level_eq, table}
use Rattle.td_gates.specs.Wave.{Wave, before, level_after}
use Rattle.td_gates.specs.Schedule.{target_before}
use Rattle.td_gates.proofs.TableLaws.{AllAgree, table_known}
use Rattle.td_gates.specs.Known.{Agrees}
use Rattle.td_ternary.specs.Possibles as possible
use Rattle.td_ternary.specs.Possibles.{has, set_of, change_at, changes_below, last_input, last_level, widened, capped, is_possible}
use Rattle.td_ternary.specs.PossibleLaws.{same_is, settled, possible_stays}

-- the level that a signal of possible levels ends at
abbrev pub end_of : Wave → Level
end_of signal = last_level signal.start signal.changes

-- ---- the end of a gate's output
last-pushed : (level : Level) (changes : List Change) (change : Change) → last_level level (changes ++ change ∷ []) ≡ change.level
last-pushed level [] change = refl
last-pushed level (first ∷ changes) change = last-pushed first.level changes change

last-listed : (f : ℕ → Level) (end : ℕ) → last_level (f 0) (changes_below f end) ≡ f end
last-listed f zero = refl
last-listed f (suc end) = elim (cases_Bool (level_eq (f end) (f (suc end)))) [
  | inl same ↦ rw (same, append-nil (changes_below f end)) (last-listed f end ∙ same_is (f end) (f (suc end)) same)
  | inr other ↦ rw other (last-pushed (f 0) (changes_below f end) (record { moment = end; level = f (suc end) }))
]

pub last-changed : (moment : ℕ) (old new : Level) → last_level old (change_at moment old new) ≡ new
last-changed moment old new = elim (cases_Bool (level_eq old new)) [
  | inl same ↦ rw same (same_is old new same)
  | inr other ↦ rw other refl
]

set-has : (level : Level) → set_of (has level Low) (has level High) ≡ level
set-has Low = refl
set-has High = refl
set-has X = refl

-- after their last changes the waves stay
ended : (signals : List Wave) (t : ℕ) → last_input signals ≤ t → map (λ signal. before signal (suc t)) signals ≡ map end_of signals
ended [] t late = refl
ended (signal ∷ signals) t late =
    let rest = ended signals t (omega arith) in
    let here : level_after signal.start signal.changes t ≡ end_of signal = settled signal.start signal.changes t (omega arith) in
    rw (here, rest) refl

-- what is possible in the end
possible-end : (kind : Kind) (delay : Delay) → IsInRange delay → (signals : List Wave)
    → possible.possible kind delay signals (last_input signals + max delay.rise delay.fall + 1) ≡ table kind (map end_of signals)
possible-end kind delay fits signals =
    let M : ℕ = last_input signals in
    let D : ℕ = max delay.rise delay.fall in
    let ends : Level = table kind (map end_of signals) in
    let at : (u : ℕ) → M ≤ u → target_before kind signals (suc u) ≡ ends = λ u late. ap (table kind) (ended signals u late) in
    let stay : (u v : ℕ) → M ≤ u → M ≤ v → target_before kind signals (suc u) ≡ target_before kind signals (suc v) =
    λ u v one two. at u one ∙ sym (at v two) in
    let low = possible_stays (λ m. has (target_before kind signals m) Low) delay.fall delay.rise M D fits.least_fall (omega arith) (omega arith)
    (λ u v one two. ap (λ set. has set Low) (stay u v one two)) (M + D) (omega arith) in
    let high = possible_stays (λ m. has (target_before kind signals m) High) delay.rise delay.fall M D fits.least_rise (omega arith) (omega arith)
    (λ u v one two. ap (λ set. has set High) (stay u v one two)) (M + D) (omega arith) in
    let step : M + D + 1 ≡ suc (M + D) = omega arith in
    rw step (ap (λ (b : Bool). set_of b (is_possible (λ m. has (target_before kind signals m) High) delay.rise delay.fall (suc (M + D)))) low
    ∙ ap (λ (b : Bool). set_of (has (target_before kind signals (suc M)) Low) b) high
    ∙ set-has (target_before kind signals (suc M)) ∙ at M (omega arith))

-- more changes than a signal may have end at both levels
widened-end : (start : Level) (first rest : List Change) (whole : List Change) → first ++ rest ≡ whole → Agrees (last_level start (widened start first rest)) (last_level start whole)
widened-end start first [] whole is = λ known. sym (ap (last_level start) (sym (append-nil first) ∙ is))
widened-end start first (change ∷ later) whole is = λ known. absurd (known (go (last_level start first) refl))
  where
    last-append : (level : Level) (front back : List Change) → last_level level (front ++ back) ≡ last_level (last_level level front) back
    last-append level [] back = refl
    last-append level (c ∷ front) back = last-append c.level front back

    go : (level : Level) → last_level start first ≡ level → last_level start (first ++ change_at change.moment (last_level start first) X) ≡ X
    go level same = last-append start first (change_at change.moment (last_level start first) X) ∙ last-changed change.moment (last_level start first) X

capped-end : (start : Level) (changes : List Change) → Agrees (last_level start (capped start changes)) (last_level start changes)
capped-end start changes = elim (cases_Bool (nat_le (length changes) 512)) [
  | inl few ↦ rw few (λ known. refl)
  | inr many ↦ rw many (widened-end start (take 511 changes) (drop 511 changes) changes (take-drop 511 changes))
]

pub gate-end : (kind : Kind) (delay : Delay) → IsInRange delay → (signals : List Wave) (finishes : List Level) → AllAgree (map end_of signals) finishes
    → Agrees (end_of (possible.gate_signal kind delay signals)) (table kind finishes)
gate-end kind delay fits signals finishes agree known =
    let f : ℕ → Level = possible.possible kind delay signals in
    let end : ℕ = last_input signals + max delay.rise delay.fall + 1 in
    let whole : last_level (f 0) (changes_below f end) ≡ table kind (map end_of signals) = last-listed f end ∙ possible-end kind delay fits signals in
    let cap : last_level (f 0) (changes_below f end) ≡ end_of (possible.gate_signal kind delay signals) = capped-end (f 0) (changes_below f end) known in
    let ends : table kind (map end_of signals) ≡ end_of (possible.gate_signal kind delay signals) = sym whole ∙ cap in
    table_known kind (map end_of signals) finishes agree (λ none. known (sym ends ∙ none)) ∙ ends
