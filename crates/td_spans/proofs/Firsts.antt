-- Firsts: the gate rule for ends.
use Rattle.std.proofs.Common.{◌≡◌, ℕ, ◌<◌, ◌≤◌, Bool, List, [], ◌∷◌, length, map, get_or, arith, ap, sym, ◌∙◌, subst}
use Rattle.std.specs.List.{AllByRecursion}
use Rattle.td_gates.specs.declared.primitives.Kind.{Kind}
use Rattle.td_gates.proofs.Places.{slice_get-within, slice_get-get, map-fuse}
use Rattle.td_circuit.specs.Numbering.{NumberedGate}
use Rattle.td_spans.specs.Targets.{target_bit}
use Rattle.td_spans.specs.Timed.{IsGate}
use Rattle.td_spans.specs.declared.times.Times.{Times}
use Rattle.td_spans.specs.Times.{AreTimes, AreAllTimes}
use Rattle.td_spans.specs.Rules.{greatest_of, end_by, no_times, times_of, ends_of}
use Rattle.td_spans.proofs.Keeping.{Counts, counted_greatest, kept}
use Rattle.td_spans.proofs.Gates.{rests_later}

module _ (level : ℕ → ℕ → Bool) where
  module _ (times : List Times) (final : ℕ → Bool) (right : AreAllTimes times level final) where
    -- the times of a net that there is
    pub times_at : (net : ℕ) → net < length times → AreTimes (get_or times net no_times) (level net) (final net)
    times_at net low =
        let found = slice_get-within times net low in
        subst (λ (it : Times). AreTimes it (level net) (final net)) (sym (slice_get-get times net found.0 no_times found.1)) (right net found.0 found.1)

    each_rests : (kind : Kind) (v : Bool) (inputs : List ℕ) (n : ℕ) → AllByRecursion (λ i. i < length times) inputs
        → greatest_of kind v (ends_of (times_of times inputs)) ≤ n → AllByRecursion (λ i. Counts kind v (final i) → level i n ≡ final i) inputs
    each_rests kind v [] n lows low = tt
    each_rests kind v (i ∷ inputs) n lows low = (
      λ counts. (times_at i lows.0).rests n (let most = counted_greatest kind v (final i) (get_or times i no_times).ends counts in omega (arith, most, low)),
      each_rests kind v inputs n lows.1 (omega arith),
    )

    module _ (gate : NumberedGate) (net : ℕ) (target : ℕ → Bool) (is : IsGate gate level net target) (lows : AllByRecursion (λ i. i < length times) gate.inputs) where
      target_at : (n : ℕ) → target n ≡ target_bit gate.kind (map (λ i. level i n) gate.inputs)
      target_at n = ap (λ (f : ℕ → Bool). f n) is.is_target
          ∙ ap (target_bit gate.kind) (map-fuse level (λ (levels : ℕ → Bool). levels n) gate.inputs)

      -- the target is at its last level from the greatest of the ends on
      target_ends : (k : ℕ) → greatest_of gate.kind (target_bit gate.kind (map final gate.inputs)) (ends_of (times_of times gate.inputs)) ≤ k
          → target k ≡ target_bit gate.kind (map final gate.inputs)
      target_ends k late = target_at k ∙ kept final (λ i. level i k) gate.kind gate.inputs
          (each_rests gate.kind (target_bit gate.kind (map final gate.inputs)) gate.inputs k lows late)

      -- The gate rule for ends.
      pub ends_later : (n : ℕ) → end_by gate.kind gate.delay (times_of times gate.inputs) (target_bit gate.kind (map final gate.inputs)) ≤ n
          → level net n ≡ target_bit gate.kind (map final gate.inputs)
      ends_later n low = rests_later target gate.delay is.fits (level net) is.follows (target_bit gate.kind (map final gate.inputs))
          (greatest_of gate.kind (target_bit gate.kind (map final gate.inputs)) (ends_of (times_of times gate.inputs))) target_ends n low
