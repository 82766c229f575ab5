use Rattle.std.proofs.Common.{◌≡◌, ◌≤◌, ◌<◌, ◌+◌, ◌^◌, ◌∙◌, ℕ, max, List, [], ◌∷◌, length, get_or, Some, None, refl, sym, ap, subst, arith}
use Rattle.std.specs.Prelude.{filter_map, slice_get}
use Rattle.std.specs.List.{All}
use Rattle.std.proofs.lemmas.List.Elements.{recursion_from_All}
use Rattle.std.proofs.lemmas.Option.{slice_get-get_or}
use Rattle.td_gates.specs.declared.primitives.Level.TheVariants.{Zero}
use Rattle.td_arrival.specs.declared.signals.Signal.{Signal}
use Rattle.td_arrival.specs.Arrivals.{gate_signal}
use Rattle.td_domain.proofs.Lists.{length-picked}
use Rattle.td_arrival.specs.Coverage.{span_reach}
use Rattle.td_arrival.proofs.gates.output_at.Goals as goal

abbrev still : Signal
still = record { start = Zero; finish = Zero; changes = None }

abbrev Fits : ℕ → List Signal → Type 0
Fits slowest signals = All (λ signal. span_reach signal.changes + slowest < 10 ^ 15) signals

-- the signals at one place, at two and at three
one_picked : (all : List Signal) (places : List ℕ) → 1 ≤ length places → length places < 2
    → ((i d : ℕ) → i < length places → get_or places i d < length all)
    → filter_map (slice_get all) places ≡ get_or all (get_or places 0 0) still ∷ []
one_picked all [] some few within = absurd (omega arith)
one_picked all (a ∷ []) some few within =
    let first : slice_get all a ≡ Some (get_or all a still) = slice_get-get_or all a still (within 0 0 (omega arith)) in
    rw first refl
one_picked all (a ∷ b ∷ places) some few within = absurd (omega arith)

two_picked : (all : List Signal) (places : List ℕ) → 2 ≤ length places → length places < 3
    → ((i d : ℕ) → i < length places → get_or places i d < length all)
    → filter_map (slice_get all) places ≡ get_or all (get_or places 0 0) still ∷ get_or all (get_or places 1 0) still ∷ []
two_picked all [] some few within = absurd (omega arith)
two_picked all (a ∷ []) some few within = absurd (omega arith)
two_picked all (a ∷ b ∷ []) some few within =
    let first : slice_get all a ≡ Some (get_or all a still) = slice_get-get_or all a still (within 0 0 (omega arith)) in
    let second : slice_get all b ≡ Some (get_or all b still) = slice_get-get_or all b still (within 1 0 (omega arith)) in
    rw (first, second) refl
two_picked all (a ∷ b ∷ c ∷ places) some few within = absurd (omega arith)

three_picked : (all : List Signal) (places : List ℕ) → 3 ≤ length places → length places < 4
    → ((i d : ℕ) → i < length places → get_or places i d < length all)
    → filter_map (slice_get all) places
    ≡ get_or all (get_or places 0 0) still ∷ get_or all (get_or places 1 0) still ∷ get_or all (get_or places 2 0) still ∷ []
three_picked all [] some few within = absurd (omega arith)
three_picked all (a ∷ []) some few within = absurd (omega arith)
three_picked all (a ∷ b ∷ []) some few within = absurd (omega arith)
three_picked all (a ∷ b ∷ c ∷ []) some few within =
    let first : slice_get all a ≡ Some (get_or all a still) = slice_get-get_or all a still (within 0 0 (omega arith)) in
    let second : slice_get all b ≡ Some (get_or all b still) = slice_get-get_or all b still (within 1 0 (omega arith)) in
    let third : slice_get all c ≡ Some (get_or all c still) = slice_get-get_or all c still (within 2 0 (omega arith)) in
    rw (first, second, third) refl
three_picked all (a ∷ b ∷ c ∷ d ∷ places) some few within = absurd (omega arith)

pub output_of_one-requires-clause-within : goal.output_of_one-requires-clause-within
output_of_one-requires-clause-within c =
    subst (Fits (max c.args.delay.rise c.args.delay.fall))
    (one_picked c.args.all.now c.args.places.now c.in-len1.len_at_least c.in-len1.len_below c.requires.places) c.requires.within

pub output_of_two-requires-clause-within : goal.output_of_two-requires-clause-within
output_of_two-requires-clause-within c =
    subst (Fits (max c.args.delay.rise c.args.delay.fall))
    (two_picked c.args.all.now c.args.places.now c.in-len2.len_at_least c.in-len2.len_below c.requires.places) c.requires.within

pub output-requires-clause-within : goal.output-requires-clause-within
output-requires-clause-within c =
    subst (Fits (max c.args.delay.rise c.args.delay.fall))
    (three_picked c.args.all.now c.args.places.now c.in-len3.len_at_least c.in-len3.len_below c.requires.places) c.requires.within

pub output-requires-in_default-clause-takes : goal.output-requires-in_default-clause-takes
output-requires-in_default-clause-takes c =
    rw (
      c.deref.ensures.value,
      c.in_ok-pick-in_default.ensures,
      length-picked c.args.all.now c.args.places.now (recursion_from_All (λ place. place < length c.args.all.now) c.args.places.now c.requires.places),
    )
    c.requires.takes

pub output-requires-in_default-clause-few : goal.output-requires-in_default-clause-few
output-requires-in_default-clause-few c =
    rw (
      c.deref.ensures.value,
      c.in_ok-pick-in_default.ensures,
      length-picked c.args.all.now c.args.places.now (recursion_from_All (λ place. place < length c.args.all.now) c.args.places.now c.requires.places),
    ) c.requires.few

pub returns-in-len1 : goal.returns-in-len1
returns-in-len1 c =
    c.output_of_one.ensures
    ∙ ap (gate_signal c.args.kind c.args.delay) (sym (one_picked c.args.all.now c.args.places.now c.in-len1.len_at_least c.in-len1.len_below c.requires.places))

pub returns-in-len2 : goal.returns-in-len2
returns-in-len2 c =
    c.output_of_two.ensures
    ∙ ap (gate_signal c.args.kind c.args.delay) (sym (two_picked c.args.all.now c.args.places.now c.in-len2.len_at_least c.in-len2.len_below c.requires.places))

pub returns-in-len3 : goal.returns-in-len3
returns-in-len3 c =
    c.output.ensures
    ∙ ap (gate_signal c.args.kind c.args.delay) (sym (three_picked c.args.all.now c.args.places.now c.in-len3.len_at_least c.in-len3.len_below c.requires.places))
