use Rattle.std.proofs.Common.{◌≡◌, ℕ, ◌+◌, ◌-◌, ◌<◌, ◌≤◌, ◌^◌, max, arith, Some, List, [], ◌∷◌}
use Rattle.std.proofs.lemmas.List.Elements.{recursion_from_All, All-head}
use Rattle.std.specs.List.{All, AllByRecursion}
use Rattle.td_domain.proofs.Lists.{weaker}
use Rattle.td_arrival.specs.declared.signals.Span.{Span}
use Rattle.td_arrival.specs.declared.signals.Signal.{Signal}
use Rattle.td_arrival.specs.Arrivals.{hull}
use Rattle.td_arrival.specs.Coverage.{span_reach}
use Rattle.td_arrival.specs.ArrivalLaws.{hull_reach, Within}
use Rattle.td_arrival.proofs.gates.output_between.Goals as goal

-- the hull reaches no further than the signals
within : (signals : List Signal) (span : Span) (delay : ℕ) → Some span ≡ hull signals
    → All (λ signal. span_reach signal.changes + delay < 10 ^ 15) signals → max span.earliest span.latest + delay < 10 ^ 15
within [] span delay is small = cc
within (first ∷ others) span delay is small =
    let short : span_reach first.changes + delay < 10 ^ 15 =
    All-head (λ signal. span_reach signal.changes + delay < 10 ^ 15) first others small in
    let most : ℕ = 10 ^ 15 - 1 - delay in
    let each : AllByRecursion (Within most) (first ∷ others) =
    weaker _ _ (λ signal h. omega arith) (first ∷ others)
    (recursion_from_All (λ signal. span_reach signal.changes + delay < 10 ^ 15) (first ∷ others) small) in
    let reach : span_reach (Some span) ≤ most = let top = hull_reach most (first ∷ others) each in rw (← is) at top in
    omega arith

pub changes_within-changes-requires-clause-within : goal.changes_within-changes-requires-clause-within
changes_within-changes-requires-clause-within c = within _ _ _ c.in-Some.ensures c.requires.within
