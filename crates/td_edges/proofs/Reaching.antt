-- How far the changes of a gate's target reach.
use Rattle.std.proofs.Common.{◌≡◌, ℕ, ◌+◌, ◌-◌, ◌<◌, ◌≤◌, ◌^◌, List, [], ◌∷◌, ap, arith, sym, ◌∙◌, Option, Some}
use Rattle.std.proofs.lemmas.List.Elements.{recursion_from_All, All-head}
use Rattle.std.specs.List.{All, AllByRecursion}
use Rattle.td_domain.proofs.Lists.{weaker}
use Rattle.td_gates.specs.declared.primitives.Kind.{Kind}
use Rattle.td_edges.specs.declared.signals.Span.{Span}
use Rattle.td_edges.specs.declared.signals.Signal.{Signal}
use Rattle.td_gates.specs.Table.{controlling}
use Rattle.td_edges.specs.EdgeSignals.{hull, target_span, settled, kept_by}
use Rattle.td_edges.specs.Coverage.{span_reach}
use Rattle.td_edges.specs.EdgeLaws.{hull_reach, target_within, Within}

-- the target reaches no further than the inputs, by which the delays stay far from wrapping
kept-within : (kind : Kind) (signals : List Signal) (span : Span) (delay : ℕ) → hull signals ≡ Some span
    → All (λ signal. span_reach signal.changes + delay < 10 ^ 15) signals
    → span_reach (Some (kept_by (controlling kind) (settled kind) signals (target_span kind signals span))) + delay < 10 ^ 15
kept-within kind [] span delay is small = cc
kept-within kind (first ∷ others) span delay is small =
    let short : span_reach first.changes + delay < 10 ^ 15 =
    All-head (λ signal. span_reach signal.changes + delay < 10 ^ 15) first others small in
    let most : ℕ = 10 ^ 15 - 1 - delay in
    let each : AllByRecursion (Within most) (first ∷ others) =
    weaker _ _ (λ signal h. omega arith) (first ∷ others)
    (recursion_from_All (λ signal. span_reach signal.changes + delay < 10 ^ 15) (first ∷ others) small) in
    let reach : span_reach (Some span) ≤ most = let top = hull_reach most (first ∷ others) each in rw is at top in
    let whole = target_within most kind (first ∷ others) span reach each in
    omega arith

pub within : (kind : Kind) (signals : List Signal) (changes : Option Span) (span target kept : Span) (delay : ℕ) → changes ≡ hull signals
    → changes ≡ Some span → target ≡ target_span kind signals span → kept ≡ kept_by (controlling kind) (settled kind) signals target
    → All (λ signal. span_reach signal.changes + delay < 10 ^ 15) signals → span_reach (Some kept) + delay < 10 ^ 15
within kind signals changes span target kept delay whole some one two small =
    let same : kept ≡ kept_by (controlling kind) (settled kind) signals (target_span kind signals span) =
    two ∙ ap (λ t. kept_by (controlling kind) (settled kind) signals t) one in
    rw same (kept-within kind signals span delay (sym whole ∙ some) small)
