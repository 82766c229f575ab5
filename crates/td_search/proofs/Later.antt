-- A step of a search takes back no node that was split or closed.
use Rattle.std.proofs.Common.{◌≡◌, ℕ, ◌+◌, ◌≤◌, List, [], ◌∷◌, ◌++◌, length, map, sym, ap, subst, ◌∙◌, length-append, arith}
use Rattle.std.proofs.lemmas.List.{length-map}
use Rattle.std.specs.Prelude.{Option, Some, None, Result, Ok, Err, MatchResult, IfOk, OnErr}
use Rattle.std.specs.List.{AllByRecursion}
use Rattle.td_domain.specs.declared.cubes.Trit.{Trit}
use Rattle.td_certificate.specs.Cubes.{cubes_past}
use Rattle.td_book.specs.declared.lease.Lease.{Lease}
use Rattle.td_book.specs.declared.node.Node.{Node}
use Rattle.td_book.specs.declared.node.State.{State}
use Rattle.td_book.specs.Board.{Board}
use Rattle.td_book.specs.declared.lease.Claim.{Claim}
use Rattle.td_book.specs.declared.lease.Claim.TheVariants as claims
use Rattle.td_book.specs.Claimed.{Claimed, ClaimedAt}
use Rattle.td_book.specs.Grafting.{PrivateTree, FitAll, Grafted}
use Rattle.td_book.specs.Steps.{Splits, Releases}
use Rattle.td_book.proofs.Grafting.{grafted_long}
use Rattle.td_search.specs.declared.findings.Finding.{Finding}
use Rattle.td_search.specs.declared.findings.Finding.TheVariants as finding
use Rattle.td_search.specs.Findings.{AreTrueFindings, IsUsable, state_of}
use Rattle.td_search.specs.Problems.{Problem}
use Rattle.td_search.specs.Redone.{IsLater}

longer : (order more other : List Node) → other ≡ order ++ more → length order ≤ length other
longer order more other e = let long = ap length e in omega (arith, length-append order more)

pub same_later : (b c : Board) → c ≡ b → IsLater b c
same_later b c e = let long : length c.order ≡ length b.order = ap (λ (x : Board). length x.order) e in omega arith

order_later : (b c : Board) → c.order ≡ b.order → IsLater b c
order_later b c e = let long = ap length e in omega arith

pub splits_later : (b : Board) (lease : Lease) (position : ℕ) (c : Board) → Splits b lease position c → IsLater b c
splits_later b lease position c h = longer b.order _ c.order h.1.settled

pub released_later : (b c : Board) (lease : Lease) {X Y : Type 0} (r : Result X Y) (Q : Y → Type 0) → ((y : Y) → Q y → c ≡ b)
    → MatchResult r (λ x. Releases b lease c) Q → IsLater b c
released_later b c lease (Ok x) Q same h = order_later b c h.settled
released_later b c lease (Err y) Q same h = same_later b c (same y h)

pub leased_later : (b c : Board) (number : ℕ) {E : Type 0} (r : Result (Option Lease) E) → IfOk r (λ answer. ClaimedAt b 0 number answer c) → OnErr r (c ≡ b) → IsLater b c
leased_later b c number (Ok (Some lease)) h e = order_later b c h.2.3.settled
leased_later b c number (Ok None) h e = same_later b c h.1
leased_later b c number (Err y) h e = same_later b c e

pub claimed_later : (b c : Board) (answer : Claim) → Claimed b 0 answer c → IsLater b c
claimed_later b c claims.Done h = same_later b c h.1
claimed_later b c claims.Spent h = same_later b c h.2
claimed_later b c claims.Idle h = same_later b c h.2
claimed_later b c (claims.Lease lease) h = order_later b c h.1.2.3.settled

-- what was found and is usable fits the cubes
fit_found : (asked : Problem) (best : ℕ) (cubes : List (List Trit)) (findings : List Finding) → AreTrueFindings asked cubes findings → AllByRecursion (IsUsable best) findings
    → FitAll (map (state_of best) findings) cubes
fit_found asked best cubes [] h u = tt
fit_found asked best [] (f ∷ findings) h u = absurd h
fit_found asked best (cube ∷ cubes) (finding.Closed mark bound ∷ findings) h u = (u.0, fit_found asked best cubes findings h.1 u.1)
fit_found asked best (cube ∷ cubes) (finding.Split position bound delay ∷ findings) h u =
    (h.0.0, fit_found asked best (cubes_past cube (Some position) cubes) findings h.1 u.1)

pub grafted_more : (asked : Problem) (best : ℕ) (b : Board) (lease : Lease) (tree : PrivateTree) (left : List ℕ) (c : Board) (findings : List Finding) → tree.cube ≡ lease.cube
    → tree.states ≡ map (state_of best) findings → AreTrueFindings asked (lease.cube ∷ []) findings → AllByRecursion (IsUsable best) findings → Grafted b lease tree left c
    → length b.order + length findings ≤ length c.order
grafted_more asked best b lease tree left c findings cube states found usable grafted =
    let here : FitAll tree.states (lease.cube ∷ []) = subst (λ (l : List State). FitAll l (lease.cube ∷ [])) (sym states) (fit_found asked best (lease.cube ∷ []) findings found usable) in
    let fits : FitAll tree.states (tree.cube ∷ []) = subst (λ (q : List Trit). FitAll tree.states (q ∷ [])) (sym cube) here in
    let long : length c.order ≡ length b.order + length tree.states = grafted_long b lease tree left c grafted cube fits in
    let size : length tree.states ≡ length findings = ap length states ∙ length-map findings (state_of best) in
    omega arith
