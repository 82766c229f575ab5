use Rattle.std.proofs.Common.{◌≡◌, ℕ, ◌+◌, ◌++◌, ◌∷◌, [], List, length, take, get_or, sym, ap, ◌∙◌, append_assoc, length-append, arith}
use Rattle.std.proofs.lemmas.List.{length-take}
use Rattle.std.proofs.lemmas.Option.{slice_get-get_or}
use Rattle.std.specs.Prelude.{slice_get, Some}
use Rattle.td_search.specs.declared.findings.Finding.{Finding}
use Rattle.td_search.specs.Findings.{side_bounds}
use Rattle.td_search.proofs.Found.{nothing, side_more, side_long}
use Rattle.td_search.proofs.progress.push_side_bounds.Goals as goal

pub loop-finding-preserved : goal.loop-finding-preserved
loop-finding-preserved c =
    let findings = c.args.findings.now in
    let i : ℕ = c.loop-finding.finding-index in
    let f : Finding = get_or findings i nothing in
    let at : slice_get findings i ≡ Some f = slice_get-get_or findings i nothing c.loop-finding-test.true in
    let was = c.loop-finding.invariant in
    let old : List ℕ = c.args.bounds.now.items in
    let items : c.push_sides.new.bounds.items ≡ old ++ side_bounds (take (i + 1) findings) =
    c.push_sides.ensures.items ∙ (ap (λ (l : List ℕ). l ++ side_bounds (f ∷ [])) was.items
    ∙ (append_assoc old (side_bounds (take i findings)) (side_bounds (f ∷ [])) ∙ ap (λ (l : List ℕ). old ++ l) (sym (side_more findings i f at)))) in
    let long = length-append old (side_bounds (take (i + 1) findings)) in
    let more = side_long (take (i + 1) findings) in
    let few = length-take (i + 1) findings in
    let size = ap length items in
    record { items = items; space = omega (arith, long, more, few, size); capacity = c.push_sides.ensures.capacity ∙ was.capacity }
