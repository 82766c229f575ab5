use Rattle.std.proofs.Common.{ap, ◌∙◌}
use Rattle.td_search.specs.declared.findings.Evidence.{Evidence}
use Rattle.td_search.proofs.findings.Trail.evidence_for.Goals as goal

pub returns-in_default-clause-found : goal.returns-in_default-clause-found
returns-in_default-clause-found c = λ piece of same. c.in_default.ensures.found piece of

pub returns-then-not-is_same-clause-found : goal.returns-then-not-is_same-clause-found
returns-then-not-is_same-clause-found c = λ piece of same.
    let found = c.in-Some.ensures.found piece of in
    let full = c.if-not-is_same.ensures.1 (ap (λ (e : Evidence). e.cube) found ∙ same) in
    cc

pub returns-clause-found : goal.returns-clause-found
returns-clause-found c = λ piece of same. c.in-Some.ensures.found piece of
