use Rattle.std.proofs.Common.{◌≡◌, true, sym, ◌∙◌}
use Rattle.std.proofs.lemmas.Slice.Eq.{slice_eq-Decides}
use Rattle.std.specs.Cmp.{booleans_Decides}
use Rattle.td_event_sim.proofs.cache.is_same.Goals as goal

pub returns-clause-same : goal.returns-clause-same
returns-clause-same c = (slice_eq-Decides booleans_Decides c.args.left.now c.args.right.now c.eq.result c.eq.ensures).0

pub returns-clause-apart : goal.returns-clause-apart
returns-clause-apart c = λ false_is same. (let is : c.eq.result ≡ true = (slice_eq-Decides booleans_Decides c.args.left.now c.args.right.now c.eq.result c.eq.ensures).1 same in
    absurd (let e = sym false_is ∙ is in cc))
