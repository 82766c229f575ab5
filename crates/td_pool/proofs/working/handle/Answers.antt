use Rattle.std.proofs.Common.{List, [], ◌∷◌, sym, subst}
use Rattle.td_domain.specs.declared.cubes.Trit.{Trit}
use Rattle.td_search.specs.Findings.{AreTrueFindings}
use Rattle.td_search.specs.Problems.{problem_of}
use Rattle.td_pool.proofs.Covers.{pair_found}
use Rattle.td_pool.proofs.working.handle.Goals as goal

pub graft-opened-requires-clause-work : goal.graft-opened-requires-clause-work
graft-opened-requires-clause-work g c =
    let given = c.args.task.now.problem.now in
    let below = c.work_below-ample.ensures.below in
    let best = c.work_below-ample.new.kept.best in
    record {
      cube = below.cube;
      few = below.few;
      evidence = subst (λ (cube : List Trit). AreTrueFindings (problem_of given) (cube ∷ []) c.work_below-ample.new.below.findings.items) (sym c.in-Ok.ensures.cube) below.found;
      best = pair_found (problem_of given) best.pair best.time c.time.result c.work_below-ample.ensures.keeps.kept.is.0 c.time.ensures;
    }
