use Rattle.std.proofs.Common.{◌≡◌, ◌∷◌, subst}
use Rattle.std.specs.List.{AllByRecursion}
use Rattle.std.specs.Vec.Iter.{into_iter_items}
use Rattle.td_pool.proofs.Covers.{greatest_next}
use Rattle.td_pool.proofs.reports.gather.Goals as goal

pub loop-report-preserved : goal.loop-report-preserved
loop-report-preserved g c =
    let was = c.loop-report.invariant in
    let steps : into_iter_items c.loop-report.report-iterator ≡ c.in-Some.report ∷ into_iter_items c.next.new.self = c.in-Some.ensures.steps.0 in
    record {
      left = (subst (AllByRecursion _) steps was.left).1;
      evidence = c.joined-evidence.ensures;
      best = c.better-best.ensures.best;
      greatest = greatest_next (into_iter_items c.loop-report.report-iterator) (into_iter_items c.next.new.self) c.in-Some.report (λ report. report.found.best.time)
          c.loop-report.best.time c.better-best.result.time _ steps c.better-best.ensures.greatest was.greatest;
    }
