use Rattle.std.proofs.Common.{◌≡◌, map}
use Rattle.std.specs.List.{AllByRecursion}
use Rattle.std.specs.Vec.Iter.{into_iter_items}
use Rattle.td_search.specs.CutShort.{greatest_of}
use Rattle.td_search.specs.Findings.{IsTrueEvidence}
use Rattle.td_search.specs.Problems.{problem_of}
use Rattle.td_search.specs.Best.{IsBest}
use Rattle.td_pool.specs.Truth.{IsTrueFound}
use Rattle.td_pool.proofs.reports.gather.Given as goal

abbrev pub invariant-loop-report : goal.invariant-loop-report
invariant-loop-report g l = record {
  left : AllByRecursion (λ report. IsTrueFound (problem_of l.fn.problem) report.found) (into_iter_items l.report-iterator);
  evidence : AllByRecursion (IsTrueEvidence (problem_of l.fn.problem)) l.evidence.items;
  best : IsBest (problem_of l.fn.problem) l.best;
  greatest : greatest_of l.best.time (map (λ report. report.found.best.time) (into_iter_items l.report-iterator))
      ≡ greatest_of l.fn.first.time (map (λ report. report.found.best.time) l.fn.all.items);
}
