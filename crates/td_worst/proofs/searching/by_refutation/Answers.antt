use Rattle.std.proofs.Common.{◌∙◌, sym}
use Rattle.td_search.specs.declared.strategy.Strategy.TheVariants.{Lead}
use Rattle.td_search.specs.Problems.{problem_by}
use Rattle.td_worst.proofs.Edged.{stays_within}
use Rattle.td_worst.proofs.Supported.{less_within_tree}
use Rattle.std.proofs.Common.{arith}
use Rattle.td_worst.proofs.searching.by_refutation.Goals as goal

pub returns-then-not-is_open-clause-time : goal.returns-then-not-is_open-clause-time
returns-then-not-is_open-clause-time g c =
    rw c.of-then-not-is_open.ensures.answer (c.bounded_by_edges-known.ensures.time c.args.limits.stop.now.can_be_set (rw c.with_nodes-none.ensures.stop at c.in_ok-begun.ensures.time))

pub returns-clause-edges : goal.returns-clause-edges
returns-clause-edges g c = λ some.
    stays_within (problem_by Lead c.args.question.circuit.now c.args.question.admit.now) c.bounded_by_edges-known.result c.refuted_told-shown.result.answer c.bounded_by_edges-known.ensures.edges
    (sym c.is_open.ensures ∙ c.if-not-is_open.false) c.refuted_told-shown.ensures.narrower.high

pub returns-clause-reported : goal.returns-clause-reported
returns-clause-reported g c =
    g.met.W.Watch.reported_both (problem_by Lead c.args.question.circuit.now c.args.question.admit.now) _ _ _ c.bounded.ensures.reported c.refuted_told-shown.ensures.reported

pub returns-then-budget-eq0-clause-supported : goal.returns-then-budget-eq0-clause-supported
returns-then-budget-eq0-clause-supported g c = rw c.of.ensures.answer (c.of.ensures.supported _ c.in_ok-begun.ensures.within)

pub returns-then-not-is_open-clause-supported : goal.returns-then-not-is_open-clause-supported
returns-then-not-is_open-clause-supported g c =
    rw c.of-then-not-is_open.ensures.answer (c.of-then-not-is_open.ensures.supported _
    (less_within_tree _ _ c.in_ok-begun.begun.tree c.bounded_by_edges-known.ensures.narrower.high c.in_ok-begun.ensures.within))

pub returns-clause-supported : goal.returns-clause-supported
returns-clause-supported g c = record {
  steps = c.refuted_told-shown.ensures.within;
  tree = less_within_tree _ _ c.in_ok-begun.begun.tree
      (omega (arith, c.bounded_by_edges-known.ensures.narrower.high, c.refuted_told-shown.ensures.narrower.high)) c.in_ok-begun.ensures.within;
}
