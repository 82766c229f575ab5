use Rattle.std.proofs.Common.{◌∙◌, sym, arith}
use Rattle.td_circuit.specs.Numbering.{setting}
use Rattle.td_search.specs.declared.strategy.Strategy.TheVariants.{Least}
use Rattle.td_search.specs.Problems.{problem_by}
use Rattle.td_worst.proofs.Edged.{stays_within}
use Rattle.td_worst.proofs.Outcomes.{more_budget}
use Rattle.td_worst.proofs.Supported.{less_within_tree}
use Rattle.td_worst.proofs.searching.by_all.Goals as goal

pub returns-clause-answer : goal.returns-clause-answer
returns-clause-answer g c =
    let asked = problem_by Least c.args.question.circuit.now c.args.question.admit.now in
    more_budget asked _ c.args.limits.effort.budget c.further.result.answer
    (omega (arith, c.nodes_of-nodes.ensures.few, c.with_nodes-rest.ensures.budget))
    c.further.ensures.answer

pub returns-then-not-is_open-clause-time : goal.returns-then-not-is_open-clause-time
returns-then-not-is_open-clause-time g c =
    rw c.of-then-not-is_open.ensures.answer (c.bounded_by_edges-known.ensures.time c.args.limits.stop.now.can_be_set (rw c.of-begun.ensures.answer (rw c.with_nodes-first.ensures.stop at c.in_ok-ended.ensures.time)))

pub returns-clause-edges : goal.returns-clause-edges
returns-clause-edges g c = λ more.
    stays_within (problem_by Least c.args.question.circuit.now c.args.question.admit.now) c.bounded_by_edges-known.result c.further.result.answer
    c.bounded_by_edges-known.ensures.edges (sym c.is_open.ensures ∙ c.if-not-is_open.false) c.further.ensures.high

pub returns-then-left-eq0-clause-shown : goal.returns-then-left-eq0-clause-shown
returns-then-left-eq0-clause-shown g c =
    c.of.ensures.support (setting c.args.question.circuit.now) c.args.question.admit.now
    (c.of-begun.ensures.tree (problem_by Least c.args.question.circuit.now c.args.question.admit.now) c.in_ok-ended.ensures.shown)

pub returns-then-not-is_open-clause-shown : goal.returns-then-not-is_open-clause-shown
returns-then-not-is_open-clause-shown g c =
    c.of-then-not-is_open.ensures.support (setting c.args.question.circuit.now) c.args.question.admit.now
    (c.of-begun.ensures.tree (problem_by Least c.args.question.circuit.now c.args.question.admit.now) c.in_ok-ended.ensures.shown)

pub further-requires-clause-tree : goal.further-requires-clause-tree
further-requires-clause-tree g c = λ κs lives.
    c.of-begun.ensures.tree (problem_by Least c.args.question.circuit.now c.args.question.admit.now) c.in_ok-ended.ensures.shown

pub returns-then-left-eq0-clause-supported : goal.returns-then-left-eq0-clause-supported
returns-then-left-eq0-clause-supported g c =
    rw (c.of.ensures.answer, c.of-begun.ensures.answer) (c.of.ensures.supported _ c.of-begun.ensures.within)

pub returns-then-not-is_open-clause-supported : goal.returns-then-not-is_open-clause-supported
returns-then-not-is_open-clause-supported g c =
    rw c.of-then-not-is_open.ensures.answer (c.of-then-not-is_open.ensures.supported _
    (less_within_tree _ _ c.of-begun.result.tree c.bounded_by_edges-known.ensures.narrower.high (rw c.of-begun.ensures.answer c.of-begun.ensures.within)))

pub further-requires-clause-within : goal.further-requires-clause-within
further-requires-clause-within g c = λ κs lives.
    less_within_tree _ _ c.of-begun.result.tree c.bounded_by_edges-known.ensures.narrower.high (rw c.of-begun.ensures.answer c.of-begun.ensures.within)
