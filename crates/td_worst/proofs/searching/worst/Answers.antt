use Rattle.td_circuit.specs.Numbering.{setting}
use Rattle.td_search.specs.Problems.{problem_by}
use Rattle.td_worst.proofs.searching.worst.Goals as goal

pub returns-in_ok-ended-in-Least-clause-shown : goal.returns-in_ok-ended-in-Least-clause-shown
returns-in_ok-ended-in-Least-clause-shown g c =
    c.of.ensures.support (setting c.args.question.circuit.now) c.args.question.admit.now
    (c.of-found.ensures.tree (problem_by c.strategy.result c.args.question.circuit.now c.args.question.admit.now) c.in_ok-ended-in-Least.ensures.shown)

pub returns-in_ok-ended-in-Least-clause-supported : goal.returns-in_ok-ended-in-Least-clause-supported
returns-in_ok-ended-in-Least-clause-supported g c =
    rw (c.of.ensures.answer, c.of-found.ensures.answer) (c.of.ensures.supported _ c.of-found.ensures.within)
