use Rattle.std.proofs.Common.{ℕ, sym, subst}
use Rattle.td_search.specs.Problems.{problem_of}
use Rattle.td_search.specs.Splitting.{IsReachedDelay}
use Rattle.td_search.specs.Answers.{IsAnswer}
use Rattle.td_search.specs.declared.answers.Answer.{Answer}
use Rattle.td_search.specs.Redone.{ShowsRoot}
use Rattle.td_search.proofs.Causes.{answer_by_memory}
use Rattle.td_search.proofs.Rooted.{from_ok}
use Rattle.td_search.proofs.finishing.finish_by.Goals as goal

pub replay_tree-replayed-requires-clause-search : goal.replay_tree-replayed-requires-clause-search
replay_tree-replayed-requires-clause-search g c = λ κ l. (
  c.begin-search.ensures.search.0,
  c.begin-search.ensures.search.1,
  λ lead. subst (λ (n : ℕ). IsReachedDelay (problem_of c.args.task.now.problem.now) n) (sym c.begin-search.ensures.best) (c.requires.work.best.1 lead),
)

pub returns-in-Ok-replayed-clause-redone : goal.returns-in-Ok-replayed-clause-redone
returns-in-Ok-replayed-clause-redone g c = λ n shows.
    let pins = c.args.task.now.problem.now.admit.now.pins in
    let here = subst (λ (t : ℕ). ShowsRoot pins c.args.budget t c.args.work.partial c.args.work.evidence.items n) (sym c.begin-search.ensures.best) shows in
    c.run_from-ended.ensures.count n (from_ok _ _ c.in-Ok-replayed.is c.replay_tree-replayed.ensures.root n here c.begin-search.ensures.opened)

pub returns-in-Err-clause-answer : goal.returns-in-Err-clause-answer
returns-in-Err-clause-answer g c =
    subst (λ (a : Answer). IsAnswer (problem_of c.args.task.now.problem.now) c.args.budget a) (sym c.for_memory.ensures.answer)
    (answer_by_memory (problem_of c.args.task.now.problem.now) c.args.budget c.run_from-ended.result.answer c.run_from-ended.ensures.answer)

pub returns-in_default-clause-time : goal.returns-in_default-clause-time
returns-in_default-clause-time g c = c.given_up.ensures.time c.args.task.now.stop.now.can_be_set

pub returns-in_default-clause-redone : goal.returns-in_default-clause-redone
returns-in_default-clause-redone g c = c.given_up.ensures.redone c.args.work

pub returns-in_default-new-clause-time : goal.returns-in_default-new-clause-time
returns-in_default-new-clause-time g c = c.given_up-in_default-new.ensures.time c.args.task.now.stop.now.can_be_set

pub returns-in_default-new-clause-redone : goal.returns-in_default-new-clause-redone
returns-in_default-new-clause-redone g c = c.given_up-in_default-new.ensures.redone c.args.work
