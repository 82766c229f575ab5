use Rattle.std.proofs.Common.{sym, subst}
use Rattle.td_search.specs.declared.answers.Answer.{Answer}
use Rattle.td_search.specs.Answers.{TimeNeedsStop}
use Rattle.td_search.specs.Problems.{problem_of}
use Rattle.td_search.specs.Redone.{IsRedone}
use Rattle.td_search.proofs.finishing.given_up.Goals as goal

pub returns-clause-time : goal.returns-clause-time
returns-clause-time c = λ can_be_set. subst (λ (a : Answer). TimeNeedsStop can_be_set a) (sym c.of.ensures.answer) (c.nothing_handled.ensures.time can_be_set)

pub returns-clause-redone : goal.returns-clause-redone
returns-clause-redone c = λ work. subst (λ (a : Answer). IsRedone (problem_of c.args.problem.now) c.args.budget work a) (sym c.of.ensures.answer) (λ n shows. c.nothing_handled.ensures.handled n shows.within)
