use Rattle.std.proofs.Common.{subst}
use Rattle.td_domain.specs.Worst.{IsUpperBound}
use Rattle.td_pool.specs.Watched.{IsFound}
use Rattle.td_search.specs.declared.answers.Answer.{Answer}
use Rattle.td_search.specs.Answers.{low_of}
use Rattle.td_worst.specs.Methods.{high_of}
use Rattle.td_worst.proofs.Told.{found_low, bound_high}
use Rattle.td_worst.proofs.telling.progress_of.Goals as goal

pub returns-in-Exact : goal.returns-in-Exact
returns-in-Exact c = λ asked budget is. record {
  found = subst (λ (told : Answer). IsFound asked (low_of told)) c.in-Exact.is (found_low asked budget c.args.answer.now is);
  greatest = subst (λ (told : Answer). IsUpperBound asked.setting asked.admit (high_of told)) c.in-Exact.is (bound_high asked budget c.args.answer.now is);
}

pub returns-in-Between : goal.returns-in-Between
returns-in-Between c = λ asked budget is. record {
  found = subst (λ (told : Answer). IsFound asked (low_of told)) c.in-Between.is (found_low asked budget c.args.answer.now is);
  greatest = subst (λ (told : Answer). IsUpperBound asked.setting asked.admit (high_of told)) c.in-Between.is (bound_high asked budget c.args.answer.now is);
}
