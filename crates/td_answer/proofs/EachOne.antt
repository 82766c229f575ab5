-- What the answer of a search says in a table.
use Rattle.std.proofs.Common.{ℕ, List}
use Rattle.td_reading.specs.declared.reading.Reading.{Reading}
use Rattle.td_circuit.specs.Settings.{Setting}
use Rattle.td_domain.specs.Pairs.{Pair}
use Rattle.td_domain.specs.Admits.{IsAdmitted}
use Rattle.td_refutation.specs.Asking.{Asking, IsAskedAbout, all_admitted}
use Rattle.td_refutation.proofs.Asking.{nothing_kept}
use Rattle.td_search.specs.declared.answers.Answer.{Answer}
use Rattle.td_search.specs.declared.answers.Answer.TheVariants as answer
use Rattle.td_search.specs.declared.answers.SearchFault.{SearchFault}
use Rattle.td_search.specs.declared.answers.SearchFault.TheVariants as failed
use Rattle.td_search.specs.Answers.{IsSearchFault}
use Rattle.td_search.specs.Problems.{Problem}
use Rattle.td_worst.specs.Methods.{IsSoundAnswer}
use Rattle.td_worst.specs.declared.kept_answer.KeptAnswer.{KeptAnswer}
use Rattle.td_worst.specs.declared.kept_answer.KeptAnswer.TheVariants as kept
use Rattle.td_worst.specs.Kept.{IsKeptAnswer}
use Rattle.td_request.specs.declared.request.Search.{Search}
use Rattle.td_question.specs.Asking.{IsAskedKeeping}
use Rattle.td_answer.specs.declared.refusal.Refusal.{Refusal}
use Rattle.td_answer.specs.declared.refusal.Refusal.TheVariants as refusal
use Rattle.td_answer.specs.Searches.{IsRefusedSearch}
use Rattle.td_answer.specs.Columns.{IsTrueAnswer}
use Rattle.td_answer.specs.Findings.{found_of, kept_found, IsTrueFound}
use Rattle.td_answer.specs.Tables.{IsUnanswered}

-- where there is no condition, the pairs that are asked about are the admitted ones
pub about : (problem : Problem) (pair : Pair) → IsAdmitted problem.admit pair → IsAskedAbout problem.setting.netlist (all_admitted problem.admit) pair
about problem pair admitted = record { admitted = admitted; kept = nothing_kept problem.setting.netlist pair }

pub true_found : (problem : Problem) (budget : ℕ) (found : Answer) → IsSoundAnswer problem budget found
    → IsTrueFound problem.setting (all_admitted problem.admit) (found_of found)
true_found problem budget (answer.Exact time pair tree) is =
    ((pair, about problem pair is.reached.0, is.reached.1), λ other delay asked has. is.greatest other delay asked.admitted has)
true_found problem budget (answer.Between low high pair nodes short) is = record {
  pair = pair;
  has = record { asked = about problem pair is.reached.0; delays = is.reached.1 };
  greatest = λ other delay asked has. is.greatest other delay asked.admitted has;
  ordered = is.ordered;
}

-- what an answer says of the pairs that keep conditions
pub true_kept : (setting : Setting) (asking : Asking) (found : KeptAnswer) → IsKeptAnswer setting asking found → IsTrueFound setting asking (kept_found found)
true_kept setting asking (kept.Exact best tree) is = ((best.pair, is.0.timed.asked, is.0.timed.delay), is.0.greatest)
true_kept setting asking (kept.Between best high why steps) is =
    record { pair = best.pair; has = record { asked = is.0.timed.asked; delays = is.0.timed.delay }; greatest = is.0.greatest; ordered = is.0.ordered }
true_kept setting asking (kept.Open high why) is = is
true_kept setting asking (kept.NoPair tree) is = is.0

-- the same, of an answer that is true of its pairs
pub true_where : (setting : Setting) (asking : Asking) (found : KeptAnswer) → IsTrueAnswer setting asking found → IsTrueFound setting asking (kept_found found)
true_where setting asking (kept.Exact best tree) is = ((best.pair, is.timed.asked, is.timed.delay), is.greatest)
true_where setting asking (kept.Between best high why steps) is =
    record { pair = best.pair; has = record { asked = is.timed.asked; delays = is.timed.delay }; greatest = is.greatest; ordered = is.ordered }
true_where setting asking (kept.Open high why) is = is
true_where setting asking (kept.NoPair tree) is = is

pub unanswered : (problem : Problem) (reason : SearchFault) → IsSearchFault problem reason → IsUnanswered problem.admit (refusal.Search reason)
unanswered problem failed.NoPair none = λ pair admitted. none (pair, admitted, admitted.pinned)
unanswered problem failed.OutOfMemory none = tt

-- where the words ask about these pairs, and the search for an output has no answer
pub refused_each : (text : List ℕ) (reading : Reading) (search : Search) (setting : Setting) (asking : Asking) (reason : Refusal)
    → IsAskedKeeping text reading search.question setting asking → IsUnanswered asking.admit reason → IsRefusedSearch text reading search reason
refused_each text reading asked_by setting asking refusal.OutOfMemory asked is = tt
refused_each text reading asked_by setting asking (refusal.Search failed.NoPair) asked is = (setting, asking, asked, is)
refused_each text reading asked_by setting asking (refusal.Search failed.OutOfMemory) asked is = tt
refused_each text reading asked_by setting asking (refusal.Unread _) asked is = elim is [ ]
refused_each text reading asked_by setting asking (refusal.Question _) asked is = elim is [ ]
refused_each text reading asked_by setting asking (refusal.NoOutput _) asked is = elim is [ ]
refused_each text reading asked_by setting asking (refusal.Check _) asked is = elim is [ ]
refused_each text reading asked_by setting asking (refusal.BadPart _ _) asked is = elim is [ ]
refused_each text reading asked_by setting asking (refusal.Unaccepted _ _) asked is = elim is [ ]
refused_each text reading asked_by setting asking (refusal.OtherCircuit _) asked is = elim is [ ]
refused_each text reading asked_by setting asking (refusal.NotJoined _) asked is = elim is [ ]
refused_each text reading asked_by setting asking (refusal.OtherQuestion _) asked is = elim is [ ]
refused_each text reading asked_by setting asking refusal.TooLong asked is = elim is [ ]
refused_each text reading asked_by setting asking refusal.OutOfTime asked is = elim is [ ]
