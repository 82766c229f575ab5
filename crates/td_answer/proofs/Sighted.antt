-- What is found is shown by its pair.
use Rattle.std.proofs.Common.{◌≡◌, ◌∙◌, ℕ, Bool, true, false, refl, sym, subst}
use Rattle.std.specs.Prelude.{Option, Some, None, option_map}
use Rattle.td_circuit.specs.Settings.{Setting}
use Rattle.td_domain.specs.Pairs.{Pair}
use Rattle.td_refutation.specs.Asking.{Asking, all_admitted}
use Rattle.td_search.specs.declared.answers.Answer.{Answer}
use Rattle.td_search.specs.declared.answers.Answer.TheVariants as answer
use Rattle.td_search.specs.Problems.{Problem}
use Rattle.td_worst.specs.Methods.{IsSoundAnswer}
use Rattle.td_worst.specs.declared.kept_answer.KeptAnswer.{KeptAnswer}
use Rattle.td_worst.specs.declared.kept_answer.KeptAnswer.TheVariants as kept
use Rattle.td_worst.specs.Kept.{IsKeptAnswer}
use Rattle.td_lines.specs.declared.line.Found.{Found}
use Rattle.td_answer.specs.Findings.{found_of, kept_found, IsTrueFound}
use Rattle.td_answer.specs.Lines.{pair_in}
use Rattle.td_answer.specs.Sightings.{HasFigure, HasVectors, IsTrueSighting, PairHas, kept_pair, pair_of, shown_by, sighted, vectors_of}
use Rattle.td_answer.specs.Tables.{SomeHas}
use Rattle.td_answer.proofs.EachOne.{about, true_found, true_kept}

module _ (setting : Setting) (asking : Asking) where
  pub some_has : (delay : ℕ) (pair : Option Pair) → PairHas setting asking delay pair → SomeHas setting asking delay
  some_has delay None has = absurd has
  some_has delay (Some pair) has = (pair, has)

  there_and_back : (known : Found) (pair : Option Pair) → HasFigure setting asking known pair
      → HasFigure setting asking known (option_map pair_of (option_map vectors_of pair))
  there_and_back known None has = has
  there_and_back known (Some pair) has = has

  -- what is true of the pair is true of its vectors
  pub true_sighting : (is_asked : Bool) (known : Found) (pair : Option Pair) → IsTrueFound setting asking known
      → HasFigure setting asking known (shown_by known pair) → IsTrueSighting is_asked setting asking (sighted is_asked known pair)
  true_sighting false known pair is has = (is, refl)
  true_sighting true known pair is has = (is, there_and_back known (shown_by known pair) has)

-- the pair of an answer shows what it says
pub answer_shown : (problem : Problem) (budget : ℕ) (found : Answer) → IsSoundAnswer problem budget found
    → HasFigure problem.setting (all_admitted problem.admit) (found_of found) (shown_by (found_of found) (Some (pair_in found)))
answer_shown problem budget (answer.Exact time pair tree) is =
    record { asked = about problem pair is.reached.0; delays = is.reached.1 }
answer_shown problem budget (answer.Between low high pair nodes short) is =
    record { asked = about problem pair is.reached.0; delays = is.reached.1 }

pub kept_shown : (setting : Setting) (asking : Asking) (found : KeptAnswer) → IsKeptAnswer setting asking found
    → HasFigure setting asking (kept_found found) (shown_by (kept_found found) (kept_pair found))
kept_shown setting asking (kept.Exact best tree) is = record { asked = is.0.timed.asked; delays = is.0.timed.delay }
kept_shown setting asking (kept.Between best high why steps) is = record { asked = is.0.timed.asked; delays = is.0.timed.delay }
kept_shown setting asking (kept.Open high why) is = refl
kept_shown setting asking (kept.NoPair tree) is = refl
