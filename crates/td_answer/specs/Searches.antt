-- Why a search has no answer.
use Rattle.std.specs.Prelude.{ℕ, List}
use Rattle.td_reading.specs.declared.reading.Reading.{Reading}
use Rattle.td_circuit.specs.Settings.{Setting}
use Rattle.td_domain.specs.Pairs.{Pair}
use Rattle.td_domain.specs.Admits.{IsAdmitted}
use Rattle.td_refutation.specs.Asking.{Asking}
use Rattle.td_search.specs.declared.answers.SearchFault.TheVariants as search
use Rattle.td_question.specs.Asking.{IsAskedKeeping, IsQuestionFault}
use Rattle.td_request.specs.declared.question.Question.{Question}
use Rattle.td_request.specs.declared.request.Search.{Search}
use Rattle.td_answer.specs.declared.refusal.Refusal.{Refusal}
use Rattle.td_answer.specs.declared.refusal.Refusal.TheVariants as refusal

-- the words ask, each condition among them says something, and no pair is admitted
abbrev pub AdmitsNone : List ℕ → Reading → Question → Type 0
AdmitsNone text reading question =
    (setting : Setting) × (asking : Asking) × IsAskedKeeping text reading question setting asking × ((pair : Pair) → ¬ IsAdmitted asking.admit pair)

-- why a search has no answer
abbrev pub IsRefusedSearch : List ℕ → Reading → Search → Refusal → Type 0
IsRefusedSearch text reading asked refusal.OutOfMemory = Unit {0}
IsRefusedSearch text reading asked (refusal.Question found) = IsQuestionFault text reading asked.question found
IsRefusedSearch text reading asked (refusal.Search search.NoPair) = AdmitsNone text reading asked.question
IsRefusedSearch text reading asked (refusal.Search search.OutOfMemory) = Unit {0}
IsRefusedSearch text reading asked other = ⊥
