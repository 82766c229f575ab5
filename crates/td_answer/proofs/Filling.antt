-- Questions with the text of their file of conditions.
use Rattle.std.proofs.Common.{◌≡◌, ℕ, List, subst}
use Rattle.td_reading.specs.declared.reading.Reading.{Reading}
use Rattle.td_circuit.specs.Settings.{Setting}
use Rattle.td_domain.specs.Admits.{Admitted}
use Rattle.td_refutation.specs.declared.conditions.NamedCondition.{NamedCondition}
use Rattle.td_request.specs.declared.question.Question.{Question}
use Rattle.td_question.specs.Asking.{IsAsked, IsAskedKeeping, keep_quotes}
use Rattle.td_question.specs.Keeping.{AreConditions}

-- what a question asks, another one asks that is the same
pub asks_same : (text : List ℕ) (reading : Reading) (one other : Question) (setting : Setting) (admit : Admitted) (keep : List NamedCondition) → one ≡ other
    → IsAsked text reading one setting admit → AreConditions setting.netlist (keep_quotes one) keep
    → IsAskedKeeping text reading other setting (record { admit = admit; keep = keep })
asks_same text reading one other setting admit keep same asked are =
    subst (λ (question : Question). IsAskedKeeping text reading question setting (record { admit = admit; keep = keep })) same (record { asked = asked; keep = are })
