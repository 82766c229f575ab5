-- Internal: what is answered to a request on the texts of its files.
use Rattle.std.specs.Prelude.{Bool, Result, IfOk, IfErr}
use Rattle.td_request.specs.declared.request.Request.{Request}
use Rattle.td_answer.specs.declared.outcome.Outcome.{Outcome}
use Rattle.td_answer.specs.declared.refusal.Refusal.{Refusal}
use Rattle.td_answer.specs.declared.texts.Texts.{Texts}
use Rattle.td_answer.specs.Ends.{EndsByStop}
use Rattle.td_answer.specs.Outcomes.{IsPrintOf, IsRefused, IsTrueOutcome}
use Rattle.td_answer.specs.Writing.{CanBeWritten}

-- an outcome that is true of them, or a reason that holds, where it can be stopped or not
pub record IsAnswered (can_stop : Bool) (request : Request) (texts : Texts) (found : Result Outcome Refusal) : Type 0 where
  pub says : IfOk found (IsTrueOutcome request texts)
  pub answered : IfOk found (IsPrintOf can_stop request texts)
  pub written : IfOk found CanBeWritten
  pub refusal : IfErr found (IsRefused request texts)
  pub stopped : IfErr found (EndsByStop can_stop)
