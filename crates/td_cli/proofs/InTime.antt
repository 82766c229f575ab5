-- What no stop ends.
use Rattle.std.proofs.Common.{◌≡◌, ℕ, Bool, false, List}
use Rattle.std.specs.Prelude.{Option}
use Rattle.std.specs.Borrow.{Bor}
use Rattle.td_reading.specs.declared.reading.Reading.{Reading}
use Rattle.td_request.specs.declared.request.Command.{Command}
use Rattle.td_request.specs.declared.request.Command.TheVariants as command
use Rattle.td_answer.specs.declared.outcome.Outcome.{Outcome}
use Rattle.td_answer.specs.declared.refusal.Refusal.{Refusal}
use Rattle.td_answer.specs.Ends.{EndsByStop}
use Rattle.td_answer.specs.Filled.{filled}
use Rattle.td_answer.specs.Outcomes.{IsPlain, IsPrintOfCommand}

-- it is never out of time, whatever else could end it
pub never_late : (can_stop : Bool) (reason : Refusal) → EndsByStop false reason → EndsByStop can_stop reason
never_late can_stop reason ends = λ is. (let no = ends is in cc)

-- of a request that is no search nothing more is said
pub plain_print : (can_stop : Bool) (asked : Command) (keep : Option (Bor (List ℕ))) (text : List ℕ) (reading : Reading) (outcome : Outcome)
    → IsPlain asked → IsPrintOfCommand can_stop (filled keep asked) text reading outcome
plain_print can_stop (command.Worst search) keep text reading outcome plain = absurd plain
plain_print can_stop (command.Sim sim) keep text reading outcome plain = tt
plain_print can_stop (command.Path path) keep text reading outcome plain = tt
plain_print can_stop (command.Bound bound) keep text reading outcome plain = tt
plain_print can_stop (command.Parts parts) keep text reading outcome plain = tt
plain_print can_stop (command.Join join) keep text reading outcome plain = tt
plain_print can_stop (command.Check check) keep text reading outcome plain = tt
plain_print can_stop command.Info keep text reading outcome plain = tt
