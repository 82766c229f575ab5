-- What ends a command before it is done.
use Rattle.std.specs.Prelude.{ℕ, Bool, ◌||◌, List, Option, None, is_some}
use Rattle.std.specs.Borrow.{Bor}
use Rattle.td_request.specs.declared.request.Command.{Command}
use Rattle.td_request.specs.declared.request.Command.TheVariants as command

-- the seconds after which a command ends, if words ask for that
abbrev pub seconds_asked : Command → Option ℕ
seconds_asked (command.Sim sim) = sim.seconds
seconds_asked (command.Path path) = path.seconds
seconds_asked (command.Worst search) = search.effort.seconds
seconds_asked (command.Check check) = check.seconds
seconds_asked other = None

-- the file whose presence ends it, if words ask for that
abbrev pub file_asked : Command → Option (Bor (List ℕ))
file_asked (command.Worst search) = search.stop
file_asked other = None

-- words ask that something ends it before it is done
abbrev pub can_end : Command → Bool
can_end asked = is_some (seconds_asked asked) || is_some (file_asked asked)
