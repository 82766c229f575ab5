-- What a report says of how much a search did.
use Rattle.std.proofs.Common.{ℕ, Bool, true, false, refl}
use Rattle.std.specs.Prelude.{[], ◌∷◌, cond}
use Rattle.td_lines.specs.declared.line.Line.TheVariants as line
use Rattle.td_answer.specs.declared.ended.Ended.{Ended}
use Rattle.td_answer.specs.Ends.{TellsWork, work_lines}

by_flag : (asked : Bool) (units : ℕ) → TellsWork asked (cond asked (line.Units units ∷ []) [])
by_flag true units = (units, refl)
by_flag false units = refl

pub works : (ended : Ended) → TellsWork ended.search.now.shown.work (work_lines ended)
works ended = by_flag ended.search.now.shown.work ended.work
