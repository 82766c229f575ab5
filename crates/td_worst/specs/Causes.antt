-- Why a search by spans ends that shows no more.
use Rattle.td_span_search.specs.declared.search.Ending.{Ending}
use Rattle.td_span_search.specs.declared.search.Ending.TheVariants as ending
use Rattle.td_search.specs.declared.answers.Cause.{Cause}
use Rattle.td_search.specs.declared.answers.Cause.TheVariants as cause

-- Why it ends that no stop can end: the memory that it would need, also where all is known and lines
-- that show it find no room; else its work.
abbrev pub cause_in : Ending → Cause
cause_in ending.Memory = cause.Memory
cause_in ending.Closed = cause.Memory
cause_in ending.NoPair = cause.Memory
cause_in ending.Work = cause.Budget
cause_in ending.Stop = cause.Budget
cause_in ending.Enough = cause.Budget
cause_in ending.Lost = cause.Budget
