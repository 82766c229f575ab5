use Rattle.std.proofs.Common.{drop}
use Rattle.td_syntax.proofs.Values.{Shifts}
use Rattle.td_syntax.proofs.delay.shifted.Given as goal

abbrev pub invariant-loop-digit : goal.invariant-loop-digit
invariant-loop-digit l = Shifts l.longer l.left (drop l.digit-index l.fraction) l.value l.tens l.fraction
