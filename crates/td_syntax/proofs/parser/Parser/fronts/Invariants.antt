use Rattle.td_syntax.specs.Readers.{many}
use Rattle.td_syntax.specs.Parsing.{front_step}
use Rattle.td_syntax.proofs.Lists.{left, SoFar, same}
use Rattle.td_syntax.proofs.SoundHeads.{fronts_shorten}
use Rattle.td_syntax.proofs.parser.Parser.fronts.Given as goal

abbrev pub invariant-fronts : goal.invariant-fronts
invariant-fronts l = SoFar front_step fronts_shorten same l.fronts.items l.self (many front_step l.fn.self)

abbrev pub decreases-fronts : goal.decreases-fronts
decreases-fronts l = left l.self
