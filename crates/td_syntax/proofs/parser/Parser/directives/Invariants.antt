use Rattle.td_syntax.specs.Readers.{many}
use Rattle.td_syntax.specs.Parsing.{behind_step}
use Rattle.td_syntax.proofs.Lists.{left, SoFar, same}
use Rattle.td_syntax.proofs.SoundHeads.{behind_shortens}
use Rattle.td_syntax.proofs.parser.Parser.directives.Given as goal

abbrev pub invariant-directives : goal.invariant-directives
invariant-directives l = SoFar behind_step behind_shortens same l.directives.items l.self (many behind_step l.fn.self)

abbrev pub decreases-directives : goal.decreases-directives
decreases-directives l = left l.self
