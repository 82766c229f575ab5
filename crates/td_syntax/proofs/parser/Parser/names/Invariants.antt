use Rattle.td_syntax.specs.Views.{name_view}
use Rattle.td_syntax.specs.Readers.{many, name_step}
use Rattle.td_syntax.proofs.Lists.{left, SoFar}
use Rattle.td_syntax.proofs.SoundDelays.{names_shorten}
use Rattle.td_syntax.proofs.parser.Parser.names.Given as goal

abbrev pub invariant-names : goal.invariant-names
invariant-names l = SoFar (name_step l.end) (names_shorten l.end) name_view l.names.items l.self (many (name_step l.end) l.fn.self)

abbrev pub decreases-names : goal.decreases-names
decreases-names l = left l.self
