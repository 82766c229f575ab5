use Rattle.td_syntax.specs.Views.{terminal_view}
use Rattle.td_syntax.specs.Readers.{many}
use Rattle.td_syntax.specs.Parsing.{terminal_step}
use Rattle.td_syntax.proofs.Lists.{left, SoFar}
use Rattle.td_syntax.proofs.SoundGates.{terminals_shorten}
use Rattle.td_syntax.proofs.parser.Parser.terminals.Given as goal

abbrev pub invariant-terminals : goal.invariant-terminals
invariant-terminals l = SoFar (terminal_step l.kind) (terminals_shorten l.kind) terminal_view l.terminals.items l.self (many (terminal_step l.kind) l.fn.self)

abbrev pub decreases-terminals : goal.decreases-terminals
decreases-terminals l = left l.self
