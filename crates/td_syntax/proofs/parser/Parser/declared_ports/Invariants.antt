use Rattle.td_syntax.specs.Views.{port_view}
use Rattle.td_syntax.specs.Readers.{many}
use Rattle.td_syntax.specs.Parsing.{port_step}
use Rattle.td_syntax.proofs.Lists.{left, SoFar}
use Rattle.td_syntax.proofs.SoundDeclarations.{ports_shorten}
use Rattle.td_syntax.proofs.parser.Parser.declared_ports.Given as goal

abbrev pub invariant-ports : goal.invariant-ports
invariant-ports l = SoFar port_step ports_shorten port_view l.ports.items l.self (many port_step l.fn.self)

abbrev pub decreases-ports : goal.decreases-ports
decreases-ports l = left l.self
