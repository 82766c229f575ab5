use Rattle.td_syntax.specs.Views.{instance_view}
use Rattle.td_syntax.specs.Readers.{many}
use Rattle.td_syntax.specs.Parsing.{instance_step}
use Rattle.td_syntax.proofs.Lists.{left, SoFar}
use Rattle.td_syntax.proofs.SoundGates.{instances_shorten}
use Rattle.td_syntax.proofs.parser.Parser.instances.Given as goal

abbrev pub invariant-instances : goal.invariant-instances
invariant-instances l = SoFar (instance_step l.kind) (instances_shorten l.kind) instance_view l.instances.items l.self (many (instance_step l.kind) l.fn.self)

abbrev pub decreases-instances : goal.decreases-instances
decreases-instances l = left l.self
