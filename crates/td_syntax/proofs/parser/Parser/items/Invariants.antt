use Rattle.td_syntax.specs.Views.{item_view}
use Rattle.td_syntax.specs.Readers.{many}
use Rattle.td_syntax.specs.Parsing.{item_step}
use Rattle.td_syntax.proofs.Lists.{left, SoFar}
use Rattle.td_syntax.proofs.SoundItems.{items_shorten}
use Rattle.td_syntax.proofs.parser.Parser.items.Given as goal

abbrev pub invariant-items : goal.invariant-items
invariant-items l = SoFar (item_step l.tens) (items_shorten l.tens) item_view l.items.items l.self (many (item_step l.tens) l.fn.self)

abbrev pub decreases-items : goal.decreases-items
decreases-items l = left l.self
