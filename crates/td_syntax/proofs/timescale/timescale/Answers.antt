use Rattle.td_syntax.proofs.Parts.{parts_as}
use Rattle.td_syntax.proofs.timescale.timescale.Goals as goal

pub returns-clause-within : goal.returns-clause-within
returns-clause-within c = parts_as c.args.text.now c.parts.result c.parts.ensures
