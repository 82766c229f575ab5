use Rattle.std.proofs.Common.{sym, ◌∙◌}
use Rattle.td_inputs.proofs.Loops.{no_cell, not_spelled}
use Rattle.td_inputs.proofs.writing.cells_of.Goals as goal

pub returns-in-None-clause-none : goal.returns-in-None-clause-none
returns-in-None-clause-none c =
    not_spelled c.args.letters c.args.word.now c.loop-letter.letter-index c.loop-letter-test.true (no_cell c.args.letters _ (sym c.cell_of.ensures ∙ c.in-None.is))
