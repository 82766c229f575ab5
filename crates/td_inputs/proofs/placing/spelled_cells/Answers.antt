use Rattle.std.proofs.Common.{arith}
use Rattle.td_inputs.proofs.Loops.{if_none, not_given}
use Rattle.td_inputs.proofs.placing.spelled_cells.Goals as goal

pub returns-then-word-count-clause-none : goal.returns-then-word-count-clause-none
returns-then-word-count-clause-none c = if_none _ _
    (λ none. not_given c.args.letters c.args.count c.args.word.now (omega arith) (rw c.as_bytes.ensures.value at none))
    c.cells_of.result c.cells_of.ensures.none
