use Rattle.td_book.proofs.Witness.{witness, grafted}
use Rattle.td_book.proofs.laws.some_run.Goals as goal

pub returns-clause-run : goal.returns-clause-run
returns-clause-run c = witness

pub returns-clause-graft : goal.returns-clause-graft
returns-clause-graft c = grafted
