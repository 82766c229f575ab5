use Rattle.td_answer.proofs.worst.reported.Goals as goal

pub returns : goal.returns
returns c = rw (c.in_ok-report.ensures, c.pair_in.ensures) at c.in_ok-push_run.ensures
