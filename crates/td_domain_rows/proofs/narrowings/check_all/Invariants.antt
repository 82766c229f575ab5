use Rattle.td_domain.specs.Sheets.{IsSheet}
use Rattle.td_domain_rows.specs.Counting.{counting_functions}
use Rattle.td_domain_rows.proofs.narrowings.check_all.Given as goal

abbrev pub invariant-loop-position : goal.invariant-loop-position
invariant-loop-position g l = IsSheet counting_functions (λ signal. 0) l.circuit l.sheet
