use Rattle.std.proofs.Common.{map, subst, List, ℕ}
use Rattle.std.specs.Borrow.{Bor}
use Rattle.clap.specs.Words.{HasKind}
use Rattle.td_command.specs.CommandLine.{kinds_of}
use Rattle.td_command.proofs.Parsed.{has_kind}
use Rattle.td_command.proofs.line.untaken.Goals as goal

pub returns-in-Err-clause-fault : goal.returns-in-Err-clause-fault
returns-in-Err-clause-fault c =
    subst (λ (words : List (Bor (List ℕ))). HasKind (kinds_of (map (λ word. word.now) words)) c.in-Err.error) c.as_slice.ensures.value
    (has_kind _ c.in_ok-command.ensures (map (λ word. word.now) c.as_slice.result.now) c.in-Err.error c.in-Err.ensures.kinds)
