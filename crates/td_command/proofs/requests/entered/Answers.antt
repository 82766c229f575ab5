use Rattle.std.proofs.Common.{sym}
use Rattle.std.proofs.lemmas.Result.{IfOk-weaker}
use Rattle.clap.specs.Words.{found_of, rows_of}
use Rattle.td_command.proofs.CommandLines.{entered_answered, none_entered}
use Rattle.td_command.proofs.requests.entered.Goals as goal

pub returns-in-Some : goal.returns-in-Some
returns-in-Some c = IfOk-weaker c.request.result _ _
    (λ result has. entered_answered c.args.matches.now c.args.named.now c.in-Some.name.now (rows_of (found_of c.in-Some.matches.now)) c.in-Some.ensures.name c.in-Some.ensures.rows result has)
    c.request.ensures

pub returns-in-None : goal.returns-in-None
returns-in-None c = none_entered c.args.matches.now c.args.named.now (sym c.in-None.ensures.variant)
