use Rattle.std.proofs.Common.{ap, None}
use Rattle.std.proofs.lemmas.Result.{on_ok_weaker}
use Rattle.td_nets.specs.Views.{name_of}
use Rattle.td_answer.proofs.Ways.{never_named}
use Rattle.td_answer.proofs.path.push_never.Goals as goal

pub returns : goal.returns
returns c =
    on_ok_weaker c.push_lasts.result
    (never_named c.args.circuit.now c.args.net (name_of c.name.result.now) _ c.args.report.now c.push_lasts.new.report c.name.ensures
    (ap (λ name. record { output = name; moment = None }) c.in_ok-output.ensures))
    (rw (c.in_ok-push.ensures.items, c.new-rows.ensures.items) at c.push_lasts.ensures)
