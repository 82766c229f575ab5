use Rattle.td_cli.proofs.Ending.{carried, refused, texts_held}
use Rattle.td_cli.specs.Deadlines.{can_end}
use Rattle.td_cli.proofs.InTime.{never_late, plain_print}
use Rattle.td_cli.proofs.shell.carry_out_plain.Goals as goal

pub returns : goal.returns
returns g c =
    let disk = g.F.Files.disk c.args.files.now in
    refused disk c.args.request.now c.texts-texts.result c.in-Err-answer_plain.refusal _ _ _
    (texts_held disk.holds c.args.request.now c.in-Ok.bytes c.texts-texts.result c.in-Ok.ensures.held
    c.texts-texts.ensures.netlist c.texts-texts.ensures.certificates c.texts-texts.ensures.keep)
    (never_late (can_end c.args.request.now.command) c.in-Err-answer_plain.refusal (rw c.never.ensures at c.in-Err-answer_plain.ensures.stopped)) c.in-Err-answer_plain.ensures.refusal c.refuse.ensures.shown c.refuse.ensures.ends

pub returns-in-Ok-answer_plain : goal.returns-in-Ok-answer_plain
returns-in-Ok-answer_plain g c =
    let disk = g.F.Files.disk c.args.files.now in
    carried disk c.args.request.now c.texts-texts.result c.in-Ok-answer_plain.outcome _ _ _ c.in-Ok.ensures.clear.0 c.in-Ok.ensures.clear.1
    (texts_held disk.holds c.args.request.now c.in-Ok.bytes c.texts-texts.result c.in-Ok.ensures.held
    c.texts-texts.ensures.netlist c.texts-texts.ensures.certificates c.texts-texts.ensures.keep)
    c.in-Ok-answer_plain.ensures.says
    (plain_print (can_end c.args.request.now.command) c.args.request.now.command c.texts-texts.result.keep c.texts-texts.result.netlist.now
    c.args.request.now.reading c.in-Ok-answer_plain.outcome c.requires) c.finish.ensures
