use Rattle.td_cli.proofs.Ending.{carried, refused, stopped, texts_held}
use Rattle.td_cli.proofs.shell.carry_out.Goals as goal

pub returns-in-Err : goal.returns-in-Err
returns-in-Err g c =
    stopped (g.F.Files.disk c.args.files.now) c.args.request.now c.in-Err.fault _ _ _ c.in-Err.ensures.fault c.stop.ensures.shown c.stop.ensures.ends

pub returns-in-Ok-found : goal.returns-in-Ok-found
returns-in-Ok-found g c =
    let disk = g.F.Files.disk c.args.files.now in
    carried disk c.args.request.now c.texts-texts.result c.in-Ok-found.outcome _ _ _ c.in-Ok.ensures.clear.0 c.in-Ok.ensures.clear.1
    (texts_held disk.holds c.args.request.now c.in-Ok.bytes c.texts-texts.result c.in-Ok.ensures.held
    c.texts-texts.ensures.netlist c.texts-texts.ensures.certificates c.texts-texts.ensures.keep)
    (rw c.in-Ok-found.is at c.in-Some.ensures.says) (rw c.in-Ok-found.is at c.in-Some.ensures.answered) c.finish.ensures

pub returns : goal.returns
returns g c =
    let disk = g.F.Files.disk c.args.files.now in
    refused disk c.args.request.now c.texts-texts.result c.in-Err-found.refusal _ _ _
    (texts_held disk.holds c.args.request.now c.in-Ok.bytes c.texts-texts.result c.in-Ok.ensures.held
    c.texts-texts.ensures.netlist c.texts-texts.ensures.certificates c.texts-texts.ensures.keep)
    (rw c.in-Err-found.is at c.in-Some.ensures.stopped) (rw c.in-Err-found.is at c.in-Some.ensures.refusal) c.refuse.ensures.shown c.refuse.ensures.ends
