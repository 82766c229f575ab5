use Rattle.std.proofs.Common.{◌∙◌}
use Rattle.td_cli.proofs.Holding.{more, first_held}
use Rattle.td_cli.proofs.bytes.bytes_of_parts.Goals as goal

pub returns-in-Err-Device-clause-held : goal.returns-in-Err-Device-clause-held
returns-in-Err-Device-clause-held g c =
    first_held ((g.F.Files.disk c.args.files.now).holds) c.loop-name.name-index c.args.names.now c.loop-name.all.items c.loop-name.invariant.1

pub loop-name-preserved : goal.loop-name-preserved
loop-name-preserved g c =
    let holds = (g.F.Files.disk c.args.files.now).holds in (
      c.read.ensures.stays ∙ c.loop-name.invariant.0,
      rw c.in_ok-push-in-Ok.ensures.items (more holds c.args.names.now c.loop-name.all.items c.loop-name.name-index _ c.in-Ok.bytes c.loop-name-test.true
          c.loop-name.invariant.1 (rw c.loop-name.invariant.0 at c.in-Ok.ensures.bytes)),
    )

pub returns-clause-held : goal.returns-clause-held
returns-clause-held g c =
    first_held ((g.F.Files.disk c.args.files.now).holds) c.loop-name.name-index c.args.names.now c.loop-name.all.items c.loop-name.invariant.1
