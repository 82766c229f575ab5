use Rattle.std.proofs.Common.{refl}
use Rattle.td_files.proofs.FirstFiles.{from_next, is_here, is_nowhere}
use Rattle.td_files.proofs.memory_files.found.Goals as goal

pub loop-file-init : goal.loop-file-init
loop-file-init c = refl

pub loop-file-preserved : goal.loop-file-preserved
loop-file-preserved c =
    from_next c.args.files.now c.loop-file.file-index c.args.name.now c.loop-file.invariant _ c.loop-file-test.true c.if-eq.ensures

pub returns-then-eq : goal.returns-then-eq
returns-then-eq c =
    is_here c.args.files.now c.loop-file.file-index c.args.name.now c.loop-file.invariant _ c.loop-file-test.true c.if-eq.ensures

pub returns : goal.returns
returns c = is_nowhere c.args.files.now c.loop-file.file-index c.args.name.now c.loop-file.invariant c.loop-file-test.false
