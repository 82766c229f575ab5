use Rattle.td_inputs.proofs.Loops.{moments_step, two_written}
use Rattle.td_inputs.proofs.writing.listed.Goals as goal
use Rattle.std.proofs.Common.{decimal, unwrap_or, get_or, None, drop, ◌+◌}
use Rattle.std.specs.Prelude.{string_bytes}
use Rattle.td_inputs.specs.Patterns.{moments_at, separator}

pub loop-place-preserved : goal.loop-place-preserved
loop-place-preserved c =
    two_written (string_bytes c.loop-place.word) (separator c.loop-place.place) (decimal (unwrap_or (get_or c.args.cells.now c.loop-place.place None) 0))
    _ (moments_at 0 c.args.cells.now) (moments_at (c.loop-place.place + 1) (drop (c.loop-place.place + 1) c.args.cells.now)) _
    c.loop-place.invariant (moments_step c.args.cells.now c.loop-place.place None c.loop-place-test.true) (cc (c.in_ok-push_str.ensures.bytes, c.in_ok-push_number.ensures, c.separator.ensures))
