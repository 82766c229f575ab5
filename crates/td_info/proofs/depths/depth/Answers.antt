use Rattle.td_info.proofs.Deep.{depth_is}
use Rattle.td_info.proofs.depths.depth.Goals as goal

pub returns : goal.returns
returns c = rw (c.deepest.ensures, c.deref.ensures.value)
    (depth_is c.args.circuit.now c.depths_of.ensures.numbering c.in_ok-depths.depths.items c.in_ok-depths.ensures.depths)
