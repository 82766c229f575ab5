use Rattle.std.proofs.Common.{refl}
use Rattle.td_nets.specs.Views.{name_of}
use Rattle.td_answer.proofs.Ways.{change_named}
use Rattle.td_answer.proofs.beside.change_of.Goals as goal

pub returns : goal.returns
returns c =
    change_named c.args.circuit.now c.args.link (name_of c.name.result.now) _ c.name.ensures
    (rw (c.in_ok-net.ensures, c.driver_of.ensures) refl)
