use Rattle.std.proofs.Common.{map}
use Rattle.td_nets.specs.Views.{name_of}
use Rattle.td_source.proofs.Asked.{can_be_asked}
use Rattle.td_source.proofs.asking.asked_of.Goals as goal

pub set_outputs-requires : goal.set_outputs-requires
set_outputs-requires c =
    can_be_asked c.args.circuit c.args.numbers.now (map name_of c.in_ok-chosen.chosen.names.items) c.in_ok-chosen.chosen.nets.items c.gates-gates.ensures.numbering
    c.requires c.in_ok-chosen.ensures.names c.in_ok-chosen.ensures.nets
