use Rattle.std.proofs.Common.{◌∙◌, ap, List}
use Rattle.td_nets.specs.Netlist.{Name}
use Rattle.td_nets.specs.Names.{is_in}
use Rattle.td_netlist.specs.NameViews.{name_ref_of}
use Rattle.td_netlist.proofs.Sets.{any_names}
use Rattle.td_netlist.proofs.names.Names.has.Goals as goal

pub returns : goal.returns
returns c = c.contains.ensures ∙ any_names c.args.name c.self.inside.set.keys ∙ ap (λ (ns : List Name). is_in (name_ref_of c.args.name) ns) c.self.view_is
