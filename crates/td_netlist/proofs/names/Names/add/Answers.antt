use Rattle.std.proofs.Common.{◌≡◌, ◌∙◌, ap, subst, Bool, not, List, map}
use Rattle.std.specs.Prelude.{IfOk}
use Rattle.td_nets.specs.Netlist.{Name}
use Rattle.td_nets.specs.Names.{is_in, with_name}
use Rattle.td_netlist.specs.NameViews.{name_ref_of}
use Rattle.td_netlist.proofs.Sets.{any_names, with_names, on_ok}
use Rattle.td_netlist.proofs.names.Names.add.Goals as goal

pub returns-clause-is_new : goal.returns-clause-is_new
returns-clause-is_new c =
    subst (λ (b : Bool). IfOk c.insert.result (λ (is_new : Bool). is_new ≡ not b)) (any_names c.args.name c.self.inside.set.keys ∙ ap (λ (ns : List Name). is_in (name_ref_of c.args.name) ns) c.self.view_is) c.insert.ensures.added

pub returns-clause-added : goal.returns-clause-added
returns-clause-added c =
    on_ok c.insert.result c.insert.ensures.keys (λ e. ap (λ (ks : List _). map name_ref_of ks) e ∙ with_names c.args.name c.self.inside.set.keys ∙ ap (λ (ns : List Name). with_name ns (name_ref_of c.args.name)) c.self.view_is)
