use Rattle.std.proofs.Common.{◌∙◌, ap, List, Option}
use Rattle.td_netlist.specs.declared.name_ref.Direction.{Direction}
use Rattle.td_netlist.specs.Module.{Declared}
use Rattle.td_netlist.specs.NameViews.{found_of}
use Rattle.td_netlist.specs.Checks.{direction_of}
use Rattle.td_syntax.specs.Views.{name_view}
use Rattle.td_netlist.proofs.Found.{found_in}
use Rattle.td_netlist.proofs.directions.Directions.get.Goals as goal

pub returns : goal.returns
returns c =
    ap (λ (o : Option Direction). found_of c.args.name.name.now o) (c.copied.ensures ∙ c.get.ensures.value)
    ∙ found_in c.args.name.name.now c.self.inside.table.entries
    ∙ ap (λ (ds : List Declared). direction_of ds (name_view c.args.name)) c.self.view_is
