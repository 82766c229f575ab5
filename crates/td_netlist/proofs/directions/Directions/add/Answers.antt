use Rattle.std.proofs.Common.{◌∙◌, ap, List, [], ◌∷◌, ◌++◌, map}
use Rattle.std.proofs.lemmas.List.{map_push}
use Rattle.td_syntax.specs.Views.{name_view}
use Rattle.td_netlist.specs.Module.{Declared}
use Rattle.td_netlist.specs.Checks.{direction_of}
use Rattle.td_netlist.specs.NameViews.{declared_of}
use Rattle.indexmap.proofs.CallerLemmas.{insert_entry-new}
use Rattle.td_netlist.proofs.Found.{found_in, none_found}
use Rattle.td_netlist.proofs.directions.Directions.add.Goals as goal

pub returns : goal.returns
returns c =
    let absent = none_found c.args.name.name.now _ (found_in c.args.name.name.now c.self.inside.table.entries ∙ ap (λ (ds : List Declared). direction_of ds (name_view c.args.name)) c.self.view_is ∙ c.requires) in
    ap (λ (es : List _). map declared_of es) (c.in_ok-insert.ensures.entries ∙ insert_entry-new _ c.self.inside.table c.args.name.name _ absent)
    ∙ map_push declared_of c.self.inside.table.entries _
    ∙ ap (λ (ds : List Declared). ds ++ record { role = c.args.role; range = c.args.range; name = name_view c.args.name } ∷ []) c.self.view_is
