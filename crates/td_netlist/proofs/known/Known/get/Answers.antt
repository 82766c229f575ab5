use Rattle.std.proofs.Common.{◌≡◌, ◌∙◌, ap, List, Option}
use Rattle.td_netlist.specs.declared.ranges.Range.{Range}
use Rattle.td_netlist.specs.Checks.{Known, known}
use Rattle.td_netlist.specs.KnownViews.{known_of, known_as}
use Rattle.std.specs.Prelude.{map}
use Rattle.td_netlist.proofs.KnownNames.{known_in, limited_found}
use Rattle.td_netlist.proofs.known.Known.get.Goals as goal

pub returns-clause-value : goal.returns-clause-value
returns-clause-value c =
    ap (λ (o : Option (Option Range)). known_as c.args.name.name.now o) (c.copied.ensures ∙ c.get.ensures.value)
    ∙ known_in c.args.name.name.now c.self.inside.table.entries
    ∙ ap (λ (ks : List Known). known ks c.args.name.name.now) c.self.view_is

pub returns-clause-limited : goal.returns-clause-limited
returns-clause-limited c =
    let found : known_as c.args.name.name.now c.copied.result ≡ known (map known_of c.self.inside.table.entries) c.args.name.name.now =
    ap (λ (o : Option (Option Range)). known_as c.args.name.name.now o) (c.copied.ensures ∙ c.get.ensures.value) ∙ known_in c.args.name.name.now c.self.inside.table.entries in
    limited_found (map known_of c.self.inside.table.entries) c.args.name.name.now c.copied.result c.self.invariant.2 found
