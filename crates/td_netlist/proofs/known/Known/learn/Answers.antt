use Rattle.std.proofs.Common.{◌≡◌, ◌+◌, ◌≤◌, ◌∙◌, ◌++◌, ◌∷◌, [], Ok, sym, ap, List, map, arith}
use Rattle.std.proofs.lemmas.List.{map_push}
use Rattle.indexmap.proofs.CallerLemmas.{insert_entry-new}
use Rattle.td_syntax.specs.Views.{name_view}
use Rattle.td_netlist.specs.Checks.{Known, known, nets_known}
use Rattle.td_netlist.specs.Ranges.{width_of}
use Rattle.td_netlist.specs.KnownViews.{known_of}
use Rattle.td_netlist.proofs.KnownNames.{known_in, none_known, nets_more, know_new, limited_push}
use Rattle.td_netlist.proofs.known.Known.learn.Goals as goal

pub invariant_of-self-2 : goal.invariant_of-self-2
invariant_of-self-2 c =
    let text = c.args.name.name.now in
    let entries = c.self.inside.table.entries in
    let absent = none_known text _ (known_in text entries ∙ ap (λ (ks : List Known). known ks text) c.self.view_is ∙ c.requires.unknown) in
    let added = ap (λ (es : List _). map known_of es) (c.in_ok-insert.ensures.entries ∙ insert_entry-new _ c.self.inside.table c.args.name.name _ absent) ∙ map_push known_of entries _ in
    let more = nets_more (map known_of entries) (record { text = text; range = c.args.range }) in (
      rw added (omega (arith, more, c.self.invariant.0, c.width_of-width.ensures)),
      omega (arith, c.if-self-width-gt-MAX_NETS.false),
      rw added (limited_push (map known_of entries) (record { text = text; range = c.args.range }) c.self.invariant.2 c.requires.limited),
    )

pub returns : goal.returns
returns c =
    let text = c.args.name.name.now in
    let entries = c.self.inside.table.entries in
    let absent = none_known text _ (known_in text entries ∙ ap (λ (ks : List Known). known ks text) c.self.view_is ∙ c.requires.unknown) in
    let added = ap (λ (es : List _). map known_of es) (c.in_ok-insert.ensures.entries ∙ insert_entry-new _ c.self.inside.table c.args.name.name _ absent) ∙ map_push known_of entries _ in
    let nets : nets_known c.args.self.now ≡ nets_known (map known_of entries) = ap nets_known (sym c.self.view_is) in
    let few : nets_known c.args.self.now + width_of c.args.range ≤ 1000000 = omega (arith, nets, c.self.invariant.0, c.width_of-width.ensures, c.if-self-width-gt-MAX_NETS.false) in
    know_new c.args.self.now (name_view c.args.name) c.args.range c.requires.unknown few
    ∙ ap (λ (ks : List Known). Ok (ks ++ record { text = text; range = c.args.range } ∷ [])) (sym c.self.view_is)
    ∙ ap (λ (ks : List Known). Ok ks) (sym added)
