use Rattle.std.proofs.Common.{ap, sym, length, ◌∙◌}
use Rattle.std.proofs.lemmas.List.{length-map}
use Rattle.td_nets.specs.Views.{name_of}
use Rattle.td_source.proofs.Keeping.{named_are}
use Rattle.td_source.proofs.source.outputs_of.Goals as goal

pub returns-clause-some : goal.returns-clause-some
returns-clause-some c =
    named_are c.args.netlist.now c.args.words.now _ c.deref.result.now c.in_ok-places.places.items c.if-is_empty.ensures
    (sym (length-map c.outputs.result.now name_of) ∙ ap length c.outputs.ensures)
    (rw (c.in-Some.is, sym c.deref.ensures.value) at c.in_ok-found.ensures.some) c.in_ok-places.ensures
