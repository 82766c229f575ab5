use Rattle.std.proofs.Common.{◌≡◌, ◌<◌, ◌∙◌, ℕ, List, [], ◌∷◌, ◌++◌, length, map, refl, sym, ap, subst, arith, Some, slice_get}
use Rattle.std.proofs.lemmas.List.{length-map}
use Rattle.std.proofs.lemmas.Option.{slice_get_read}
use Rattle.td_gates.proofs.Places.{some-same}
use Rattle.td_nets.specs.Netlist.{Name, Named}
use Rattle.td_nets.specs.Views.{name_of}
use Rattle.td_circuit.specs.Numbering.{setting, with_named_outputs}
use Rattle.td_source.specs.Each.{Asking, alone}
use Rattle.td_source.proofs.OneOutput.{named_there, one_can, can_again}
use Rattle.td_source.proofs.each_output.EachOutput.ask.Goals as goal

pub set_outputs-requires : goal.set_outputs-requires
set_outputs-requires c =
    let stands : c.args.place < length (map name_of c.self.inside.names.items) =
    subst (λ (asking : Asking). c.args.place < length asking.whole.netlist.outputs) (sym c.self.view_is) c.requires in
    let within : c.args.place < length c.self.inside.names.items = omega (arith, length-map c.self.inside.names.items name_of, stands) in
    let in_nets : c.args.place < length c.self.inside.nets.items =
    omega (arith, c.self.invariant.named.count, length-map (map name_of c.self.inside.names.items) (λ (n : Name). Named n), stands) in
    let names_are = ap (map name_of) (c.in_ok-push.ensures.items ∙ ap (λ xs. xs ++ c.in_ok-copied.field-0 ∷ []) c.new-names.ensures.items)
    ∙ ap (λ n. n ∷ []) c.in_ok-copied.ensures in
    let nets_are = c.in_ok-push-2.ensures.items ∙ ap (λ (xs : List ℕ). xs ++ c.index-2.result.now ∷ []) c.new-nets.ensures.items in
    rw (names_are, nets_are) (one_can c.self.inside.circuit (map name_of c.self.inside.names.items) c.self.inside.nets.items c.args.place (name_of c.index.result.now) c.index-2.result.now c.self.invariant
    (named_there c.self.inside.names.items c.args.place c.index.result.now within c.index.ensures)
    (slice_get_read c.self.inside.nets.items (length c.self.inside.nets.items) c.args.place c.index-2.result.now refl in_nets c.index-2.ensures))

pub invariant_of-self : goal.invariant_of-self
invariant_of-self c =
    rw c.set_outputs.ensures (can_again c.self.inside.circuit (map name_of c.self.inside.names.items) _ c.self.inside.nets.items _ c.self.invariant)

pub returns-clause-asked : goal.returns-clause-asked
returns-clause-asked c = λ name at_name.
    let stands : c.args.place < length (map name_of c.self.inside.names.items) =
    subst (λ (asking : Asking). c.args.place < length asking.whole.netlist.outputs) (sym c.self.view_is) c.requires in
    let within : c.args.place < length c.self.inside.names.items = omega (arith, length-map c.self.inside.names.items name_of, stands) in
    let at = named_there c.self.inside.names.items c.args.place c.index.result.now within c.index.ensures in
    let names_are = ap (map name_of) (c.in_ok-push.ensures.items ∙ ap (λ xs. xs ++ c.in_ok-copied.field-0 ∷ []) c.new-names.ensures.items)
    ∙ ap (λ n. n ∷ []) c.in_ok-copied.ensures in
    let there = subst (λ (asking : Asking). slice_get asking.whole.netlist.outputs c.args.place ≡ Some name) (sym c.self.view_is) at_name in
    subst (λ (asking : Asking). setting c.set_outputs.new.self ≡ alone (setting asking.whole) name) c.self.view_is
    (ap setting c.set_outputs.ensures
    ∙ ap (λ (ns : List Name). setting (with_named_outputs c.self.inside.circuit ns c.push-2.new.self.items))
    (names_are ∙ ap (λ (n : Name). n ∷ []) (some-same (name_of c.index.result.now) name (sym at ∙ there))))
