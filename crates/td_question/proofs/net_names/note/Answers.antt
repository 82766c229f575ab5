use Rattle.std.proofs.Common.{◌∙◌, ◌<◌, length, arith, refl, sym, ap}
use Rattle.std.specs.Prelude.{not}
use Rattle.td_question.proofs.NetNames.{place_within, none_here, some_here, noted_none, noted_new, noted_earlier}
use Rattle.td_question.proofs.net_names.note.Goals as goal

pub returns-in_default : goal.returns-in_default
returns-in_default c = noted_none c.args.names.now c.args.text.now c.args.number c.args.numbers.now.items (sym c.place_of.ensures ∙ c.in_default.is)

pub index-requires : goal.index-requires
index-requires c =
    omega (
      arith,
      c.requires,
      c.args.numbers.now.ok,
      place_within c.args.names.now c.args.text.now c.in-Some.place (sym c.place_of.ensures ∙ c.in-Some.is),
    )

pub index_mut-requires : goal.index_mut-requires
index_mut-requires c =
    omega (
      arith,
      c.requires,
      c.args.numbers.now.ok,
      place_within c.args.names.now c.args.text.now c.in-Some.place (sym c.place_of.ensures ∙ c.in-Some.is),
    )

pub returns-then-is_none : goal.returns-then-is_none
returns-then-is_none c =
    let is = sym c.place_of.ensures ∙ c.in-Some.is in
    let low : c.in-Some.place < length c.args.numbers.now.items =
    omega (arith, c.requires, place_within c.args.names.now c.args.text.now c.in-Some.place is) in
    noted_new c.args.names.now c.args.text.now c.args.number c.in-Some.place is c.args.numbers.now.items _ c.requires
    (none_here c.args.numbers.now.items c.in-Some.place c.index.result.now low c.index.ensures (c.is_none.ensures ∙ ap not c.if-is_none.true)) refl

pub returns-else-is_none : goal.returns-else-is_none
returns-else-is_none c =
    let is = sym c.place_of.ensures ∙ c.in-Some.is in
    let low : c.in-Some.place < length c.args.numbers.now.items =
    omega (arith, c.requires, place_within c.args.names.now c.args.text.now c.in-Some.place is) in
    let earlier = some_here c.args.numbers.now.items c.in-Some.place c.index.result.now low c.index.ensures (c.is_none.ensures ∙ ap not c.if-is_none.false) in
    noted_earlier c.args.names.now c.args.text.now c.args.number c.in-Some.place is c.args.numbers.now.items earlier.0 earlier.1
