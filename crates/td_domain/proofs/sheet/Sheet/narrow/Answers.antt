use Rattle.std.proofs.Common.{◌≡◌, ◌∙◌, ◌/◌, ◌++◌, ◌∷◌, [], length, set, take, drop, sym, ap, subst, arith}
use Rattle.std.proofs.lemmas.List.{length-set}
use Rattle.std.specs.Prelude.{slice_get}
use Rattle.td_gates.proofs.Places.{slice_get-some}
use Rattle.td_domain.specs.declared.cubes.Trit.TheVariants.{Free}
use Rattle.td_domain.specs.Sheets.{Shown, page_of, IsPage}
use Rattle.td_domain.proofs.Sheeting.{written, free-again, few-reached, cones-kept, pages-more, undoable-more, still-sheet}
use Rattle.td_domain.proofs.sheet.Sheet.narrow.Goals as goal

pub overflow_cast-count : goal.overflow_cast-count
overflow_cast-count g c =
    let few = few-reached c.args.circuit.now c.requires.sheet.numbering _ c.in_ok-cone.cone.items c.in_ok-cone.ensures.cone in
    omega (arith, few, c.len-count.ensures, c.in_ok-cone.cone.ok)

pub index_mut-requires : goal.index_mut-requires
index_mut-requires g c =
    let here = slice_get-some c.args.self.now.cube c.args.position Free c.requires.free in
    let count : length c.self.inside.cones.items ≡ length c.args.circuit.now.netlist.inputs =
    ap (λ (s : Shown _). length s.cones) c.self.view_is ∙ c.requires.sheet.cones.count in
    omega (arith, here, count, c.requires.sheet.page.positions, ap length c.deref_mut.ensures.value, c.deref_mut.ensures.len)

pub redo-redone-requires-clause-page : goal.redo-redone-requires-clause-page
redo-redone-requires-clause-page g c =
    let free : set c.set.new.self c.args.position Free ≡ c.self.inside.cube =
    ap (λ q. set q c.args.position Free) c.set.ensures
    ∙ free-again c.self.inside.cube c.args.position c.known.result (ap (λ (s : Shown _). slice_get s.cube c.args.position) c.self.view_is ∙ c.requires.free) in
    rw (free, c.deref_mut-2.ensures.value) (subst (λ (s : Shown _). IsPage g.D.Domain.functions g.D.Domain.reach c.args.circuit.now (page_of s))
    (sym c.self.view_is) c.requires.sheet.page)

pub invariant_of-self-in-Ok : goal.invariant_of-self-in-Ok
invariant_of-self-in-Ok g c =
    let signals : take c.self.inside.signals.len (c.redo-redone.new.signals ++ drop (length c.redo-redone.new.signals) c.self.inside.signals.items) ≡ c.redo-redone.new.signals =
    written c.self.inside.signals.items c.redo-redone.new.signals c.self.inside.signals.len
    (c.redo-redone.ensures.len ∙ ap length c.deref_mut-2.ensures.value) (omega (arith, ap length c.deref_mut-2.ensures.value, c.deref_mut-2.ensures.len)) in
    let count : length c.redo-redone.new.signals ≡ length c.self.inside.signals.items = c.redo-redone.ensures.len ∙ ap length c.deref_mut-2.ensures.value in
    let positions : length c.set.new.self ≡ length c.self.inside.cube = ap length c.set.ensures ∙ length-set c.self.inside.cube c.args.position c.known.result in
    let here = slice_get-some c.args.self.now.cube c.args.position Free c.requires.free in
    let cube : c.self.inside.cube ≡ c.args.self.now.cube = ap (λ (s : Shown _). s.cube) c.self.view_is in
    let marks : take c.self.inside.changed.len (c.redo-redone.new.changed ++ drop (length c.redo-redone.new.changed) c.self.inside.changed.items) ≡ c.redo-redone.new.changed =
    written c.self.inside.changed.items c.redo-redone.new.changed c.self.inside.changed.len
    (c.redo-redone.ensures.marks ∙ ap length c.deref_mut-3.ensures.value) (omega (arith, ap length c.deref_mut-3.ensures.value, c.deref_mut-3.ensures.len)) in
    let marks_count : length c.redo-redone.new.changed ≡ length c.self.inside.signals.items = c.redo-redone.ensures.marks ∙ ap length c.deref_mut-3.ensures.value ∙ c.self.invariant.2 in
    rw (signals, count, positions, marks) (
      undoable-more (length c.self.inside.cube) (length c.self.inside.signals.items) c.args.position c.in-Ok.replaced
          c.self.inside.narrowings.items c.push_reserved.new.self.items
          (c.push_reserved.ensures.items ∙ ap (λ ns. ns ++ record { position = c.args.position; replaced = c.in-Ok.replaced } ∷ []) c.reserve.ensures.items)
          (omega (arith, here, ap length cube)) (rw c.deref_mut-2.ensures.value at c.in-Ok.ensures.within) c.self.invariant.0,
      c.self.invariant.1,
      marks_count,
    )

pub set-requires-in-Err : goal.set-requires-in-Err
set-requires-in-Err g c =
    let here = slice_get-some c.args.self.now.cube c.args.position Free c.requires.free in
    let cube : c.self.inside.cube ≡ c.args.self.now.cube = ap (λ (s : Shown _). s.cube) c.self.view_is in
    rw c.set.ensures (omega (arith, here, ap length cube, length-set c.self.inside.cube c.args.position c.known.result))

pub invariant_of-self-in-Err : goal.invariant_of-self-in-Err
invariant_of-self-in-Err g c =
    let signals : take c.self.inside.signals.len (c.redo-redone.new.signals ++ drop (length c.redo-redone.new.signals) c.self.inside.signals.items) ≡ c.redo-redone.new.signals =
    written c.self.inside.signals.items c.redo-redone.new.signals c.self.inside.signals.len
    (c.redo-redone.ensures.len ∙ ap length c.deref_mut-2.ensures.value) (omega (arith, ap length c.deref_mut-2.ensures.value, c.deref_mut-2.ensures.len)) in
    let count : length c.redo-redone.new.signals ≡ length c.self.inside.signals.items = c.redo-redone.ensures.len ∙ ap length c.deref_mut-2.ensures.value in
    let positions : length c.set-in-Err.new.self ≡ length c.self.inside.cube =
    ap length c.set-in-Err.ensures ∙ length-set c.set.new.self c.args.position Free ∙ ap length c.set.ensures ∙ length-set c.self.inside.cube c.args.position c.known.result in
    let marks : take c.self.inside.changed.len (c.redo-redone.new.changed ++ drop (length c.redo-redone.new.changed) c.self.inside.changed.items) ≡ c.redo-redone.new.changed =
    written c.self.inside.changed.items c.redo-redone.new.changed c.self.inside.changed.len
    (c.redo-redone.ensures.marks ∙ ap length c.deref_mut-3.ensures.value) (omega (arith, ap length c.deref_mut-3.ensures.value, c.deref_mut-3.ensures.len)) in
    let marks_count : length c.redo-redone.new.changed ≡ length c.self.inside.signals.items = c.redo-redone.ensures.marks ∙ ap length c.deref_mut-3.ensures.value ∙ c.self.invariant.2 in
    rw (signals, count, positions, c.reserve.ensures.items, marks) (c.self.invariant.0, c.self.invariant.1, marks_count)

pub returns-in-Ok-clause-sheet : goal.returns-in-Ok-clause-sheet
returns-in-Ok-clause-sheet g c =
    let signals : take c.self.inside.signals.len (c.redo-redone.new.signals ++ drop (length c.redo-redone.new.signals) c.self.inside.signals.items) ≡ c.redo-redone.new.signals =
    written c.self.inside.signals.items c.redo-redone.new.signals c.self.inside.signals.len
    (c.redo-redone.ensures.len ∙ ap length c.deref_mut-2.ensures.value) (omega (arith, ap length c.deref_mut-2.ensures.value, c.deref_mut-2.ensures.len)) in
    let cones : take c.self.inside.cones.len (c.taken_cone.new.cones ++ drop (length c.taken_cone.new.cones) c.self.inside.cones.items) ≡ c.taken_cone.new.cones =
    written c.self.inside.cones.items c.taken_cone.new.cones c.self.inside.cones.len
    (c.taken_cone.ensures.cones.count ∙ sym c.requires.sheet.cones.count ∙ sym (ap (λ (s : Shown _). length s.cones) c.self.view_is))
    (omega (arith, ap length c.deref_mut.ensures.value, c.deref_mut.ensures.len)) in
    let free : set c.set.new.self c.args.position Free ≡ c.self.inside.cube =
    ap (λ q. set q c.args.position Free) c.set.ensures
    ∙ free-again c.self.inside.cube c.args.position c.known.result (ap (λ (s : Shown _). slice_get s.cube c.args.position) c.self.view_is ∙ c.requires.free) in
    let wider = pages-more c.set.new.self c.self.inside.cube c.redo-redone.new.signals c.self.inside.signals.items c.args.position c.in-Ok.replaced
    c.self.inside.narrowings.items c.push_reserved.new.self.items free (c.in-Ok.ensures.undone ∙ c.deref_mut-2.ensures.value)
    (c.push_reserved.ensures.items ∙ ap (λ ns. ns ++ record { position = c.args.position; replaced = c.in-Ok.replaced } ∷ []) c.reserve.ensures.items)
    ∙ ap (λ (s : Shown _). page_of s ∷ s.wider) c.self.view_is in
    record {
      numbering = c.requires.sheet.numbering;
      fit = c.requires.sheet.fit;
      page = rw signals c.in-Ok.ensures.page;
      wider = rw (signals, wider) (c.requires.sheet.page, c.requires.sheet.wider);
      outputs = ap (λ (s : Shown _). s.outputs) c.self.view_is ∙ c.requires.sheet.outputs;
      cones = rw cones (cones-kept c.args.circuit.now c.taken_cone.new.cones (c.args.position / 2) c.in_ok-cone.cone c.kept.result
          c.taken_cone.ensures.cones c.in_ok-cone.ensures.cone c.kept.ensures);
    }

pub returns-in-Ok-clause-narrowed : goal.returns-in-Ok-clause-narrowed
returns-in-Ok-clause-narrowed g c =
    let signals : take c.self.inside.signals.len (c.redo-redone.new.signals ++ drop (length c.redo-redone.new.signals) c.self.inside.signals.items) ≡ c.redo-redone.new.signals =
    written c.self.inside.signals.items c.redo-redone.new.signals c.self.inside.signals.len
    (c.redo-redone.ensures.len ∙ ap length c.deref_mut-2.ensures.value) (omega (arith, ap length c.deref_mut-2.ensures.value, c.deref_mut-2.ensures.len)) in
    let free : set c.set.new.self c.args.position Free ≡ c.self.inside.cube =
    ap (λ q. set q c.args.position Free) c.set.ensures
    ∙ free-again c.self.inside.cube c.args.position c.known.result (ap (λ (s : Shown _). slice_get s.cube c.args.position) c.self.view_is ∙ c.requires.free) in
    let wider = pages-more c.set.new.self c.self.inside.cube c.redo-redone.new.signals c.self.inside.signals.items c.args.position c.in-Ok.replaced
    c.self.inside.narrowings.items c.push_reserved.new.self.items free (c.in-Ok.ensures.undone ∙ c.deref_mut-2.ensures.value)
    (c.push_reserved.ensures.items ∙ ap (λ ns. ns ++ record { position = c.args.position; replaced = c.in-Ok.replaced } ∷ []) c.reserve.ensures.items)
    ∙ ap (λ (s : Shown _). page_of s ∷ s.wider) c.self.view_is in
    record {
      cube = c.set.ensures ∙ ap (λ (s : Shown _). set s.cube c.args.position c.known.result) c.self.view_is
          ∙ ap (λ t. set c.args.self.now.cube c.args.position t) c.known.ensures;
      wider = rw signals wider;
      cone = c.in_ok-cone.cone.items;
      is_cone = c.in_ok-cone.ensures.cone;
      redone = omega (arith, c.len-count.ensures, c.in_ok-cone.cone.ok);
    }

pub returns-in-Err-clause-refused : goal.returns-in-Err-clause-refused
returns-in-Err-clause-refused g c =
    let signals : take c.self.inside.signals.len (c.redo-redone.new.signals ++ drop (length c.redo-redone.new.signals) c.self.inside.signals.items) ≡ c.redo-redone.new.signals =
    written c.self.inside.signals.items c.redo-redone.new.signals c.self.inside.signals.len
    (c.redo-redone.ensures.len ∙ ap length c.deref_mut-2.ensures.value) (omega (arith, ap length c.deref_mut-2.ensures.value, c.deref_mut-2.ensures.len)) in
    let free : set c.set.new.self c.args.position Free ≡ c.self.inside.cube =
    ap (λ q. set q c.args.position Free) c.set.ensures
    ∙ free-again c.self.inside.cube c.args.position c.known.result (ap (λ (s : Shown _). slice_get s.cube c.args.position) c.self.view_is ∙ c.requires.free) in
    let cube : c.set-in-Err.new.self ≡ c.self.inside.cube = c.set-in-Err.ensures ∙ free in
    let same : c.redo-redone.new.signals ≡ c.self.inside.signals.items = c.in-Err.ensures.refused ∙ c.deref_mut-2.ensures.value in
    record {
      cube = cube ∙ ap (λ (s : Shown _). s.cube) c.self.view_is;
      signals = signals ∙ same ∙ ap (λ (s : Shown _). s.signals) c.self.view_is;
      wider = rw (cube, signals, same, c.reserve.ensures.items) (ap (λ (s : Shown _). s.wider) c.self.view_is);
    }

pub returns-in-Err-clause-sheet : goal.returns-in-Err-clause-sheet
returns-in-Err-clause-sheet g c =
    let cones : take c.self.inside.cones.len (c.taken_cone.new.cones ++ drop (length c.taken_cone.new.cones) c.self.inside.cones.items) ≡ c.taken_cone.new.cones =
    written c.self.inside.cones.items c.taken_cone.new.cones c.self.inside.cones.len
    (c.taken_cone.ensures.cones.count ∙ sym c.requires.sheet.cones.count ∙ sym (ap (λ (s : Shown _). length s.cones) c.self.view_is))
    (omega (arith, ap length c.deref_mut.ensures.value, c.deref_mut.ensures.len)) in
    still-sheet g.D.Domain.functions g.D.Domain.reach c.args.circuit.now c.args.self.now _ c.requires.sheet
    (returns-in-Err-clause-refused g c) (ap (λ (s : Shown _). s.outputs) c.self.view_is)
    (rw cones (cones-kept c.args.circuit.now c.taken_cone.new.cones (c.args.position / 2) c.in_ok-cone.cone c.kept.result
    c.taken_cone.ensures.cones c.in_ok-cone.ensures.cone c.kept.ensures))

pub returns-in-Err-clause-counted : goal.returns-in-Err-clause-counted
returns-in-Err-clause-counted g c = ap (λ (s : Shown _). s.redone) c.self.view_is
