use Rattle.std.proofs.Common.{◌≡◌, ◌∙◌, ◌++◌, length, set, take, drop, reverse, refl, sym, ap, arith}
use Rattle.td_domain.specs.declared.cubes.Trit.TheVariants.{Free}
use Rattle.td_domain.specs.Sheets.{Shown, pages_before}
use Rattle.td_domain.specs.Undoing.{undone}
use Rattle.td_domain.proofs.Sheeting.{written, pages-more, wider-sheet}
use Rattle.td_domain.proofs.Undoings.{length-undone}
use Rattle.td_domain.proofs.sheet.Sheet.widen.Goals as goal

pub returns-in-Some-clause-sheet : goal.returns-in-Some-clause-sheet
returns-in-Some-clause-sheet g c = λ circuit sheet.
    let wide = set c.self.inside.cube c.in-Some.narrowing.position Free in
    let old = undone c.self.inside.signals.items c.in-Some.narrowing.replaced.items in
    let back : c.undo-space.new.signals ≡ old =
    c.undo-space.ensures.signals ∙ ap (λ xs. undone xs c.in-Some.narrowing.replaced.items) c.deref_mut.ensures.value in
    let now = take c.self.inside.signals.len (c.undo-space.new.signals ++ drop (length c.undo-space.new.signals) c.self.inside.signals.items) in
    let signals : now ≡ c.undo-space.new.signals =
    written c.self.inside.signals.items c.undo-space.new.signals c.self.inside.signals.len
    (ap length back ∙ length-undone c.self.inside.signals.items c.in-Some.narrowing.replaced.items)
    (omega (arith, ap length c.deref_mut.ensures.value, c.deref_mut.ensures.len)) in
    let pages = pages-more c.self.inside.cube wide c.self.inside.signals.items old c.in-Some.narrowing.position c.in-Some.narrowing.replaced
    c.pop.new.self.items c.self.inside.narrowings.items refl refl c.in-Some.ensures.items in
    wider-sheet g.D.Domain.functions g.D.Domain.reach circuit c.args.self.now _ (record { cube = wide; signals = old })
    (pages_before wide old (reverse c.pop.new.self.items)) sheet
    (sym (ap (λ (s : Shown _). s.wider) c.self.view_is) ∙ pages)
    c.set.ensures (signals ∙ back) (ap (λ cube. pages_before cube now (reverse c.pop.new.self.items)) c.set.ensures
    ∙ ap (λ xs. pages_before wide xs (reverse c.pop.new.self.items)) (signals ∙ back))
    (ap (λ (s : Shown _). s.outputs) c.self.view_is) (ap (λ (s : Shown _). s.cones) c.self.view_is)
