use Rattle.std.proofs.Common.{◌∙◌, ap, refl, arith, Some}
use Rattle.std.specs.Prelude.{slice_get}
use Rattle.td_spans.proofs.Packings.{lookup_none, lookup_neither, lookup_some}
use Rattle.td_spans.proofs.variables.Variables.get.Goals as goal

pub returns-in-None : goal.returns-in-None
returns-in-None c =
    lookup_none c.self.inside.words.items c.self.inside.layouts.items c.self.inside.numbers.items c.args.number c.self.invariant
    (let it = rw c.deref.ensures.value at c.in-None.ensures.lookup in it.3)
    ∙ ap (λ list. slice_get list c.args.number) c.self.view_is

pub returns-in-None-get : goal.returns-in-None-get
returns-in-None-get c =
    lookup_neither c.self.inside.words.items c.self.inside.layouts.items c.self.inside.numbers.items c.args.number c.self.invariant
    (let it = rw c.deref-in-Some.ensures.value at c.in-None-get.ensures.lookup in it.3)
    ∙ ap (λ list. slice_get list c.args.number) c.self.view_is

pub returns-in-Some-get : goal.returns-in-Some-get
returns-in-Some-get c =
    let at = rw c.deref.ensures.value at c.in-Some.ensures.lookup in
    let is = rw c.deref-in-Some.ensures.value at c.in-Some-get.ensures.lookup in
    ap Some (c.decoded.ensures ∙ rw c.deref-in-Some-get.ensures.value refl)
    ∙ (lookup_some c.self.inside.words.items c.self.inside.layouts.items c.self.inside.numbers.items c.args.number c.in-Some.layout.now c.in-Some-get.it.now (omega arith) at.1 (omega arith) is.1
    ∙ ap (λ list. slice_get list c.args.number) c.self.view_is)
