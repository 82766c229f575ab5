use Rattle.std.proofs.Common.{◌≡◌, get_or, drop, sym, subst, suc, add-one, drop-cons, ◌∙◌}
use Rattle.std.proofs.lemmas.List.{drop_all}
use Rattle.td_syntax.specs.declared.attribute.Place.TheVariants.{Plain}
use Rattle.td_syntax.specs.Lexical.{end_behind}
use Rattle.td_syntax.proofs.Attributes.{later, at_begin, goes_on, closes_here, never_closes}
use Rattle.td_syntax.proofs.attribute.attribute_len.Goals as goal

pub loop-i-init : goal.loop-i-init
loop-i-init c = at_begin (end_behind Plain c.args.text.now)

pub loop-i-preserved : goal.loop-i-preserved
loop-i-preserved c =
    let bytes = c.args.text.now in
    let i = c.loop-i.i in
    let split = subst (λ (bs : _). later i (end_behind c.loop-i.place bs) ≡ end_behind Plain bytes) (drop-cons bytes i 0 c.loop-i-test.true) c.loop-i.invariant in
    rw (add-one, c.behind-place.ensures) (goes_on c.loop-i.place i (get_or bytes i 0) (drop (suc i) bytes) (end_behind Plain bytes) (sym c.closes.ensures ∙ c.if-closes.false) split)

pub returns-then-closes-clause-place : goal.returns-then-closes-clause-place
returns-then-closes-clause-place c =
    let bytes = c.args.text.now in
    let i = c.loop-i.i in
    let split = subst (λ (bs : _). later i (end_behind c.loop-i.place bs) ≡ end_behind Plain bytes) (drop-cons bytes i 0 c.loop-i-test.true) c.loop-i.invariant in
    rw add-one (closes_here c.loop-i.place i (get_or bytes i 0) (drop (suc i) bytes) (end_behind Plain bytes) (sym c.closes.ensures ∙ c.if-closes.true) split)

pub returns-clause-place : goal.returns-clause-place
returns-clause-place c =
    let bytes = c.args.text.now in
    never_closes c.loop-i.place c.loop-i.i (end_behind Plain bytes) (subst (λ (bs : _). later c.loop-i.i (end_behind c.loop-i.place bs) ≡ end_behind Plain bytes) (drop_all c.loop-i.i bytes c.loop-i-test.false) c.loop-i.invariant)
