use Rattle.std.proofs.Common.{Ok, ap, ◌∙◌, add-one, arith}
use Rattle.std.proofs.lemmas.Result.{err_from_is_err_and}
use Rattle.td_syntax.proofs.Counting.{shorter, one_counted, all_counted, none_counted, none_yet}
use Rattle.td_syntax.proofs.parser.Parser.attributes.Goals as goal

pub attributes-init : goal.attributes-init
attributes-init c = record { counted = none_yet c.args.self.now; within = omega (arith, c.is_within.ensures) }

pub attributes-smaller : goal.attributes-smaller
attributes-smaller c =
    let e = c.in_ok-maybe_attribute.ensures ∙ ap (λ (o : _). Ok (o, c.maybe_attribute.new.self)) c.in-Some.is in
    shorter c.attributes.self c.maybe_attribute.new.self tt e

pub attributes-preserved : goal.attributes-preserved
attributes-preserved c =
    let e = c.in_ok-maybe_attribute.ensures ∙ ap (λ (o : _). Ok (o, c.maybe_attribute.new.self)) c.in-Some.is in
    record {
      counted = rw add-one (one_counted c.attributes.count c.attributes.self c.maybe_attribute.new.self c.args.self.now tt e c.attributes.invariant.counted);
      within = omega (arith, c.attributes.invariant.within, shorter c.attributes.self c.maybe_attribute.new.self tt e);
    }

pub returns-in-None : goal.returns-in-None
returns-in-None c =
    let e = c.in_ok-maybe_attribute.ensures ∙ ap (λ (o : _). Ok (o, c.maybe_attribute.new.self)) c.in-None.is in
    all_counted c.attributes.count c.attributes.self c.maybe_attribute.new.self c.args.self.now e c.attributes.invariant.counted

pub returns-in_err-maybe_attribute : goal.returns-in_err-maybe_attribute
returns-in_err-maybe_attribute c =
    let p = err_from_is_err_and c.from_residual.result c.from_residual.ensures.1 in
    rw (p.1, p.2) (none_counted c.in_err-maybe_attribute.field-0.0 c.attributes.count c.attributes.self c.args.self.now c.in_err-maybe_attribute.ensures c.attributes.invariant.counted)
