use Rattle.std.proofs.Common.{List, subst, take_all}
use Rattle.std.specs.List.{flat_map}
use Rattle.td_lines.specs.declared.terms.Term.{Term}
use Rattle.td_lines.specs.Said.{term_tokens}
use Rattle.td_lines.specs.Values.{Adds}
use Rattle.td_lines.proofs.Steps.{terms_closed}
use Rattle.td_lines.proofs.asked.terms_ended.Goals as goal

pub returns : goal.returns
returns c =
    terms_closed c.end_object.result c.args.writer.now c.loop-one.writer c.end_object.new.self c.args.terms.now
    (subst (λ (terms : List Term). Adds c.args.writer.now c.loop-one.writer (flat_map term_tokens terms))
    (take_all c.loop-one.one-index c.args.terms.now c.loop-one-test.false) c.loop-one.invariant)
    c.end_object.ensures
