use Rattle.std.proofs.Common.{take, ◌∙◌, ap}
use Rattle.td_spans.proofs.Packings.{first_within, first_decoded}
use Rattle.td_spans.proofs.variables.Variables.truncate.Goals as goal

pub invariant_of-self : goal.invariant_of-self
invariant_of-self c =
    rw (c.truncate.ensures.items, c.truncate-2.ensures.items)
    (first_within c.self.inside.words.items c.self.inside.layouts.items c.self.inside.numbers.items c.args.count c.self.invariant)

pub returns : goal.returns
returns c =
    rw (c.truncate.ensures.items, c.truncate-2.ensures.items)
    (first_decoded c.self.inside.words.items c.self.inside.layouts.items c.self.inside.numbers.items c.args.count c.self.invariant)
    ∙ ap (λ list. take c.args.count list) c.self.view_is
