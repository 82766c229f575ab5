use Rattle.std.proofs.Common.{length, sym, ◌∙◌, ap}
use Rattle.td_spans.proofs.Packings.{decoded_length}
use Rattle.td_spans.proofs.variables.Variables.len.Goals as goal

pub returns : goal.returns
returns c =
    c.len.ensures
    ∙ (c.self.inside.layouts.ok.0
    ∙ (sym (decoded_length c.self.inside.words.items c.self.inside.layouts.items c.self.inside.numbers.items c.self.invariant)
    ∙ ap (λ list. length list) c.self.view_is))
