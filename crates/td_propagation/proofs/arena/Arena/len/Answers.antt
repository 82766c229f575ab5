use Rattle.std.proofs.Common.{length, map, sym, ◌∙◌, ap}
use Rattle.td_propagation.specs.Literals.{literal_at}
use Rattle.td_propagation.proofs.Parts.{parted_length}
use Rattle.td_propagation.proofs.arena.Arena.len.Goals as goal

pub returns : goal.returns
returns c =
    c.len.ensures
    ∙ (c.self.inside.ends.ok.0
    ∙ (sym (parted_length (map literal_at c.self.inside.numbers.items) 0 c.self.inside.ends.items) ∙ ap (λ list. length list) c.self.view_is))
