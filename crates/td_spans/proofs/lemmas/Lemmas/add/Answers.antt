use Rattle.std.proofs.Common.{sym, ◌∙◌}
use Rattle.td_spans.proofs.Bounding.{last_ends}
use Rattle.td_spans.proofs.lemmas.Lemmas.add.Goals as goal

pub invariant_of-self-2 : goal.invariant_of-self-2
invariant_of-self-2 c = record { ended = c.is_nil-self.ensures ∙ sym (last_ends _ _ _ c.in_ok-add.ensures.ok) }
