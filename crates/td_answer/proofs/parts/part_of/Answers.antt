use Rattle.td_answer.proofs.Naming.{four_made}
use Rattle.td_answer.proofs.parts.part_of.Goals as goal

pub returns : goal.returns
returns c =
    four_made _ _ _ _ _ _ _ _ _ c.new-words.ensures.items c.in_ok-push_pins.ensures c.in_ok-push_asked.ensures
    c.in_ok-push_conditions.ensures c.in_ok-push_reading.ensures
