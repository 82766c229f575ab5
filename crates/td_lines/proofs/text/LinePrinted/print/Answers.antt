use Rattle.td_lines.proofs.text.LinePrinted.print.Goals as goal

pub returns-in-UncheckedBetween : goal.returns-in-UncheckedBetween
returns-in-UncheckedBetween c = rw c.in-UncheckedBetween.is c.figures-in-UncheckedBetween.ensures
