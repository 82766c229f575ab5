use Rattle.std.specs.Prelude.{string_bytes}
use Rattle.td_certificate.specs.Spelling.{DefaultField, OutputField}
use Rattle.td_certificate.specs.Plain.{told_line}
use Rattle.td_certificate.proofs.Batches.{eight_pushed}
use Rattle.td_certificate.proofs.plain.tell_lines.Goals as goal

pub returns : goal.returns
returns c =
    eight_pushed (string_bytes c.args.text.now) _ _ _ _ _ _ _ (told_line c.args.question.now DefaultField) (told_line c.args.question.now OutputField) _ _ _ _ _ _
    c.in_ok-tell_terms.ensures c.in_ok-tell_pins.ensures c.in_ok-tell_pins-2.ensures c.in_ok-tell_held.ensures c.in_ok-tell_flips.ensures
    c.in_ok-tell_moments.ensures c.in_ok-tell_keep.ensures
