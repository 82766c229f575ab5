-- Internal: what the certificate of pairs that keep conditions tells besides pairs.
use Rattle.std.specs.Prelude.{option_map}
use Rattle.td_certificate.specs.Questions.{Terms}
use Rattle.td_certificate.specs.Reading.{with_keep}
use Rattle.td_checker.specs.Checks.{told_terms}
use Rattle.td_answer.specs.declared.kept_certificate.Told.{Told}

abbrev pub kept_terms : Told → Terms
kept_terms told = with_keep told.keep.items (told_terms told.default (option_map (λ numbers. numbers.items) told.outputs))
