-- The text of the certificate of an exact answer.
use Rattle.td_certificate.specs.declared.certificate.Certificate.{Certificate}
use Rattle.td_certificate.specs.Faults.{IsWithinLimit}
use Rattle.td_certificate.specs.Lengths.{CanTell}
use Rattle.td_certificate.specs.Questions.{Terms}
use Rattle.td_certificate.specs.Spelling.{HasSpelling, spelling}
use Rattle.std.specs.Prelude.{Option}
use Rattle.td_search.specs.declared.answers.Answer.{Answer}
use Rattle.td_search.specs.declared.answers.Answer.TheVariants as answer
use Rattle.td_search.specs.Problems.{Problem}
use Rattle.td_search.specs.Answers.{certificate_by}

-- the certificate has a text, which is within the limit
abbrev pub HasText : Certificate → Type 0
HasText c = HasSpelling c × IsWithinLimit (spelling c)

-- the certificate of an exact answer has a text, with whatever terms can tell its tree
abbrev pub CanBeWritten : Problem → Answer → Type 0
CanBeWritten asked (answer.Exact time pair tree) = (terms : Option Terms) → CanTell tree terms → HasText (certificate_by terms asked time pair tree)
CanBeWritten asked (answer.Between low high pair nodes why) = Unit {0}
