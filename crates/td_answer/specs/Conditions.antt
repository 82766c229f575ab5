-- What is true of the outcome of a search, with conditions or without.
use Rattle.std.specs.Prelude.{ℕ, Bool, true, false, List, Option}
use Rattle.td_reading.specs.declared.reading.Reading.{Reading}
use Rattle.td_certificate.specs.declared.certificate.Certificate.{Certificate}
use Rattle.td_lines.specs.declared.line.Line.{Line}
use Rattle.td_request.specs.declared.request.Search.{Search}
use Rattle.td_answer.specs.Certified.{IsCertified}
use Rattle.td_answer.specs.Kept.{has_conditions, IsTrueKept, IsCertifiedAmong}
use Rattle.td_answer.specs.Sentences.{IsTrueWorst}
use Rattle.td_answer.specs.declared.outcome.Outcome.{Outcome}

-- of all admitted pairs, or of those that keep conditions
abbrev pub IsTrueBy : Bool → List ℕ → Reading → Search → Outcome → Type 0
IsTrueBy false text reading search outcome = IsTrueWorst text reading search outcome
IsTrueBy true text reading search outcome = IsTrueKept text reading search outcome

abbrev pub IsTrueSearch : List ℕ → Reading → Search → Outcome → Type 0
IsTrueSearch text reading search outcome = IsTrueBy (has_conditions search.question) text reading search outcome

abbrev pub IsCertifiedBy : Bool → List ℕ → Reading → Search → List Line → Option Certificate → Type 0
IsCertifiedBy false text reading search report certificate = IsCertified text reading search report certificate
IsCertifiedBy true text reading search report certificate = IsCertifiedAmong text reading search report certificate

abbrev pub IsCertifiedFor : List ℕ → Reading → Search → List Line → Option Certificate → Type 0
IsCertifiedFor text reading search report certificate = IsCertifiedBy (has_conditions search.question) text reading search report certificate
