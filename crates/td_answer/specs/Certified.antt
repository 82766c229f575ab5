-- What is true of the certificate of an outcome.
use Rattle.std.specs.Prelude.{◌≡◌, ◌⊎◌, ◌||◌, ℕ, Bool, true, List, Option, Some, None}
use Rattle.std.specs.List.{Contains}
use Rattle.td_nets.specs.Netlist.{Netlist}
use Rattle.td_reading.specs.declared.reading.Reading.{Reading}
use Rattle.td_source.specs.Reads.{AreOutputsOf}
use Rattle.td_certificate.specs.declared.certificate.Certificate.{Certificate}
use Rattle.td_certificate.specs.declared.certificate.Claim.{Claim}
use Rattle.td_certificate.specs.Accepts.{Accepts, setting_of}
use Rattle.td_certificate.specs.Questions.{Terms}
use Rattle.td_checker.specs.Checks.{told_by}
use Rattle.td_search.specs.Written.{HasText}
use Rattle.td_lines.specs.declared.line.Line.{Line}
use Rattle.td_lines.specs.declared.line.Line.TheVariants as line
use Rattle.td_request.specs.declared.request.Search.{Search}
use Rattle.td_question.specs.Asking.{IsAsked}
use Rattle.td_answer.specs.Requirements.{is_decided}

-- where it tells how the netlist is read, it is read so
abbrev pub AreTermsOf : List ℕ → Reading → Option Terms → Type 0
AreTermsOf text reading None = Unit {0}
AreTermsOf text reading (Some terms) = (outputs : Option (List ℕ)) × AreOutputsOf text reading outputs × (terms ≡ told_by reading outputs)

-- whether an open answer with these figures has a certificate, where there is one
abbrev pub wants_open : Search → ℕ → ℕ → Bool
wants_open search low high = search.between || is_decided search.required low high

-- it claims what is printed: the worst delay, or both figures of an answer that stays open, which is
-- asked for
abbrev pub ClaimsPrinted : Search → List Line → Claim → Type 0
ClaimsPrinted search report claim = ((claim.high ≡ claim.time) × Contains report (line.Exact claim.time))
    ⊎ ((wants_open search claim.time claim.high ≡ true) × Contains report (line.Between claim.time claim.high))

-- it is about what the request asks, claims what is printed, is accepted, and has a text
-- within the limit
pub record IsShown (text : List ℕ) (reading : Reading) (search : Search) (report : List Line) (certificate : Certificate) : Type 0 where
  pub netlist : Netlist
  pub asked : IsAsked text reading search.question (setting_of netlist certificate) certificate.question.admit
  pub terms : AreTermsOf text reading certificate.question.terms
  pub claim : Claim
  pub claims : certificate.claim ≡ Some claim
  pub tells : ClaimsPrinted search report claim
  pub accepted : Accepts netlist certificate
  pub written : HasText certificate

-- the report says that the worst delay stays open
abbrev pub SaysBetween : List Line → Type 0
SaysBetween report = (low : ℕ) × (high : ℕ) × Contains report (line.Between low high)

-- an exact answer has one
abbrev pub IsCertified : List ℕ → Reading → Search → List Line → Option Certificate → Type 0
IsCertified text reading search report (Some certificate) = IsShown text reading search report certificate
IsCertified text reading search report None = SaysBetween report
