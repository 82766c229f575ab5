-- Internal: the certificates of answers.
use Rattle.std.specs.Prelude.{◌≡◌, ℕ, ◌≤◌, true, List, length, Option, Some, IfSome}
use Rattle.std.specs.Global.{Vec}
use Rattle.td_gates.specs.Delays.{Delays}
use Rattle.td_circuit.specs.Settings.{Setting}
use Rattle.td_domain.specs.Admits.{Admitted}
use Rattle.td_lead.specs.declared.timed.Timed.{Timed}
use Rattle.td_refutation.specs.declared.conditions.NamedCondition.{NamedCondition}
use Rattle.td_certificate.specs.declared.certificate.Certificate.{Certificate}
use Rattle.td_certificate.specs.declared.tree.Node.{Node}
use Rattle.td_certificate.specs.Lengths.{HaveFew}
use Rattle.td_certificate.specs.Spelling.{AreConditions, AreTerms}
use Rattle.td_search.specs.declared.answers.Answer.{Answer}
use Rattle.td_search.specs.declared.answers.Answer.TheVariants as answer
use Rattle.td_search.specs.Problems.{Problem}
use Rattle.td_worst.specs.Kept.{asking_by, certificate_with, claim_to, IsCertifiedAmong}
use Rattle.td_request.specs.declared.request.Search.{Search}
use Rattle.td_answer.specs.declared.certifying.Read.{Read}
use Rattle.td_answer.specs.declared.kept_certificate.Told.{Told}
use Rattle.td_answer.specs.Certificates.{read_by, certificate_in, CanBeTold}
use Rattle.td_answer.specs.Certified.{wants_open}
use Rattle.td_answer.specs.KeptTerms.{kept_terms}

-- it claims that the pair has its delay and that none is later than the upper figure, is accepted, and
-- has a text
pub record IsOpenCertificate (setting : Setting) (admit : Admitted) (told : Told) (best : Timed) (high : ℕ) (certificate : Certificate) : Type 0 where
  pub tree : List Node
  pub is : certificate ≡ certificate_with setting admit (kept_terms told) (Some (claim_to best high)) tree
  pub certified : IsCertifiedAmong setting (asking_by admit told.keep.items) (Some (claim_to best high)) tree
  pub spelled : AreConditions told.keep.items → AreTerms (Some (kept_terms told))
  pub few : length told.keep.items ≤ 5000 → HaveFew (Some (kept_terms told))

-- and is wanted
pub record IsWantedCertificate (search : Search) (setting : Setting) (admit : Admitted) (told : Told) (best : Timed) (high : ℕ) (certificate : Certificate) : Type 0 where
  pub is : IsOpenCertificate setting admit told best high certificate
  pub wanted : wants_open search best.time high ≡ true

abbrev pub told_with : Delays → Option (Vec ℕ) → Vec NamedCondition → Told
told_with default outputs keep = record { default = default; outputs = outputs; keep = keep }

abbrev pub read_of : Told → Read
read_of told = read_by told.default told.outputs

-- that of an answer: an exact one has one
abbrev pub IsCertificateOf : Told → Problem → Search → Answer → Option Certificate → Type 0
IsCertificateOf told asked search (answer.Exact time pair tree) certificate =
    (certificate ≡ certificate_in (read_of told) asked (answer.Exact time pair tree)) × CanBeTold (read_of told) asked.strategy (answer.Exact time pair tree)
IsCertificateOf told asked search (answer.Between low high pair nodes why) certificate =
    IfSome certificate (IsWantedCertificate search asked.setting asked.admit told (record { pair = pair; time = low }) high)
