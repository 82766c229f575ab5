-- From the verdict on a certificate to what a check says.
use Rattle.std.proofs.Common.{◌≡◌, ◌∙◌, ◌≤◌, ℕ, List, [], Bool, true, false, refl, sym, subst, arith, inl, inr}
use Rattle.std.specs.Prelude.{◌==◌, if◌then◌else◌, Option, Some, None}
use Rattle.std.proofs.lemmas.Bool.{eqb-true, eq-eqb, cases_eq}
use Rattle.td_reading.specs.declared.reading.Reading.{Reading}
use Rattle.td_reading.specs.declared.told.Told.{Told}
use Rattle.td_circuit.specs.Settings.{Setting}
use Rattle.td_certificate.specs.declared.certificate.Certificate.{Certificate}
use Rattle.td_certificate.specs.declared.certificate.Claim.{Claim}
use Rattle.td_certificate.specs.Questions.{asking_of}
use Rattle.td_refutation.specs.Asking.{Asking}
use Rattle.td_certificate.specs.Accepts.{setting_of, IsClaimed}
use Rattle.td_certificate.specs.Accepts as accepts
use Rattle.td_certificate.specs.Spelling.{Spells}
use Rattle.td_checker.specs.declared.verdict.Verdict.{Verdict}
use Rattle.td_checker.specs.declared.verdict.Verdict.TheVariants as verdict
use Rattle.td_checker.specs.Checks.{AsksAbout, HaveVerdict, TellsTruth}
use Rattle.td_checker.proofs.Texts.{asked_by}
use Rattle.td_certificate.proofs.Texts.{spells_once}
use Rattle.std.proofs.lemmas.List.{append-nil}
use Rattle.td_lines.specs.declared.line.Line.{Line}
use Rattle.td_lines.specs.declared.line.Line.TheVariants as line
use Rattle.td_answer.specs.declared.status.Status.{Status}
use Rattle.td_answer.specs.Claims.{accepted_line, claimed_line}
use Rattle.td_answer.specs.Verdicts.{AreVerdictLines, ending_by, IsTrueClaim, IsTrueOf, IsTrueVerdict}

-- the line of two moments that are true is true
moments_true : (setting : Setting) (asking : Asking) (c : Claim) → accepts.IsTrueClaim setting asking c → IsTrueClaim setting asking (accepted_line c.time c.high)
moments_true setting asking c is = go (c.time == c.high) refl
  where
    ordered : c.time ≤ c.high
    ordered = is.bounded c.pair c.time is.admitted is.reached

    go : (same : Bool) → (c.time == c.high) ≡ same
        → IsTrueClaim setting asking (if same then line.Accepted c.time else line.AcceptedBetween c.time c.high)
    go true equal = (
      (c.pair, is.admitted, is.reached),
      λ pair delay admitted delays. omega (arith, is.bounded pair delay admitted delays, eqb-true c.time c.high equal),
    )
    go false differ = (
      (c.pair, is.admitted, is.reached),
      elim (cases_eq c.time c.high) [
        | inl same ↦ (let no : true ≡ false = sym (eq-eqb c.time c.high same) ∙ differ in absurd cc)
        | inr other ↦ omega (arith, ordered, other)
      ],
      is.bounded,
    )

-- the first line of a claim that is true is true
claim_true : (setting : Setting) (asking : Asking) (claim : Option Claim) → IsClaimed setting asking claim → IsTrueClaim setting asking (claimed_line claim)
claim_true setting asking None is = is
claim_true setting asking (Some claim) is = moments_true setting asking claim is

module _ (text : List ℕ) (reading : Reading) (told : Told) (spelled : List ℕ) (certificate : Certificate) where
  true_of : HaveVerdict text reading told spelled verdict.Accepted → Spells certificate spelled → TellsTruth text reading spelled
      → IsTrueOf text reading certificate
  true_of have spells truth =
      let asked = asked_by text reading told spelled have in
      let same : have.certificate ≡ certificate = (spells_once have.certificate certificate spelled spelled [] have.spells spells (sym (append-nil spelled))).0 in
      let asks : AsksAbout text reading certificate asked.0 = subst (λ (c : Certificate). AsksAbout text reading c asked.0) same asked.1 in
      record {
        netlist = asked.0;
        asks = asks;
        acyclic = asked.2;
        is_true = claim_true (setting_of asked.0 certificate) (asking_of certificate.question) certificate.claim (truth certificate spells asked.0 asks);
      }

  pub true_check : (report : List Line) (found : Verdict) (ending : Status) → HaveVerdict text reading told spelled found → Spells certificate spelled
      → (found ≡ verdict.Accepted → TellsTruth text reading spelled) → AreVerdictLines certificate found report → ending ≡ ending_by found
      → IsTrueVerdict text reading told spelled report ending
  true_check report found ending have spells truth says ends = record {
    certificate = certificate;
    spells = spells;
    found = found;
    has = have;
    is = says;
    ends = ends;
    is_true = λ accepted. true_of (subst (λ (v : Verdict). HaveVerdict text reading told spelled v) accepted have) spells (truth accepted);
  }
