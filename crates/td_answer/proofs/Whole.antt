-- Parts that texts tell, and what they are joined into.
use Rattle.std.proofs.Common.{◌≡◌, ◌∙◌, ◌≤◌, ℕ, Bool, true, false, List, [], length, take, refl, sym, ap, subst, inl, inr, arith}
use Rattle.std.specs.Prelude.{◌==◌, if◌then◌else◌, Option, Some, None, All}
use Rattle.std.specs.Borrow.{Bor}
use Rattle.std.proofs.lemmas.Bool.{eqb-true, eq-eqb, cases_eq}
use Rattle.std.proofs.lemmas.List.Elements.{All-from_recursion}
use Rattle.td_reading.specs.declared.reading.Reading.{Reading}
use Rattle.td_nets.specs.Netlist.{Netlist}
use Rattle.td_nets.specs.WellFormed.{IsWellFormed}
use Rattle.td_source.specs.Reads.{HasCircuit}
use Rattle.td_domain.specs.declared.cubes.Trit.{Trit}
use Rattle.td_domain.specs.Admits.{Admitted}
use Rattle.td_circuit.specs.Settings.{Setting, AreMoments}
use Rattle.td_circuit.specs.Run.{IsDelayOfBits}
use Rattle.td_refutation.specs.Asking.{Asking}
use Rattle.td_certificate.specs.declared.certificate.Certificate.{Certificate}
use Rattle.td_certificate.specs.declared.certificate.Claim.{Claim}
use Rattle.td_certificate.specs.declared.fault.CertFault.{CertFault}
use Rattle.td_certificate.specs.Questions.{asking_of}
use Rattle.td_certificate.specs.Accepts.{Accepts, setting_of, IsBoundOf, IsTrueClaim, IsClaimed}
use Rattle.td_certificate.specs.Faults.{IsFault}
use Rattle.td_certificate.specs.Spelling.{HasSpelling, latest}
use Rattle.td_certificate.proofs.Acceptance.{accepted_is_true}
use Rattle.td_checker.specs.declared.verdict.CheckFault.{CheckFault}
use Rattle.td_checker.specs.declared.verdict.CheckFault.TheVariants as check
use Rattle.td_checker.specs.Checks.{IsCheckFault}
use Rattle.td_checker.proofs.Texts.{accepted_read}
use Rattle.td_join.specs.Joining.{IsJoined}
use Rattle.td_join.specs.Faults.{IsJoinFault}
use Rattle.td_join.specs.declared.fault.JoinFault.{JoinFault}
use Rattle.td_answer.specs.declared.refusal.Refusal.{Refusal}
use Rattle.td_answer.specs.Differences.{AsksSame}
use Rattle.td_answer.specs.Joins.{TellsPart, TellsNoPart, AreParts, IsUnjoinedFor, IsTrueLine, IsTrueWhole, TellsStanding}
use Rattle.td_answer.specs.Lines.{whole_line, standing_lines, ending_of_moments, ending_of_whole}
use Rattle.td_answer.proofs.Standing.{tells}
use Rattle.td_lines.specs.declared.line.Line.TheVariants as line
use Rattle.td_answer.specs.Unjoined.{IsOfPart, IsOfUnjoined, unjudged}
use Rattle.td_answer.proofs.Zips.{zip_second}

-- the line of two moments that are true is true
line_true : (setting : Setting) (asking : Asking) (c : Claim) → IsTrueClaim setting asking c → IsTrueLine setting asking (whole_line true c.time c.high)
line_true setting asking c is = go (c.time == c.high) refl
  where
    ordered : c.time ≤ c.high
    ordered = is.bounded c.pair c.time is.admitted is.reached

    go : (same : Bool) → (c.time == c.high) ≡ same → IsTrueLine setting asking (if same then line.Exact c.time else line.Between c.time c.high)
    go true equal = (
      (c.pair, is.admitted, is.reached),
      λ pair delay admitted delays. omega (arith, is.bounded pair delay admitted delays, eqb-true c.time c.high equal),
    )
    go false differ = (
      (c.pair, is.admitted, is.reached),
      elim (cases_eq c.time c.high) [
        | inl same ↦ (let no : true ≡ false = sym (eq-eqb c.time c.high same) ∙ differ in absurd cc)
        | inr other ↦ omega (arith, ordered, other)
      ],
      is.bounded,
    )

-- what is claimed is true, and so is its line
claimed_true : (setting : Setting) (asking : Asking) (claim : Option Claim) → IsClaimed setting asking claim → IsTrueWhole setting asking claim
claimed_true setting asking None is = is
claimed_true setting asking (Some claim) is = (is, line_true setting asking claim is)

-- what is said of a required moment is true
pub standing_true : (setting : Setting) (asking : Asking) (required : Option ℕ) (claim : Option Claim) → IsTrueWhole setting asking claim
    → TellsStanding setting asking required claim (standing_lines required claim) (ending_of_whole required claim)
standing_true setting asking required None is = (refl, refl)
standing_true setting asking required (Some claim) is =
    tells (IsBoundOf setting asking) (IsDelayOfBits setting claim.pair.first claim.pair.second)
    (λ one other less bound pair delay about delays. omega (arith, bound pair delay about delays, less))
    (ending_of_moments claim.time claim.high) required claim.time claim.high is.0.bounded is.0.reached

-- ---- a part

-- a fault of a part's text
pub bad_part : (text : List ℕ) (reading : Reading) (netlist : Netlist) (check : Bool) (name : Bor (List ℕ)) (spelled : List ℕ) (fault : CertFault) (reason : Refusal)
    → IsFault fault.kind fault.line spelled → IsOfPart name fault reason → TellsNoPart text reading netlist check name.now spelled reason
bad_part text reading netlist check name spelled fault reason is (inl memory) =
    subst (λ (r : Refusal). TellsNoPart text reading netlist check name.now spelled r) (sym memory) tt
bad_part text reading netlist check name spelled fault reason is (inr reported) =
    subst (λ (r : Refusal). TellsNoPart text reading netlist check name.now spelled r) (sym reported.1) (reported.0, refl, is)

-- why a certificate wasn't judged
pub not_judged : (text : List ℕ) (reading : Reading) (netlist : Netlist) (name : Bor (List ℕ)) (spelled : List ℕ) (fault : CheckFault)
    → IsCheckFault text reading spelled fault → TellsNoPart text reading netlist true name.now spelled (unjudged name fault)
not_judged text reading netlist name spelled check.OutOfMemory is = tt
not_judged text reading netlist name spelled (check.Netlist reported) is = (refl, is)
not_judged text reading netlist name spelled check.NoOutput is = (refl, is)
not_judged text reading netlist name spelled (check.Loop net) is = (refl, is)
not_judged text reading netlist name spelled (check.Certificate reported) is = (is.2, refl, is.3)

module _ (text : List ℕ) (reading : Reading) (netlist : Netlist) (circuit : HasCircuit text reading netlist) where
  -- parts have texts
  pub parts_spelled : (checked : Bool) (names texts : List (List ℕ)) (parts : List Certificate) → AreParts text reading netlist checked names texts parts
      → All HasSpelling parts
  parts_spelled checked names texts parts are =
      zip_second (TellsPart text reading netlist checked) HasSpelling (λ spelled part tells. tells.spells.has) (take (length names) texts) parts are.each

  -- the netlist accepts a part whose verdict is so
  part_accepted : (spelled : List ℕ) (part : Certificate) → TellsPart text reading netlist true spelled part → Accepts netlist part
  part_accepted spelled part tells = accepted_read text reading spelled netlist part circuit.reads tells.spells (tells.accepted refl)

  parts_accepted : (names texts : List (List ℕ)) (parts : List Certificate) → AreParts text reading netlist true names texts parts
      → All (Accepts netlist) parts
  parts_accepted names texts parts are =
      zip_second (TellsPart text reading netlist true) (Accepts netlist) part_accepted (take (length names) texts) parts are.each

  -- ---- the whole

  fits : (whole : Certificate) → HasSpelling whole → Accepts netlist whole → AreMoments netlist whole.question.moments
  fits whole spelled accepted = record {
    count = spelled.count ∙ sym accepted.size.inputs;
    within = All-from_recursion (λ moment. moment ≤ latest) whole.question.moments spelled.moments;
  }

  -- where the parts are checked, what it claims is true
  pub whole_true : (checked : Bool) (names texts : List (List ℕ)) (parts : List Certificate) (pins : List Trit) (whole : Certificate) → IsWellFormed netlist
      → AreParts text reading netlist checked names texts parts → IsJoined parts pins whole → HasSpelling whole
      → ((any : Netlist) → All (Accepts any) parts → Accepts any whole) → checked ≡ true
      → IsTrueWhole (setting_of netlist whole) (asking_of whole.question) whole.claim
  whole_true checked names texts parts pins whole formed are joined spelled accepted check =
      let each = parts_accepted names texts parts (subst (λ (b : Bool). AreParts text reading netlist b names texts parts) check are) in
      let is = accepted netlist each in
      claimed_true (setting_of netlist whole) (asking_of whole.question) whole.claim
      (accepted_is_true netlist whole formed circuit.acyclic (fits whole spelled is) is)

-- ---- the question

-- pairs that are admitted alike
pub same_admit : (this that : Admitted) → this.pins ≡ that.pins → this.held ≡ that.held → this.flips ≡ that.flips → this ≡ that
same_admit this that pins held flips =
    let by_pins : this ≡ record { pins = that.pins; held = this.held; flips = this.flips }
    = ap (λ (cube : List Trit). record { pins = cube; held = this.held; flips = this.flips }) pins in
    let by_held : record { pins = that.pins; held = this.held; flips = this.flips } ≡ record { pins = that.pins; held = that.held; flips = this.flips }
    = ap (λ (mask : List Bool). record { pins = that.pins; held = mask; flips = this.flips }) held in
    let by_flips : record { pins = that.pins; held = that.held; flips = this.flips } ≡ that
    = ap (λ (most : ℕ). record { pins = that.pins; held = that.held; flips = most }) flips in
    by_pins ∙ by_held ∙ by_flips

-- a whole of the pins and the question that are asked admits what is asked
pub admits_asked : (parts : List Certificate) (moments : List ℕ) (asking : Asking) (whole : Certificate) → IsJoined parts asking.admit.pins whole
    → AsksSame moments asking whole.question → whole.question.admit ≡ asking.admit
admits_asked parts moments asking whole joined same = same_admit whole.question.admit asking.admit joined.pins_are same.held same.flips

-- why the parts aren't joined
pub unjoined_for : (names : List (List ℕ)) (parts : List Certificate) (moments : List ℕ) (asking : Asking) (fault : JoinFault ℕ) (reason : Refusal)
    → IsJoinFault parts asking.admit.pins fault → IsOfUnjoined names fault reason → IsUnjoinedFor names parts moments asking reason
unjoined_for names parts moments asking fault reason is (inl memory) =
    subst (λ (r : Refusal). IsUnjoinedFor names parts moments asking r) (sym memory) tt
unjoined_for names parts moments asking fault reason is (inr told) =
    subst (λ (r : Refusal). IsUnjoinedFor names parts moments asking r) (sym told.is) (fault, told.reported, is, told.named)
