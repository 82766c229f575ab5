-- From what is said of a tree's lines to the verdict.
use Rattle.std.proofs.Common.{◌≡◌, ◌+◌, ◌-◌, ◌*◌, ℕ, List, [], ◌∷◌, ◌++◌, length, map, Option, Some, None, refl, sym, ap, subst, ◌∙◌}
use Rattle.std.specs.List.{AllByRecursion}
use Rattle.td_nets.specs.Netlist.{Netlist}
use Rattle.td_certificate.specs.declared.certificate.Certificate.{Certificate}
use Rattle.td_certificate.specs.declared.certificate.Claim.{Claim}
use Rattle.td_certificate.specs.declared.question.Version.{Version}
use Rattle.td_certificate.specs.declared.question.Version.TheVariants.{First, Second, Third, Fourth}
use Rattle.td_certificate.specs.Questions.{Question, inputs_of, asking_of}
use Rattle.td_certificate.specs.Trees.{IsTree}
use Rattle.td_certificate.specs.Spelling.{version_in, version_line, circuit_line, question_lines, time_line, from_line, to_line, claim_lines, head_lines, high_lines, fields_of, field_line, MayClaim, HasSpelling}
use Rattle.td_certificate.specs.Accepts.{lines_in, IsGood, IsOfSize, setting_of, high_of, ClaimsDelay, HasItsTime, Accepts}
use Rattle.td_certificate.proofs.Acceptance.{at_moments}
use Rattle.td_checker.specs.declared.judging.Flaw as code_flaw
use Rattle.td_checker.specs.declared.judging.Flaw.TheVariants as code
use Rattle.td_checker.specs.declared.checking.BadLine.{BadLine}
use Rattle.td_checker.specs.declared.verdict.Verdict.{Verdict}
use Rattle.td_checker.specs.declared.verdict.Verdict.TheVariants as verdict
use Rattle.td_checker.specs.Verdicts.{Flaw, Misplaced, NotEmpty, NotOnePair, WrongNumber, AboveTime, BadStep, HasAdmittedPair, IsFirstBad, Said, AreTold, IsVerdictOn, IsVerdict}
use Rattle.td_checker.specs.Claims.{HaveVectors, lines_before}
use Rattle.td_checker.specs.Judging.{flaw_of, IsBadAt, IsFoundBad, reported_as}

pub setting_is : (netlist : Netlist) (moments : List ℕ) (c : Certificate) → moments ≡ c.question.moments → at_moments netlist moments ≡ setting_of netlist c
setting_is netlist moments c e = ap (at_moments netlist) e

first_bad : (netlist : Netlist) (c : Certificate) (flaw : Flaw) (before line : ℕ) → IsOfSize netlist c → HasAdmittedPair netlist c → HasItsTime netlist c → IsTree c.tree
    → line ≡ 1 + length (head_lines c) + before → IsBadAt (setting_of netlist c) (asking_of c.question) (high_of c.claim) (lines_in c) flaw before → IsFirstBad netlist c flaw line
first_bad netlist c flaw before line size admitted reached is_tree at bad = record {
  size = size;
  admitted = admitted;
  reached = reached;
  tree = is_tree;
  place = bad.place;
  bad = bad.bad;
  stands = bad.stands;
  good_before = bad.good_before;
  has = bad.has;
  line_is = at ∙ ap (λ (n : ℕ). 1 + length (head_lines c) + n) bad.before_is;
}

reported : (netlist : Netlist) (c : Certificate) (flaw : code_flaw.Flaw) (at before line : ℕ) → IsOfSize netlist c → HasAdmittedPair netlist c → HasItsTime netlist c
    → IsTree c.tree → line ≡ 1 + length (head_lines c) + before → IsBadAt (setting_of netlist c) (asking_of c.question) (high_of c.claim) (lines_in c) (flaw_of flaw at) before
    → IsVerdictOn netlist c (reported_as flaw line)
reported netlist c code.Misplaced at before line size admitted reached is_tree is bad = first_bad netlist c Misplaced before line size admitted reached is_tree is bad
reported netlist c code.NotOnePair at before line size admitted reached is_tree is bad = first_bad netlist c NotOnePair before line size admitted reached is_tree is bad
reported netlist c code.WrongNumber at before line size admitted reached is_tree is bad = first_bad netlist c WrongNumber before line size admitted reached is_tree is bad
reported netlist c code.NotEmpty at before line size admitted reached is_tree is bad = first_bad netlist c NotEmpty before line size admitted reached is_tree is bad
reported netlist c code.AboveTime at before line size admitted reached is_tree is bad = first_bad netlist c AboveTime before line size admitted reached is_tree is bad
reported netlist c (code.BadStep why) at before line size admitted reached is_tree is bad =
    (at - 1, first_bad netlist c (BadStep (at - 1) why) before line size admitted reached is_tree is bad)

pub bad_reported : (netlist : Netlist) (moments : List ℕ) (c : Certificate) (bad : BadLine) (line : ℕ) → moments ≡ c.question.moments
    → IsOfSize netlist c → HasAdmittedPair netlist c → ClaimsDelay (at_moments netlist moments) c.claim
    → IsTree c.tree → line ≡ 1 + length (head_lines c) + bad.before → IsFoundBad (at_moments netlist moments) (asking_of c.question) (high_of c.claim) (lines_in c) bad
    → IsVerdictOn netlist c (reported_as bad.flaw line)
bad_reported netlist moments c bad line e size admitted reached is_tree is found =
    reported netlist c bad.flaw found.at bad.before line size admitted (subst (λ s. ClaimsDelay s c.claim) (setting_is netlist moments c e) reached) is_tree
    is (subst (λ s. IsBadAt s (asking_of c.question) (high_of c.claim) (lines_in c) (flaw_of bad.flaw found.at) bad.before) (setting_is netlist moments c e) found.bad)

pub accepted_reported : (netlist : Netlist) (moments : List ℕ) (c : Certificate) → moments ≡ c.question.moments → IsOfSize netlist c → HasAdmittedPair netlist c
    → ClaimsDelay (at_moments netlist moments) c.claim → IsTree c.tree
    → AllByRecursion (IsGood (at_moments netlist moments) (asking_of c.question) (high_of c.claim)) (lines_in c) → Accepts netlist c
accepted_reported netlist moments c e size admitted reached is_tree good = record {
  size = size;
  admitted = admitted;
  reached = subst (λ s. ClaimsDelay s c.claim) (setting_is netlist moments c e) reached;
  tree = is_tree;
  good = subst (λ s. AllByRecursion (IsGood s (asking_of c.question) (high_of c.claim)) (lines_in c)) (setting_is netlist moments c e) good;
}

-- the vectors of a certificate of this circuit are the circuit's
have_vectors : (version : Version) (count : ℕ) (claim : Option Claim) → MayClaim version count claim → HaveVectors count claim
have_vectors version count None may = tt
have_vectors version count (Some claim) may = (may.first, may.second)

pub vectors_told : (c : Certificate) → HasSpelling c → HaveVectors (inputs_of c.question) c.claim
vectors_told c has = have_vectors (version_in c) (inputs_of c.question) c.claim has.claim

pub vectors_fit : (netlist : Netlist) (c : Certificate) → IsOfSize netlist c → HasSpelling c → HaveVectors (length netlist.inputs) c.claim
vectors_fit netlist c size has = subst (λ (n : ℕ). HaveVectors n c.claim) (sym size.inputs) (vectors_told c has)

pub pins_fit : (netlist : Netlist) (c : Certificate) → IsOfSize netlist c → HasSpelling c → length c.question.admit.pins ≡ 2 * length netlist.inputs
pins_fit netlist c size has = has.pins ∙ ap (λ n. 2 * n) (sym size.inputs)

pub held_fit : (netlist : Netlist) (c : Certificate) → IsOfSize netlist c → length c.question.admit.held ≡ length netlist.inputs
held_fit netlist c size = sym size.inputs

pub is_tree : (c : Certificate) → HasSpelling c → IsTree c.tree
is_tree c has = has.tree

-- on which line the tree begins
counted : (version : Version) (question : Question) (high : ℕ) (a b x y z : List ℕ)
    → lines_before version ≡ 1 + length (a ∷ b ∷ (map (field_line question) (fields_of version) ++ x ∷ (high_lines version high ++ y ∷ z ∷ [])))
counted First question high a b x y z = refl
counted Second question high a b x y z = refl
counted Third question high a b x y z = refl
counted Fourth question high a b x y z = refl

pub behind_pair : (c : Certificate) (claim : Claim) → c.claim ≡ Some claim → lines_before (version_in c) ≡ 1 + length (head_lines c)
behind_pair c claim is =
    counted (version_in c) c.question claim.high (version_line (version_in c)) (circuit_line c) (time_line claim) (from_line claim) (to_line claim)
    ∙ ap (λ (z : Option Claim). 1 + length (version_line (version_in c) ∷ circuit_line c ∷ (question_lines (version_in c) c.question ++ claim_lines (version_in c) z))) (sym is)

pub behind_none : (c : Certificate) → HasSpelling c → c.claim ≡ None → 12 ≡ 1 + length (head_lines c)
behind_none c has is =
    let fourth : version_in c ≡ Fourth = subst (MayClaim (version_in c) (inputs_of c.question)) is has.claim in
    sym (ap (λ (z : Option Claim). 1 + length (version_line (version_in c) ∷ circuit_line c ∷ (question_lines (version_in c) c.question ++ claim_lines (version_in c) z))) is
    ∙ ap (λ (v : Version). 1 + length (version_line v ∷ circuit_line c ∷ (question_lines v c.question ++ claim_lines v None))) fourth)

-- a verdict where the text tells no other terms
pub with_told : (said : Said) (netlist : Netlist) (c : Certificate) (v : Verdict) → AreTold said c.question.terms → IsVerdictOn netlist c v
    → IsVerdict said netlist c v
with_told said netlist c verdict.Accepted are is = (are, is)
with_told said netlist c verdict.PairTime are is = (are, is)
with_told said netlist c (verdict.LeafBound line) are is = (are, is)
with_told said netlist c (verdict.LeafAboveTime line) are is = (are, is)
with_told said netlist c (verdict.BadPosition line) are is = (are, is)
with_told said netlist c (verdict.NotAPoint line) are is = (are, is)
with_told said netlist c verdict.OtherCircuit are is = is
with_told said netlist c verdict.PairNotAdmitted are is = (are, is)
with_told said netlist c (verdict.LeafNotEmpty line) are is = (are, is)
with_told said netlist c (verdict.BadStep line why) are is = (are, is)
with_told said netlist c (verdict.OtherQuestion line) are is = absurd is
