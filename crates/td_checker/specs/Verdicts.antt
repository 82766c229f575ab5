-- Verdicts on certificates.
use Rattle.std.specs.Prelude.{◌≡◌, ℕ, ◌+◌, true, List, [], ◌∷◌, codes, length, slice_get, take, Option, Some, None, ◌⊎◌}
use Rattle.std.specs.List.{AllByRecursion}
use Rattle.td_gates.specs.Delays.{Delays}
use Rattle.td_reading.specs.declared.told.Told.{Told}
use Rattle.td_nets.specs.Netlist.{Netlist}
use Rattle.td_circuit.specs.Settings.{Setting}
use Rattle.td_domain.specs.declared.cubes.Trit.{Trit}
use Rattle.td_refutation.specs.Asking.{Asking}
use Rattle.td_source.specs.Kept.{AreNumbers, HasOutputs}
use Rattle.td_certificate.specs.declared.tree.Node.{Node}
use Rattle.td_certificate.specs.declared.tree.Node.TheVariants as node
use Rattle.td_certificate.specs.declared.certificate.Certificate.{Certificate}
use Rattle.td_refutation.specs.declared.flaw.Flaw as step_flaw
use Rattle.td_refutation.specs.Whole.{Step, IsBadStep, IsAboveBound}
use Rattle.td_refutation.specs.Emptied.{AreGoodIn, IsNotEmptied}
use Rattle.td_certificate.specs.Questions.{Terms, asking_of}
use Rattle.td_certificate.specs.Trees.{IsTree}
use Rattle.td_certificate.specs.Walks.{Line}
use Rattle.td_certificate.specs.Spelling.{head_lines}
use Rattle.td_certificate.specs.Accepts.{lines_in, SplitsFree, IsEnough, IsOfOnePair, IsOfCube, IsWithin, IsGood, IsOfSize, setting_of, high_of, HasItsTime, Accepts}
pub use Rattle.td_certificate.specs.Accepts.{HasAdmittedPair}
use Rattle.td_checker.specs.declared.verdict.Verdict.{Verdict}
use Rattle.td_checker.specs.declared.verdict.Verdict.TheVariants as verdict

abbrev pub verdict_number : Verdict → ℕ
verdict_number verdict.Accepted = 1
verdict_number verdict.PairTime = 2
verdict_number (verdict.LeafBound line) = 3
verdict_number (verdict.LeafAboveTime line) = 4
verdict_number (verdict.BadPosition line) = 5
verdict_number (verdict.NotAPoint line) = 6
verdict_number verdict.OtherCircuit = 7
verdict_number verdict.PairNotAdmitted = 8
verdict_number (verdict.LeafNotEmpty line) = 9
verdict_number (verdict.BadStep line flaw) = 10
verdict_number (verdict.OtherQuestion line) = 11

abbrev pub verdict_name : Verdict → List ℕ
verdict_name verdict.Accepted = codes "Accepted"
verdict_name verdict.PairTime = codes "PairTime"
verdict_name (verdict.LeafBound line) = codes "LeafBound"
verdict_name (verdict.LeafAboveTime line) = codes "LeafAboveTime"
verdict_name (verdict.BadPosition line) = codes "BadPosition"
verdict_name (verdict.NotAPoint line) = codes "NotAPoint"
verdict_name verdict.OtherCircuit = codes "OtherCircuit"
verdict_name verdict.PairNotAdmitted = codes "PairNotAdmitted"
verdict_name (verdict.LeafNotEmpty line) = codes "LeafNotEmpty"
verdict_name (verdict.BadStep line flaw) = codes "BadStep"
verdict_name (verdict.OtherQuestion line) = codes "OtherQuestion"

abbrev pub verdict_line : Verdict → Option ℕ
verdict_line (verdict.LeafBound line) = Some line
verdict_line (verdict.LeafAboveTime line) = Some line
verdict_line (verdict.BadPosition line) = Some line
verdict_line (verdict.NotAPoint line) = Some line
verdict_line (verdict.LeafNotEmpty line) = Some line
verdict_line (verdict.BadStep line flaw) = Some line
verdict_line (verdict.OtherQuestion line) = Some line
verdict_line _ = None

-- ---- the first bad line

-- what is wrong with a line, in the order in which it is looked for, but that a bad step stands on an
-- earlier line than what a leaf by steps says
pub data Flaw : Type 0 where
  Misplaced : Flaw
  NotEmpty : Flaw
  NotOnePair : Flaw
  WrongNumber : Flaw
  AboveTime : Flaw
  BadStep : ℕ → step_flaw.Flaw → Flaw

-- the steps are good, and don't show that no pair lies in the cube where they are to: the last clause
-- isn't empty, or they are to show a bound
abbrev pub LeaveOpen : Setting → Asking → Option ℕ → List Trit → List Step → Option ℕ → Type 0
LeaveOpen setting asking most cube steps None = IsNotEmptied setting asking cube steps
LeaveOpen setting asking most cube steps (Some bound) = (most ≡ None) × AreGoodIn setting asking cube steps

-- A leaf says that no admitted pair lies in its cube, and one may, or it has a number where the claim is
-- that no pair is asked about.
abbrev pub IsNotEmpty : Setting → Asking → Option ℕ → List Trit → Node → Type 0
IsNotEmpty setting asking most cube (node.Split position) = ⊥
IsNotEmpty setting asking most cube (node.Bound domain bound) = most ≡ None
IsNotEmpty setting asking most cube (node.Point time) = most ≡ None
IsNotEmpty setting asking most cube node.Empty = ¬ IsOfCube setting asking cube node.Empty
IsNotEmpty setting asking most cube (node.Refuted refuted) = LeaveOpen setting asking most cube refuted.steps refuted.bound

-- after good steps an output may still change later than at the bound
abbrev pub AreAbove : Setting → Asking → List Trit → List Step → Option ℕ → Type 0
AreAbove setting asking cube steps None = ⊥
AreAbove setting asking cube steps (Some bound) = IsAboveBound setting asking cube steps bound

-- what a leaf says isn't so: its number is too low, or isn't the pair's delay
abbrev pub IsWrong : Setting → Asking → List Trit → Node → Type 0
IsWrong setting asking cube (node.Refuted refuted) = AreAbove setting asking cube refuted.steps refuted.bound
IsWrong setting asking cube (node.Split position) = ⊥
IsWrong setting asking cube node.Empty = ⊥
IsWrong setting asking cube (node.Bound domain bound) = ¬ IsOfCube setting asking cube (node.Bound domain bound)
IsWrong setting asking cube (node.Point time) = ¬ IsOfCube setting asking cube (node.Point time)

-- the step at this place of a leaf that is refuted is its first that isn't good, for this reason
abbrev pub HasBadStep : Setting → Asking → List Trit → Node → ℕ → step_flaw.Flaw → Type 0
HasBadStep setting asking cube (node.Refuted refuted) place why = IsBadStep setting asking cube refuted.steps place why
HasBadStep setting asking cube n place why = ⊥

-- the line has this flaw, and none that is looked for before it
abbrev pub HasFlaw : Setting → Asking → Option ℕ → Flaw → Line → Type 0
HasFlaw setting asking most Misplaced line = ¬ SplitsFree line.cube line.node
HasFlaw setting asking most NotEmpty line = SplitsFree line.cube line.node × IsNotEmpty setting asking most line.cube line.node
HasFlaw setting asking most NotOnePair line =
    SplitsFree line.cube line.node × IsEnough most line.node × (¬ IsOfOnePair line.cube line.node)
HasFlaw setting asking most WrongNumber line =
    SplitsFree line.cube line.node × IsEnough most line.node × IsOfOnePair line.cube line.node × IsWrong setting asking line.cube line.node
HasFlaw setting asking most AboveTime line =
    SplitsFree line.cube line.node × IsEnough most line.node × IsOfOnePair line.cube line.node × IsOfCube setting asking line.cube line.node
    × (¬ IsWithin most line.node)
HasFlaw setting asking most (BadStep place why) line = HasBadStep setting asking line.cube line.node place why

-- ---- lines of the text

-- how many lines a node has: a leaf that is refuted has one for each step, and two more
abbrev pub line_count : Node → ℕ
line_count (node.Refuted refuted) = 2 + length refuted.steps
line_count n = 1

-- how many lines these nodes have
abbrev pub line_total : List Line → ℕ
line_total [] = 0
line_total (line ∷ lines) = line_count line.node + line_total lines

-- the last of a node's lines, counted from 0
abbrev pub last_line : Node → ℕ
last_line (node.Refuted refuted) = 1 + length refuted.steps
last_line n = 0

-- at which of a node's lines a flaw is reported, counted from 0
abbrev pub reported_at : Flaw → Node → ℕ
reported_at (BadStep place why) n = 1 + place
reported_at Misplaced n = 0
reported_at NotOnePair n = 0
reported_at NotEmpty n = last_line n
reported_at WrongNumber n = last_line n
reported_at AboveTime n = last_line n

-- the flaw of a line of this certificate, and a good line of it, for this netlist
abbrev pub HasFlawIn : Netlist → Certificate → Flaw → Line → Type 0
HasFlawIn netlist c = HasFlaw (setting_of netlist c) (asking_of c.question) (high_of c.claim)

abbrev pub IsGoodIn : Netlist → Certificate → Line → Type 0
IsGoodIn netlist c = IsGood (setting_of netlist c) (asking_of c.question) (high_of c.claim)

-- The certificate is of this circuit and its pair is admitted and has its time, and this line of
-- the text is the first bad one: it has this flaw, and those before it in the tree are good.
pub record IsFirstBad (netlist : Netlist) (c : Certificate) (flaw : Flaw) (line : ℕ) : Type 0 where
  pub size : IsOfSize netlist c
  pub admitted : HasAdmittedPair netlist c
  pub reached : HasItsTime netlist c
  pub tree : IsTree c.tree
  pub place : ℕ
  pub bad : Line
  pub stands : slice_get (lines_in c) place ≡ Some bad
  pub good_before : AllByRecursion (IsGoodIn netlist c) (take place (lines_in c))
  pub has : HasFlawIn netlist c flaw bad
  pub line_is : line ≡ 1 + length (head_lines c) + (line_total (take place (lines_in c)) + reported_at flaw bad.node)

-- ---- the question

-- What the checker is told of how a netlist is read: the delays of gates that state none, the numbers
-- of the outputs that are asked about, none where all are, and which of these are compared.
pub record Said : Type 0 where
  pub told : Told
  pub default : Delays
  pub outputs : Option (List ℕ)

-- the delays are those that the checker is told, where they are compared
abbrev pub AreSameDelays : Said → Delays → Type 0
AreSameDelays said delays = (said.told.rise ≡ true → delays.rise ≡ said.default.rise) × (said.told.fall ≡ true → delays.fall ≡ said.default.fall)

-- and so are the outputs
abbrev pub AreSameOutputs : Said → Option (List ℕ) → Type 0
AreSameOutputs said outputs = said.told.outputs ≡ true → outputs ≡ said.outputs

-- the text tells no terms, or those that the checker is told
abbrev pub AreTold : Said → Option Terms → Type 0
AreTold said None = Unit {0}
AreTold said (Some terms) = AreSameDelays said terms.default × AreSameOutputs said terms.outputs

-- the line of the text that tells others: first the one of the delays, then the one of the outputs
abbrev pub AreOther : Said → Option Terms → ℕ → Type 0
AreOther said None line = ⊥
AreOther said (Some terms) line =
    ((line ≡ 3) × (¬ AreSameDelays said terms.default)) ⊎ ((line ≡ 4) × AreSameDelays said terms.default × (¬ AreSameOutputs said terms.outputs))

-- whether the text tells others, and on which line
abbrev pub AreCompared : Said → Option Terms → Option ℕ → Type 0
AreCompared said terms None = AreTold said terms
AreCompared said terms (Some line) = AreOther said terms line

-- ---- the verdict

-- where the text tells no other terms
abbrev pub IsVerdictOn : Netlist → Certificate → Verdict → Type 0
IsVerdictOn netlist c verdict.Accepted = Accepts netlist c
IsVerdictOn netlist c verdict.OtherCircuit = ¬ IsOfSize netlist c
IsVerdictOn netlist c (verdict.OtherQuestion line) = ⊥
IsVerdictOn netlist c verdict.PairNotAdmitted = IsOfSize netlist c × (¬ HasAdmittedPair netlist c)
IsVerdictOn netlist c verdict.PairTime = IsOfSize netlist c × HasAdmittedPair netlist c × (¬ HasItsTime netlist c)
IsVerdictOn netlist c (verdict.BadPosition line) = IsFirstBad netlist c Misplaced line
IsVerdictOn netlist c (verdict.NotAPoint line) = IsFirstBad netlist c NotOnePair line
IsVerdictOn netlist c (verdict.LeafBound line) = IsFirstBad netlist c WrongNumber line
IsVerdictOn netlist c (verdict.BadStep line why) = (place : ℕ) × IsFirstBad netlist c (BadStep place why) line
IsVerdictOn netlist c (verdict.LeafNotEmpty line) = IsFirstBad netlist c NotEmpty line
IsVerdictOn netlist c (verdict.LeafAboveTime line) = IsFirstBad netlist c AboveTime line

-- where the checker was told this, of the netlist that is asked about
abbrev pub IsVerdict : Said → Netlist → Certificate → Verdict → Type 0
IsVerdict said netlist c verdict.OtherCircuit = ¬ IsOfSize netlist c
IsVerdict said netlist c (verdict.OtherQuestion line) = IsOfSize netlist c × AreOther said c.question.terms line
IsVerdict said netlist c reported = AreTold said c.question.terms × IsVerdictOn netlist c reported

-- the numbers of the outputs that are asked about: those that the text tells, else those that the
-- checker is told
abbrev pub outputs_for : Option (List ℕ) → Option Terms → Option (List ℕ)
outputs_for outputs None = outputs
outputs_for outputs (Some terms) = terms.outputs

-- These are numbers of the whole netlist's outputs, and the verdict is that on the netlist that has
-- those alone; or they are not, and the certificate is of another circuit.
abbrev pub IsVerdictFor : Said → Netlist → Certificate → Option (List ℕ) → Verdict → Type 0
IsVerdictFor said whole c numbers reported =
    (AreNumbers whole numbers × ((netlist : Netlist) × HasOutputs whole numbers netlist × IsVerdict said netlist c reported))
    ⊎ ((¬ AreNumbers whole numbers) × (reported ≡ verdict.OtherCircuit))

abbrev pub IsVerdictOfWhole : Said → Netlist → Certificate → Verdict → Type 0
IsVerdictOfWhole said whole c reported = IsVerdictFor said whole c (outputs_for said.outputs c.question.terms) reported

-- a certificate has at most one verdict
abbrev pub OneVerdict : Type 0
OneVerdict = (said : Said) (whole : Netlist) (c : Certificate) (this that : Verdict) → IsVerdictOfWhole said whole c this
    → IsVerdictOfWhole said whole c that → this ≡ that
