-- Internal: what is said of the lines of a tree.
use Rattle.std.specs.Prelude.{◌≡◌, ℕ, ◌+◌, ◌-◌, ◌<◌, List, take, slice_get, Option, Some, None}
use Rattle.std.specs.List.{AllByRecursion}
use Rattle.td_circuit.specs.Settings.{Setting}
use Rattle.td_domain.specs.declared.cubes.Trit.{Trit}
use Rattle.td_refutation.specs.Asking.{Asking}
use Rattle.td_certificate.specs.declared.tree.Node.{Node}
use Rattle.td_certificate.specs.declared.tree.Node.TheVariants as node
use Rattle.td_certificate.specs.Accepts.{IsGood}
use Rattle.td_certificate.specs.Walks.{Line}
use Rattle.td_checker.specs.declared.judging.Flaw as code_flaw
use Rattle.td_checker.specs.declared.judging.Flaw.TheVariants as code
use Rattle.td_checker.specs.declared.checking.BadLine.{BadLine}
use Rattle.td_checker.specs.declared.verdict.Verdict.{Verdict}
use Rattle.td_checker.specs.declared.verdict.Verdict.TheVariants as verdict
use Rattle.td_checker.specs.declared.judging.Judged as code_judged
use Rattle.td_checker.specs.declared.judging.Judged.TheVariants as judged
use Rattle.td_checker.specs.Verdicts.{Flaw, Misplaced, NotEmpty, NotOnePair, WrongNumber, AboveTime, BadStep, HasFlaw, line_count, line_total, reported_at}

-- the flaw; where it is a step's, `at` says at which of its node's lines
abbrev pub flaw_of : code_flaw.Flaw → ℕ → Flaw
flaw_of code.Misplaced at = Misplaced
flaw_of code.NotOnePair at = NotOnePair
flaw_of code.WrongNumber at = WrongNumber
flaw_of code.NotEmpty at = NotEmpty
flaw_of code.AboveTime at = AboveTime
flaw_of (code.BadStep why) at = BadStep (at - 1) why

abbrev pub with_cube : List Trit → Node → Line
with_cube cube node = record { cube = cube; node = node }

-- the flaw of a leaf that isn't true of its cube
abbrev pub wrong_flaw : Node → code_flaw.Flaw
wrong_flaw node.Empty = code.NotEmpty
wrong_flaw _ = code.WrongNumber

-- the line, which is one of the text, is good, or has this flaw
abbrev pub IsJudgedLine : Setting → Asking → Option ℕ → Line → Option code_flaw.Flaw → Type 0
IsJudgedLine setting asking most line None = IsGood setting asking most line
IsJudgedLine setting asking most line (Some flaw) = HasFlaw setting asking most (flaw_of flaw 0) line × (reported_at (flaw_of flaw 0) line.node ≡ 0)

-- the line has this flaw, and `at` says at which of its node's lines
pub record IsFlawed (setting : Setting) (asking : Asking) (most : Option ℕ) (line : Line) (flaw : Flaw) (at : ℕ) : Type 0 where
  pub has : HasFlaw setting asking most flaw line
  pub at_is : at ≡ reported_at flaw line.node
  pub inside : at < line_count line.node

-- the line is good, and takes this number of the text's lines
pub record IsGoodLine (setting : Setting) (asking : Asking) (most : Option ℕ) (line : Line) (count : ℕ) : Type 0 where
  pub good : IsGood setting asking most line
  pub count_is : count ≡ line_count line.node

abbrev pub IsJudged : Setting → Asking → Option ℕ → Line → code_judged.Judged → Type 0
IsJudged setting asking most line (judged.Good count) = IsGoodLine setting asking most line count
IsJudged setting asking most line (judged.Bad flaw at) = IsFlawed setting asking most line (flaw_of flaw at) at

-- One of these lines is the first bad one, and has this flaw. As many of the text's lines as
-- `before` says stand before the flaw.
pub record IsBadAt (setting : Setting) (asking : Asking) (most : Option ℕ) (lines : List Line) (flaw : Flaw) (before : ℕ) : Type 0 where
  pub place : ℕ
  pub bad : Line
  pub stands : slice_get lines place ≡ Some bad
  pub good_before : AllByRecursion (IsGood setting asking most) (take place lines)
  pub has : HasFlaw setting asking most flaw bad
  pub before_is : before ≡ line_total (take place lines) + reported_at flaw bad.node

-- a flaw of the code's, at whatever line a step's is
pub record IsFoundBad (setting : Setting) (asking : Asking) (most : Option ℕ) (lines : List Line) (reported : BadLine) : Type 0 where
  pub at : ℕ
  pub bad : IsBadAt setting asking most lines (flaw_of reported.flaw at) reported.before

-- the lines are good, or this is the first bad one
abbrev pub AreJudged : Setting → Asking → Option ℕ → List Line → Option BadLine → Type 0
AreJudged setting asking most lines None = AllByRecursion (IsGood setting asking most) lines
AreJudged setting asking most lines (Some reported) = IsFoundBad setting asking most lines reported

-- the verdict that tells this flaw of a line
abbrev pub reported_as : code_flaw.Flaw → ℕ → Verdict
reported_as code.Misplaced line = verdict.BadPosition line
reported_as code.NotOnePair line = verdict.NotAPoint line
reported_as code.WrongNumber line = verdict.LeafBound line
reported_as code.NotEmpty line = verdict.LeafNotEmpty line
reported_as code.AboveTime line = verdict.LeafAboveTime line
reported_as (code.BadStep why) line = verdict.BadStep line why
