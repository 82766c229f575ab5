-- What verdicts mean, and what to do about them.
use Rattle.std.specs.Prelude.{ℕ, List, codes}
use Rattle.td_checker.specs.declared.verdict.Verdict.{Verdict}
use Rattle.td_checker.specs.declared.verdict.Verdict.TheVariants as verdict
use Rattle.td_refutation.specs.declared.flaw.Flaw.{Flaw}
use Rattle.td_refutation.specs.declared.flaw.Flaw.TheVariants as flaw

-- why a step of a refutation isn't good
abbrev pub flaw_sentence : Flaw → List ℕ
flaw_sentence flaw.WrongNumbers = codes "a line with too few numbers, too many, or one that is out of range"
flaw_sentence flaw.LateVariable = codes "a variable after a step"
flaw_sentence flaw.NotGood = codes "a step that doesn't hold of this circuit"

abbrev pub sentence : Verdict → List ℕ
sentence verdict.Accepted = codes "the certificate is right"
sentence verdict.PairTime = codes "the delay of its pair isn't its time"
sentence (verdict.LeafBound one) = codes "a leaf's number is less than the bound of its cube, or isn't the delay of its pair"
sentence (verdict.LeafAboveTime one) = codes "a leaf's number is greater than the certificate's time, or than the number of its line high"
sentence (verdict.BadPosition one) = codes "a split at a position that doesn't exist or isn't free there"
sentence (verdict.NotAPoint one) = codes "a leaf of one pair where a bit is still free"
sentence verdict.OtherCircuit = codes "its numbers of inputs and gates, or its conditions, don't fit the circuit"
sentence verdict.PairNotAdmitted = codes "its pair isn't one that its lines first, second, hold, flips and keep admit"
sentence (verdict.LeafNotEmpty one) = codes "a leaf has to show that no admitted pair lies in its cube, and doesn't"
sentence (verdict.BadStep line reason) = flaw_sentence reason
sentence (verdict.OtherQuestion one) = codes "it is about other default delays, or about other outputs"

abbrev pub advice : Verdict → List ℕ
advice verdict.Accepted = codes "there is nothing to do"
advice verdict.PairTime = codes "check it with the netlist, the default delays and the --output of its search; else search again"
advice (verdict.LeafBound one) = codes "check it with the netlist, the default delays and the --output of its search; else search again"
advice (verdict.LeafAboveTime one) = codes "the certificate is wrong: search again"
advice (verdict.BadPosition one) = codes "the certificate is wrong: search again"
advice (verdict.NotAPoint one) = codes "the certificate is wrong: search again"
advice verdict.OtherCircuit = codes "give the netlist that it was made for; `info` counts inputs and gates"
advice verdict.PairNotAdmitted = codes "the certificate is wrong: search again"
advice (verdict.LeafNotEmpty one) = codes "the certificate is wrong: search again"
advice (verdict.OtherQuestion one) = codes "give the --default-rise, --default-fall and --output of its search: its line has them"
advice (verdict.BadStep one other) = codes "check it with the netlist, the default delays and the --output that it was made for; else make it again"
