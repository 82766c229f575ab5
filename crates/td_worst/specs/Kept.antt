-- What a search for the worst delay of the pairs that keep conditions comes to.
use Rattle.std.specs.Prelude.{◌≡◌, ℕ, ◌≤◌, min, Bool, true, List, length, Option, Some, None, IfSome}
use Rattle.td_circuit.specs.Settings.{Setting}
use Rattle.td_domain.specs.Admits.{Admitted}
use Rattle.td_lead.specs.declared.timed.Timed.{Timed}
use Rattle.td_refutation.specs.declared.conditions.NamedCondition.{NamedCondition}
use Rattle.td_refutation.specs.Asking.{Asking}
use Rattle.td_refute.specs.Kept.{IsTimedAmong, IsBoundAmong, IsShownAmong, AsksNone}
use Rattle.td_certificate.specs.declared.tree.BoundedBy.TheVariants.{Edges}
use Rattle.td_certificate.specs.declared.tree.Node.{Node}
use Rattle.td_certificate.specs.declared.certificate.Certificate.{Certificate}
use Rattle.td_certificate.specs.declared.certificate.Claim.{Claim}
use Rattle.td_certificate.specs.Accepts.{Accepts, IsBoundBy}
use Rattle.td_certificate.specs.Lengths.{HaveFew}
use Rattle.td_certificate.specs.Questions.{Terms, Question}
use Rattle.td_certificate.specs.Spelling.{AreConditions, AreTerms}
use Rattle.td_search.specs.declared.answers.Cause.TheVariants as cause
use Rattle.td_search.specs.Written.{HasText}
use Rattle.td_worst.specs.declared.question.KeptQuestion.{KeptQuestion}
use Rattle.td_worst.specs.declared.kept_answer.KeptAnswer.{KeptAnswer}
use Rattle.td_worst.specs.declared.kept_answer.KeptAnswer.TheVariants as kept

-- the admitted pairs that keep conditions
abbrev pub asking_by : Admitted → List NamedCondition → Asking
asking_by admit keep = record { admit = admit; keep = keep }

abbrev pub asking_in : KeptQuestion → Asking
asking_in question = asking_by question.admit.now question.keep.now

-- what a certificate is about that tells these terms: it counts no more flips than there are inputs
abbrev pub question_with : Setting → Admitted → Terms → Question
question_with given admit terms = record {
  admit = record admit { flips = min admit.flips (length admit.held) };
  moments = given.moments;
  terms = Some terms;
}

abbrev pub certificate_with : Setting → Admitted → Terms → Option Claim → List Node → Certificate
certificate_with given admit terms claim tree =
    record { gates = length given.netlist.gates; question = question_with given admit terms; claim = claim; tree = tree }

-- The certificate of a claim and a tree is accepted, and has a text within the limit, whatever terms
-- tell these conditions.
pub record IsCertifiedAmong (given : Setting) (asking : Asking) (claim : Option Claim) (tree : List Node) : Type 0 where
  pub accepted : (terms : Terms) → terms.keep ≡ asking.keep → Accepts given.netlist (certificate_with given asking.admit terms claim tree)
  pub written : (terms : Terms) → terms.keep ≡ asking.keep → AreTerms (Some terms) → HaveFew (Some terms)
      → HasText (certificate_with given asking.admit terms claim tree)
  pub told : AreConditions asking.keep
  pub few : length asking.keep ≤ 5000

-- the claim that the pair has its delay, and that no pair is later than the other moment
abbrev pub claim_to : Timed → ℕ → Claim
claim_to best high = record { time = best.time; high = high; pair = best.pair }

-- the claim that the pair's delay is the worst
abbrev pub claim_of : Timed → Claim
claim_of best = claim_to best best.time

-- the pair is one of those asked about, and none of them is later
pub record IsWorstAmong (given : Setting) (asking : Asking) (best : Timed) : Type 0 where
  pub timed : IsTimedAmong given asking best
  pub greatest : IsBoundAmong given asking best.time

-- the pair is one of those asked about, and none of them is later than the upper figure
pub record LiesBetweenAmong (given : Setting) (asking : Asking) (best : Timed) (high : ℕ) : Type 0 where
  pub timed : IsTimedAmong given asking best
  pub greatest : IsBoundAmong given asking high
  pub ordered : best.time ≤ high

-- What an answer says is true, and the certificate of one that leaves nothing open is accepted. The
-- steps that are left of another one show their bound.
abbrev pub IsKeptAnswer : Setting → Asking → KeptAnswer → Type 0
IsKeptAnswer given asking (kept.Exact best tree) = IsWorstAmong given asking best × IsCertifiedAmong given asking (Some (claim_of best)) tree
IsKeptAnswer given asking (kept.Between best high why steps) = LiesBetweenAmong given asking best high × IfSome steps (IsShownAmong given asking)
IsKeptAnswer given asking (kept.Open high why) = IsBoundAmong given asking high
IsKeptAnswer given asking (kept.NoPair tree) = AsksNone given asking × IsCertifiedAmong given asking None tree

-- an upper figure that is open is at most this
abbrev pub IsKeptWithin : ℕ → KeptAnswer → Type 0
IsKeptWithin most (kept.Exact best tree) = Unit {0}
IsKeptWithin most (kept.Between best high why steps) = high ≤ most
IsKeptWithin most (kept.Open high why) = high ≤ most
IsKeptWithin most (kept.NoPair tree) = Unit {0}

-- an upper figure that is open is at most the bound of the pins by edges
abbrev pub IsKeptWithinEdges : Setting → Admitted → KeptAnswer → Type 0
IsKeptWithinEdges given admit answer = (bound : ℕ) → IsBoundBy Edges given admit.pins (Some bound) → IsKeptWithin bound answer

-- time is the cause only where the search's stop can be set
abbrev pub KeptTimeNeedsStop : Bool → KeptAnswer → Type 0
KeptTimeNeedsStop can_be_set (kept.Exact best tree) = Unit {0}
KeptTimeNeedsStop can_be_set (kept.Between best high why steps) = why ≡ cause.Time → can_be_set ≡ true
KeptTimeNeedsStop can_be_set (kept.Open high why) = why ≡ cause.Time → can_be_set ≡ true
KeptTimeNeedsStop can_be_set (kept.NoPair tree) = Unit {0}
