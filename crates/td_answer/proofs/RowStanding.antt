-- What is found of an output says truly how a required moment stands.
use Rattle.std.proofs.Common.{ℕ, ◌<◌, ◌≤◌, refl, arith}
use Rattle.std.specs.Prelude.{Option, Some, None}
use Rattle.td_circuit.specs.Settings.{Setting}
use Rattle.td_refutation.specs.Asking.{Asking}
use Rattle.td_refute.specs.Kept.{IsBoundAmong}
use Rattle.td_lines.specs.declared.line.Found.{Found}
use Rattle.td_lines.specs.declared.line.Found.TheVariants as found
use Rattle.td_answer.specs.Findings.{IsTrueFound}
use Rattle.td_answer.specs.Requirements.{standing_of, requirement_of, IsStanding}
use Rattle.td_answer.specs.Tables.{SaysStanding, SomeHas}
use Rattle.td_answer.proofs.Standing.{by_two, none_before}

module _ (setting : Setting) (asking : Asking) where
  more_bound : (one other : ℕ) → one ≤ other → IsBoundAmong setting asking one → IsBoundAmong setting asking other
  more_bound one other le is = λ pair delay among has. (let low = is pair delay among has in omega (arith, le))

  by_figures : (moment low high : ℕ) → IsBoundAmong setting asking high → (moment < low → SomeHas setting asking low)
      → IsStanding (IsBoundAmong setting asking) (SomeHas setting asking) moment (standing_of moment low high)
  by_figures = by_two (IsBoundAmong setting asking) (SomeHas setting asking) more_bound

  pub says_standing : (required : Option ℕ) (known : Found) → IsTrueFound setting asking known → SaysStanding setting asking required (requirement_of required known)
  says_standing None known is = refl
  says_standing (Some moment) (found.Exact time) is =
      (refl, by_figures moment time time is.1 (λ less. (is.0.0, record { asked = is.0.1; delays = is.0.2 })))
  says_standing (Some moment) (found.Between low high) is = (refl, by_figures moment low high is.greatest (λ less. (is.pair, is.has)))
  says_standing (Some moment) (found.AtMost high) is = (refl, by_figures moment 0 high is (λ less. absurd (none_before moment less)))
  says_standing (Some moment) found.NoPair is = (refl, λ pair delay asked has. absurd (is pair asked))
