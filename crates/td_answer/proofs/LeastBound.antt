-- The least of bounds is a bound, and meets a required moment.
use Rattle.std.proofs.Common.{◌≡◌, ℕ, Bool, true, false, cond, List, refl, arith}
use Rattle.std.proofs.lemmas.Bool.{leb-true}
use Rattle.std.specs.Prelude.{Option, Some, None, nat_le}
use Rattle.td_gates.proofs.Places.{some-same}
use Rattle.td_circuit.specs.Settings.{Setting}
use Rattle.td_domain.specs.declared.cubes.Trit.{Trit}
use Rattle.td_domain.specs.Admits.{Admitted}
use Rattle.td_domain.specs.Bounds.{IsUpperBoundIn}
use Rattle.td_domain.specs.Worst.{IsUpperBound}
use Rattle.td_spans.specs.Pieces.{nearest}
use Rattle.td_request.specs.declared.request.Bound.{Bound}
use Rattle.td_lines.specs.declared.line.Line.{Line}
use Rattle.td_lines.specs.declared.line.Standing.TheVariants.{Met, Open}
use Rattle.td_answer.specs.Bounds.{HasEdges, ReportsBounds, asks_edges}
use Rattle.td_answer.specs.Requirements.{bound_standing}

module _ (setting : Setting) (cube : List Trit) where
  -- where there is a bound, no pair of the cube has a greater delay
  abbrev IsSound : Option ℕ → Type 0
  IsSound bound = (moment : ℕ) → bound ≡ Some moment → IsUpperBoundIn setting cube moment

  nothing_sound : (bound : Option ℕ) → bound ≡ None → IsSound bound
  nothing_sound None is = λ moment e. absurd cc
  nothing_sound (Some bound) is = absurd cc

  lesser_sound : (one other : Option ℕ) → IsSound one → IsSound other → IsSound (nearest one other)
  lesser_sound None other is is_other = is_other
  lesser_sound (Some one) None is is_other = is
  lesser_sound (Some one) (Some other) is is_other = λ moment e pair delay inside has.
      let first = is one refl pair delay inside has in
      let second = is_other other refl pair delay inside has in
      omega (arith, first, second, some-same _ _ e)

  edges_sound : (asks : Bool) (edges : Option ℕ) (lines : List Line) → HasEdges asks setting cube edges lines → IsSound edges
  edges_sound false edges lines has = nothing_sound edges has.0
  edges_sound true edges lines has = rw has.least_is (lesser_sound has.alone has.together has.alone_is.sound has.together_is.sound)

  least_sound : (asked : Bound) (least : Option ℕ) (report : List Line) → ReportsBounds asked setting cube least report → IsSound least
  least_sound asked least report has =
      rw has.least_is (lesser_sound _ _ (lesser_sound has.arrivals has.possibles has.arrivals_is.sound has.possibles_is.sound)
      (lesser_sound has.both has.edges has.both_is.sound (edges_sound (asks_edges asked) has.edges has.by_edges has.has_edges)))

  never_open : Open ≡ Met → ⊥
  never_open is = absurd cc

  met_in : (least : Option ℕ) → IsSound least → (moment : ℕ) → bound_standing moment least ≡ Met → IsUpperBoundIn setting cube moment
  met_in None sound moment met = absurd (never_open met)
  met_in (Some least) sound moment met = go (nat_le least moment) refl met
    where
      go : (within : Bool) → nat_le least moment ≡ within → cond within Met Open ≡ Met → IsUpperBoundIn setting cube moment
      go true e is = λ pair delay inside has.
          let low = sound least refl pair delay inside has in
          omega (arith, leb-true least moment e, low)
      go false e is = absurd (never_open is)

-- no admitted pair is later than a moment that the least bound of the pins meets
pub met_by : (asked : Bound) (setting : Setting) (admit : Admitted) (least : Option ℕ) (report : List Line)
    → ReportsBounds asked setting admit.pins least report → (moment : ℕ) → bound_standing moment least ≡ Met → IsUpperBound setting admit moment
met_by asked setting admit least report has moment met = λ pair delay admitted delays.
    met_in setting admit.pins least (least_sound setting admit.pins asked least report has) moment met pair delay admitted.pinned delays
