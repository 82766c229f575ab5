-- Beside the model: which waves edges cover, and the moments in them.
use Rattle.std.specs.Prelude.{◌≡◌, ◌≢◌, ◌⊎◌, ℕ, ◌+◌, ◌-◌, ◌<◌, ◌≤◌, max, Option, Some, None}
use Rattle.td_gates.specs.declared.primitives.Level.TheVariants.{X}
use Rattle.td_gates.specs.Wave.{Wave, at, before}
use Rattle.td_gates.specs.Known.{Agrees, Finishes}
use Rattle.td_edges.specs.declared.signals.Span.{Span}
use Rattle.td_edges.specs.declared.signals.Signal.{Signal}
use Rattle.td_edges.specs.Spans.{until}

-- the wave changes no sooner than the earliest moment, to each level only before that level's
-- moment, and never where there is no span
abbrev pub ChangesWithin : Option Span → Wave → Type 0
ChangesWithin None wave = (t : ℕ) → at wave t ≡ before wave t
ChangesWithin (Some span) wave = (t : ℕ) → at wave t ≢ before wave t → (span.earliest ≤ t) × (t < until (at wave t) span)

-- the signal covers the wave
pub record EdgesCover (signal : Signal) (wave : Wave) : Type 0 where
  pub start : Agrees signal.start wave.start
  pub finish : Finishes signal.finish wave
  pub changes : ChangesWithin signal.changes wave

-- the moment is the earliest one, or that of the latest change to a level
abbrev pub IsEnd : Option Span → ℕ → Type 0
IsEnd None moment = ⊥
IsEnd (Some span) moment = (moment ≡ span.earliest) ⊎ (moment + 1 ≡ span.falls_until) ⊎ (moment + 1 ≡ span.rises_until)

-- the moments in a signal are the ends of its span
abbrev pub HasMoment : Signal → ℕ → Type 0
HasMoment signal moment = IsEnd signal.changes moment

-- the greatest moment of a span
abbrev pub span_reach : Option Span → ℕ
span_reach None = 0
span_reach (Some span) = max span.earliest (until X span - 1)
