-- Beside the model: which waves an arrival window covers, and the moments in it.
use Rattle.std.specs.Prelude.{◌≡◌, ◌⊎◌, ℕ, ◌<◌, max, Option, Some, None}
use Rattle.td_gates.specs.Wave.{Wave, at}
use Rattle.td_gates.specs.Known.{Agrees, Finishes}
use Rattle.td_domain.specs.Waves.{IsQuietAfter}
use Rattle.td_arrival.specs.declared.signals.Span.{Span}
use Rattle.td_arrival.specs.declared.signals.Signal.{Signal}

-- the wave changes only within the span, never where there is none
abbrev pub ChangesWithin : Option Span → Wave → Type 0
ChangesWithin None wave = (t : ℕ) → at wave t ≡ wave.start
ChangesWithin (Some span) wave = ((t : ℕ) → t < span.earliest → at wave t ≡ wave.start) × IsQuietAfter span.latest wave

-- the signal covers the wave
pub record ArrivalsCover (signal : Signal) (wave : Wave) : Type 0 where
  pub start : Agrees signal.start wave.start
  pub finish : Finishes signal.finish wave
  pub changes : ChangesWithin signal.changes wave

-- the moment is one of the ends of the span
abbrev pub IsEnd : Option Span → ℕ → Type 0
IsEnd None moment = ⊥
IsEnd (Some span) moment = (moment ≡ span.earliest) ⊎ (moment ≡ span.latest)

-- the moments in a signal are the ends of its span
abbrev pub HasMoment : Signal → ℕ → Type 0
HasMoment signal moment = IsEnd signal.changes moment

-- the greatest moment of a span
abbrev pub span_reach : Option Span → ℕ
span_reach None = 0
span_reach (Some span) = max span.earliest span.latest
