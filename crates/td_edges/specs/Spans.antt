-- Spans: when a net may change, to 0 and to 1 apart.
use Rattle.std.specs.Prelude.{ℕ, max, nat_lt, Option, Some, None, if◌then◌else◌}
use Rattle.td_gates.specs.declared.primitives.Level.{Level}
use Rattle.td_gates.specs.declared.primitives.Level.TheVariants.{Zero as Low, One as High, X}
use Rattle.td_edges.specs.declared.signals.Span.{Span}

-- The moment before which all changes to a level come: the one after the latest, or 0 where there
-- is none. An unknown level stands for both.
abbrev pub until : Level → Span → ℕ
until Low span = span.falls_until
until High span = span.rises_until
until X span = max span.falls_until span.rises_until

abbrev pub until_of : Level → Option Span → ℕ
until_of level None = 0
until_of level (Some span) = until level span

-- the earliest change, 0 where there is none
abbrev pub earliest_of : Option Span → ℕ
earliest_of None = 0
earliest_of (Some span) = span.earliest

-- the span, where a change may come in it
abbrev pub moving : Span → Option Span
moving span = if nat_lt 0 (until X span) then Some span else None
