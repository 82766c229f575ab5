-- Beside the model: which waves a signal of possible levels covers, and the moments in it.
use Rattle.std.specs.Prelude.{◌≡◌, ℕ, true, map}
use Rattle.std.specs.List.{Contains}
use Rattle.td_gates.specs.Wave.{Wave, before}
use Rattle.td_ternary.specs.Possibles.{has}

-- before each moment the wave's level is among those that the signal's stands for
abbrev pub LevelsCover : Wave → Wave → Type 0
LevelsCover signal wave = (n : ℕ) → has (before signal n) (before wave n) ≡ true

-- the moments in a signal are those of its changes
abbrev pub HasMoment : Wave → ℕ → Type 0
HasMoment signal moment = Contains (map (λ change. change.moment) signal.changes) moment
