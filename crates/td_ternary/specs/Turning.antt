-- Internal: how possible levels are computed, as levels of waves.
use Rattle.std.specs.Prelude.{ℕ, if◌then◌else◌}
use Rattle.td_gates.specs.declared.primitives.Level.{Level}
use Rattle.td_gates.specs.declared.primitives.Level.TheVariants.{Zero as Low, One as High}
use Rattle.td_gates.specs.declared.timing.Delay.{Delay}
use Rattle.td_gates.specs.Table.{level_eq}
use Rattle.td_ternary.specs.Possibles.{has, set_of, is_possible}

-- 1 where it may be the wanted level, else 0
abbrev pub may_be : Level → Level → Level
may_be wanted level = if has level wanted then High else Low

-- the level that stands for those whose wave is at 1
abbrev pub either : Level → Level → Level
either low high = set_of (level_eq High low) (level_eq High high)

-- the possible levels of an output just before a moment, where the target's are these
abbrev pub possible_after : Delay → (ℕ → Level) → ℕ → Level
possible_after delay target n = set_of
    (is_possible (λ m. has (target m) Low) delay.fall delay.rise n)
    (is_possible (λ m. has (target m) High) delay.rise delay.fall n)
