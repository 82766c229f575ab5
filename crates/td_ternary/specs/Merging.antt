-- Internal: signals that are read from moment to moment, and what a gate's output makes of its
-- target where that is read.
use Rattle.std.specs.Prelude.{ℕ, ◌==◌, List, [], ◌∷◌, Option, Some, None, if◌then◌else◌}
use Rattle.td_gates.specs.declared.primitives.Level.{Level}
use Rattle.td_gates.specs.declared.primitives.Kind.{Kind}
use Rattle.td_gates.specs.declared.primitives.Kind.TheVariants.{And, Nand, Or, Nor, Xor, Xnor, Buf, Not}
use Rattle.td_gates.specs.declared.timing.Delay.{Delay}
use Rattle.td_gates.specs.declared.timing.Change.{Change}
use Rattle.td_gates.specs.Table.{level_eq}
use Rattle.td_ternary.specs.Prospects.{Outlook, settling, passed}

-- the moment of the first change, if there is one
abbrev pub first_moment : List Change → Option ℕ
first_moment [] = None
first_moment (change ∷ later) = Some change.moment

-- the level after a moment, before which there is no change
abbrev pub level_behind : ℕ → Level → List Change → Level
level_behind moment level [] = level
level_behind moment level (change ∷ later) = if change.moment == moment then change.level else level

-- the changes after a moment, before which there is none
abbrev pub rest_behind : ℕ → List Change → List Change
rest_behind moment [] = []
rest_behind moment (change ∷ later) = if change.moment == moment then later else change ∷ later

-- what is known once the target, which was at a level, was read
abbrev pub shifted : Delay → Delay → Change → Level → Outlook → Outlook
shifted falling rising sample target now =
    if level_eq sample.level target then now else passed falling rising sample now

-- the changes of the signal by then
abbrev pub shifting : Change → Level → Outlook → List Change
shifting sample target now = if level_eq sample.level target then [] else settling (Some sample.moment) now

-- the kind of a gate with two inputs that makes of a level beside a 1 what a gate of this kind
-- makes of the level alone
abbrev pub beside_one : Kind → Kind
beside_one And = And
beside_one Or = And
beside_one Xor = And
beside_one Buf = And
beside_one Nand = Nand
beside_one Nor = Nand
beside_one Xnor = Nand
beside_one Not = Nand
