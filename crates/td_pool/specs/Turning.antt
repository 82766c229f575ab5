-- What a worker is to do next.
use Rattle.td_domain.specs.declared.cubes.Trit.{Trit}
use Rattle.td_domain.specs.declared.cubes.Trit.TheVariants.{Zero, One, Free}
use Rattle.td_search.specs.Below.{IsWithin}
use Rattle.td_search.specs.Problems.{Problem}
use Rattle.td_pool.specs.declared.shared.Turn.{Turn}
use Rattle.td_pool.specs.declared.shared.Turn.TheVariants.{Work, Seek, Wait, End}

-- the pin allows all bits that the trit allows
abbrev pub IsPinned : Trit → Trit → Type 0
IsPinned Free trit = Unit {0}
IsPinned Zero Zero = Unit {0}
IsPinned One One = Unit {0}
IsPinned pin trit = ⊥

-- the cube of a leased leaf is one of the circuit's vectors, and a part of the pins
abbrev pub IsTurn : Problem → Turn → Type 0
IsTurn asked (Work lease) = IsWithin asked lease.cube
IsTurn asked Seek = Unit {0}
IsTurn asked Wait = Unit {0}
IsTurn asked End = Unit {0}
