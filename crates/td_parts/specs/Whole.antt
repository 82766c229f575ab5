-- Cubes that a search leaves whole.
use Rattle.std.specs.Prelude.{◌≡◌, ◌⊎◌, true, List, Some}
use Rattle.td_circuit.specs.Settings.{Setting}
use Rattle.td_domain.specs.declared.cubes.Trit.{Trit}
use Rattle.td_domain.specs.Cubes.{IsPoint}
use Rattle.td_certificate.specs.declared.tree.BoundedBy.{BoundedBy}
use Rattle.td_certificate.specs.Accepts.{IsBoundBy}
use Rattle.td_search.specs.declared.strategy.Strategy.{Strategy}
use Rattle.td_search.specs.Problems.{asks}

-- a search by the strategy would not split the cube: nothing is free in it, or a domain that the
-- strategy asks bounds it by 0
abbrev pub IsWhole : Strategy → Setting → List Trit → Type 0
IsWhole strategy given cube = IsPoint cube ⊎ ((domain : BoundedBy) × (asks strategy domain ≡ true) × IsBoundBy domain given cube (Some 0))
