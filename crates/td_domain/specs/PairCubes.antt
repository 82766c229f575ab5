-- Internal: the cube in which a pair lies alone.
use Rattle.std.specs.Prelude.{Bool, List, map}
use Rattle.td_domain.specs.declared.cubes.Trit.{Trit}
use Rattle.td_domain.specs.Cubes.{weave}
use Rattle.td_domain.specs.Sheets.{known}

abbrev pub cube_of : List Bool → List Bool → List Trit
cube_of before after = weave (map known before) (map known after)
