-- Internal: a module whose checks of names pass.
use Rattle.std.specs.Prelude.{◌≡◌, List, Ok}
use Rattle.td_syntax.specs.Grammar as grammar
use Rattle.td_netlist.specs.Checks.{Drivers, Known, Sides, declared_at, driven_at}
use Rattle.td_netlist.specs.Module.{Primitive, primitives}

-- the checks pass, and come to these ports by direction, these names and these instances
pub record IsChecked (m : grammar.Module) (sides : Sides) (names : List Known) (instances : List Primitive) : Type 0 where
  pub declared : List Known
  pub drivers : Drivers
  pub declares : declared_at m ≡ Ok (sides, declared)
  pub drives : driven_at sides declared (primitives m) ≡ Ok drivers
  pub named : names ≡ drivers.names
  pub lists : instances ≡ primitives m
