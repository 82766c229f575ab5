-- Internal: what a search is asked, where nothing is said of it.
use Rattle.std.specs.Prelude.{[]}
use Rattle.td_nets.specs.declared.netlist.Scale.TheVariants as scale
use Rattle.td_search.specs.declared.strategy.Strategy.TheVariants.{Least}
use Rattle.td_search.specs.Problems.{Problem}

-- a netlist without nets
abbrev pub nothing_asked : Problem
nothing_asked = record {
  setting = record { netlist = record { name = []; inputs = []; outputs = []; gates = []; unit = record { magnitude = 1; scale = scale.Seconds }; defaulted = 0 }; moments = [] };
  admit = record { pins = []; held = []; flips = 0 };
  strategy = Least;
}
