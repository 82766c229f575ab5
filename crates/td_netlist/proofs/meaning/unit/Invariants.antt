use Rattle.std.proofs.Common.{◌≡◌, take}
use Rattle.td_netlist.specs.Module.{unit_of}
use Rattle.td_netlist.proofs.meaning.unit.Given as goal

abbrev pub invariant-loop-front : goal.invariant-loop-front
invariant-loop-front l = l.unit ≡ unit_of (take l.front-index l.fronts)
