-- Laws of the dumps of netlists that are read of texts.
use Rattle.std.specs.Prelude.{◌≡◌, ℕ, List, length}
use Rattle.std.specs.List.{AllByRecursion}
use Rattle.td_reading.specs.declared.reading.Reading.{Reading}
use Rattle.td_gates.specs.Wave.{Wave, IsWave}
use Rattle.td_nets.specs.Netlist.{Netlist}
use Rattle.td_nets.specs.WellFormed.{driven}
use Rattle.td_source.specs.Reads.{ReadsNetlist}
use Rattle.td_vcd.specs.Text.{dump}
use Rattle.td_vcd.specs.Says.{SaysWaves}
use Rattle.td_vcd.specs.Laws.{HasNamesOnOneLine}

-- no name of the netlist that is read of a text has a newline
abbrev pub NamesOfTexts : Type 0
NamesOfTexts = (text : List ℕ) (reading : Reading) (netlist : Netlist) → ReadsNetlist text reading netlist → HasNamesOnOneLine netlist

-- read back, a dump of a wave for each driven net of the netlist that is read of a text says exactly
-- these waves
abbrev pub DumpsOfTextsSay : Type 0
DumpsOfTextsSay = (text : List ℕ) (reading : Reading) (netlist : Netlist) (waves : List Wave) → ReadsNetlist text reading netlist
    → AllByRecursion IsWave waves → length waves ≡ length (driven netlist) → SaysWaves (dump netlist waves) waves
