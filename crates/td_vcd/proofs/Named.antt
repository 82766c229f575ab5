-- Read back, a dump says exactly the waves of its variables.
use Rattle.std.proofs.Common.{◌≡◌, ◌∙◌, List, length, sym}
use Rattle.std.specs.List.{AllByRecursion}
use Rattle.td_gates.specs.Wave.{Wave, IsWave}
use Rattle.td_nets.specs.Netlist.{Name, Netlist}
use Rattle.td_vcd.specs.Text.{dump_lines, named_dump}
use Rattle.td_vcd.specs.Says.{IsOnOneLine, SaysWaves}
use Rattle.td_vcd.proofs.Counted.{dump_declares}
use Rattle.td_vcd.proofs.OneLine.{dump_fine}
use Rattle.td_vcd.proofs.Rising.{dump_rises}
use Rattle.td_vcd.proofs.Saying.{says_start, says_level}
use Rattle.td_vcd.proofs.Steps.{dump_is}

pub says_named : (netlist : Netlist) (names : List Name) (waves : List Wave) → IsOnOneLine netlist.name
    → AllByRecursion (λ (name : Name). IsOnOneLine name.text) names → AllByRecursion IsWave waves → length waves ≡ length names
    → SaysWaves (named_dump netlist names waves) waves
says_named netlist names waves own fine rise long = record {
  lines = dump_lines netlist names waves;
  each = dump_fine netlist names waves own fine;
  parts = dump_is netlist names waves;
  count = dump_declares netlist names waves ∙ sym long;
  rising = dump_rises netlist names waves;
  starts = λ variable wave is level. says_start netlist names waves variable wave level rise is;
  levels = λ variable t wave is level. says_level netlist names waves variable t wave level rise is;
}
