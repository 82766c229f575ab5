-- Names as reports print them.
use Rattle.std.specs.Prelude.{ℕ, List}
use Rattle.std.specs.Str.Lossy.{utf8_lossy}
use Rattle.td_nets.specs.Netlist.{Name}
use Rattle.td_nets.specs.Printed.{printed}

-- Names are ASCII; of other bytes, what isn't UTF-8 becomes the replacement character.
abbrev pub label : Name → List ℕ
label name = utf8_lossy (printed name)
