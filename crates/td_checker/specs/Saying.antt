-- Internal: what the checker is told, as its code has it.
use Rattle.std.specs.Prelude.{option_map}
use Rattle.td_checker.specs.declared.comparing.Saying.{Saying}
use Rattle.td_checker.specs.Verdicts.{Said}

abbrev pub said_of : Saying → Said
said_of saying = record { told = saying.told; default = saying.default; outputs = option_map (λ numbers. numbers.items) saying.outputs }
