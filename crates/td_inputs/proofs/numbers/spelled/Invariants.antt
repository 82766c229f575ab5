use Rattle.std.proofs.Common.{◌≡◌, drop}
use Rattle.td_inputs.specs.Numbers.{digits_from}
use Rattle.td_inputs.proofs.numbers.spelled.Given as goal

-- the rest of the digits leads to the number
abbrev pub invariant-loop-byte : goal.invariant-loop-byte
invariant-loop-byte l = digits_from l.radix l.number (drop l.byte-index l.text) ≡ digits_from l.radix 0 l.text
