use Rattle.std.proofs.Common.{◌≡◌, ◌≤◌, ◌^◌, drop}
use Rattle.td_certificate.specs.Reading.{front_number}
use Rattle.td_certificate.proofs.reading.front_number.Given as goal

abbrev pub invariant-loop-byte : goal.invariant-loop-byte
invariant-loop-byte l = record {
  within : l.number ≤ 10 ^ 18;
  read : front_number l.number (drop l.byte-index l.bytes) ≡ front_number 0 l.bytes;
}
