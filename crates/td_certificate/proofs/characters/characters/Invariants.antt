use Rattle.std.proofs.Common.{◌≡◌, ◌-◌, length}
use Rattle.td_certificate.specs.Reading.{chars_at}
use Rattle.td_certificate.proofs.Loops.{with_front}
use Rattle.td_certificate.proofs.characters.characters.Given as goal

abbrev pub invariant-loop : goal.invariant-loop
invariant-loop g l = record {
  read : with_front l.values.items (chars_at g.A.Alphabet.value_of (l.count - l.counter) l.rest) ≡ chars_at g.A.Alphabet.value_of l.count l.text;
  count : length l.values.items ≡ l.counter;
}
