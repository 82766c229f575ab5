use Rattle.std.proofs.Common.{◌≡◌, ◌≤◌, ◌^◌, length}
use Rattle.td_certificate.specs.StepReading.{open_digits_at, open_number_at}
use Rattle.td_certificate.proofs.steps.open_number.Given as goal

abbrev pub invariant-digits : goal.invariant-digits
invariant-digits l = record {
  within : l.number ≤ 10 ^ 18;
  read : open_digits_at l.number l.rest ≡ open_number_at l.text;
}

abbrev pub decreases-digits : goal.decreases-digits
decreases-digits l = length l.rest
