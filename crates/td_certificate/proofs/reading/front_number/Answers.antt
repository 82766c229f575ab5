use Rattle.std.proofs.Common.{◌+◌, ◌*◌, ◌^◌, arith, rules}
use Rattle.td_certificate.specs.Reading.{front_number}
use Rattle.td_certificate.proofs.Numbers.{front_ends, front_more, front_done, front_above}
use Rattle.td_certificate.proofs.reading.front_number.Goals as goal

pub returns-then-not-is_ascii_digit : goal.returns-then-not-is_ascii_digit
returns-then-not-is_ascii_digit c =
    let e = front_ends c.loop-byte.number c.loop-byte.byte-index c.args.bytes.now (front_number 0 c.args.bytes.now) c.loop-byte-test.true (search rules) c.loop-byte.invariant.read in
    (e, omega (arith, e, c.loop-byte.invariant.within))

pub returns-then-number-gt-GREATEST : goal.returns-then-number-gt-GREATEST
returns-then-number-gt-GREATEST c =
    front_above (10 ^ 18) (10 * c.loop-byte.number + c.from.result) _ (front_number 0 c.args.bytes.now) c.if-number-gt-GREATEST.true
    (front_more c.loop-byte.number (10 * c.loop-byte.number + c.from.result) c.loop-byte.byte-index c.args.bytes.now (front_number 0 c.args.bytes.now) c.loop-byte-test.true (search rules) (search rules) c.loop-byte.invariant.read)

pub loop-byte-preserved : goal.loop-byte-preserved
loop-byte-preserved c = record {
  within = omega (arith, c.if-number-gt-GREATEST.false);
  read = front_more c.loop-byte.number (10 * c.loop-byte.number + c.from.result) c.loop-byte.byte-index c.args.bytes.now (front_number 0 c.args.bytes.now) c.loop-byte-test.true (search rules) (search rules) c.loop-byte.invariant.read;
}

pub returns : goal.returns
returns c =
    let e = front_done c.loop-byte.number c.loop-byte.byte-index c.args.bytes.now (front_number 0 c.args.bytes.now) (omega arith) c.loop-byte.invariant.read in
    (e, omega (arith, e, c.loop-byte.invariant.within))
