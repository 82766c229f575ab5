use Rattle.std.proofs.Common.{ap, length, arith}
use Rattle.td_certificate.proofs.asking.admit.Goals as goal

pub limited-requires-clause-firsts : goal.limited-requires-clause-firsts
limited-requires-clause-firsts c = omega (arith, ap length c.deref.ensures.value, c.in_ok-firsts.ensures.count, c.in_ok-held.ensures.count)

pub limited-requires-clause-seconds : goal.limited-requires-clause-seconds
limited-requires-clause-seconds c = omega (arith, ap length c.deref-2.ensures.value, c.in_ok-seconds.ensures.count, c.in_ok-held.ensures.count)
