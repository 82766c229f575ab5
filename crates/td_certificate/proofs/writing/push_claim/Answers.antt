use Rattle.td_certificate.proofs.Batches.{claim_made}
use Rattle.td_certificate.proofs.writing.push_claim.Goals as goal

pub returns : goal.returns
returns c =
    claim_made c.args.version c.args.claim.now _ _ _ _ _ _ _ _ c.in_ok-writeln.ensures.bytes c.in_ok-push_high.ensures c.in_ok-push_str.ensures.bytes
    (rw c.first.ensures at c.in_ok-push_bits.ensures) c.in_ok-push_str-2.ensures.bytes (rw c.second.ensures at c.in_ok-push_bits-2.ensures) c.in_ok-push_str-3.ensures.bytes
