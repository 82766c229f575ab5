use Rattle.std.proofs.Common.{sym}
use Rattle.td_gates.proofs.Places.{get-slice_get}
use Rattle.td_join.proofs.Times.{whole_claim}
use Rattle.td_join.proofs.claims.claim_of.Goals as goal

pub returns : goal.returns
returns c =
    let certificates = c.args.certificates.now in
    let late = c.index-certificates-latest.result in
    let high = c.index-certificates-highest.result in
    let stands = get-slice_get certificates c.latest.result late late c.latest.ensures.within (sym c.index-certificates-latest.is) in
    let lies = get-slice_get certificates c.highest.result high high c.highest.ensures.within (sym c.index-certificates-highest.is) in
    whole_claim certificates late high c.latest.result c.highest.result _ stands lies (c.latest.ensures.greatest late stands)
    (c.highest.ensures.greatest high lies) c.in_ok-claim.ensures
