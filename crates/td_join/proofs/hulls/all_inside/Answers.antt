use Rattle.std.proofs.Common.{List, subst, take_all}
use Rattle.std.specs.Prelude.{All}
use Rattle.td_certificate.specs.declared.certificate.Certificate.{Certificate}
use Rattle.td_join.specs.Faults.{IsInside}
use Rattle.td_join.specs.Joining.{pins_of}
use Rattle.td_join.proofs.Times.{one_more}
use Rattle.td_join.proofs.hulls.all_inside.Goals as goal

pub loop-place-preserved : goal.loop-place-preserved
loop-place-preserved c =
    one_more (λ (d : Certificate). IsInside c.args.pins.now (pins_of d)) c.args.certificates.now c.loop-place.place c.index-certificates-place.result c.loop-place-test.true
    c.index-certificates-place.is c.in_ok-inside.ensures.ok c.loop-place.invariant

pub returns-clause-ok : goal.returns-clause-ok
returns-clause-ok c =
    subst (λ (cs : List Certificate). All (λ d. IsInside c.args.pins.now (pins_of d)) cs) (take_all c.loop-place.place c.args.certificates.now c.loop-place-test.false)
    c.loop-place.invariant
