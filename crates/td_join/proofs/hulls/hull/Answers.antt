use Rattle.std.proofs.Common.{rules, ◌≡◌, ◌∙◌, sym, ap, length}
use Rattle.td_domain.specs.Admits.{Admitted}
use Rattle.td_join.specs.Joining.{pins_of, both}
use Rattle.td_join.proofs.Widening.{more, both_fits}
use Rattle.td_join.proofs.hulls.hull.Goals as goal

pub loop-certificate-preserved : goal.loop-certificate-preserved
loop-certificate-preserved c =
    let same : length c.loop-certificate.cube ≡ length (pins_of c.certificate-item.result) = search rules in
    let next = c.widen.ensures ∙ ap (both c.loop-certificate.cube) (c.pins-in-loop-certificate.ensures.pins ∙ ap (λ (a : Admitted). a.pins) c.admit-in-loop-certificate.ensures) in
    record {
      fits = ap length next ∙ both_fits c.loop-certificate.cube (pins_of c.certificate-item.result) same ∙ sym same ∙ c.loop-certificate.invariant.fits;
      widened = more c.args.certificates.now c.loop-certificate.certificate-index c.certificate-item.result c.loop-certificate.cube c.widen.new.cube _
          c.loop-certificate-test.true c.certificate-item.is next c.loop-certificate.invariant.widened;
    }
