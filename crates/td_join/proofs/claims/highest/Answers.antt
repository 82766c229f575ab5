use Rattle.std.proofs.Common.{rules, List, subst, take_all}
use Rattle.std.specs.Prelude.{All}
use Rattle.td_certificate.specs.declared.certificate.Certificate.{Certificate}
use Rattle.td_certificate.specs.Accepts.{high_of}
use Rattle.td_join.specs.Joining.{IsNotAbove}
use Rattle.td_join.proofs.Times.{newer, older}
use Rattle.td_join.proofs.claims.highest.Goals as goal
use Rattle.td_join.proofs.claims.highest.Goals.{then-is_higher, else-is_higher}

pub loop-place-preserved : goal.loop-place-preserved
loop-place-preserved c = record {
  within = search rules;
  most = elim c.if-is_higher.branch [
    | then-is_higher w ↦
        newer (λ d. high_of d.claim) c.args.certificates.now c.loop-place.place c.loop-place.greatest c.if-is_higher.greatest
        c.index-certificates-place.result c.index-certificates-greatest.result c.loop-place-test.true c.index-certificates-place.is
        c.loop-place.invariant.within c.index-certificates-greatest.is (c.is_higher.ensures.higher w.if-is_higher.true) c.loop-place.invariant.most w.greatest-is
    | else-is_higher w ↦
        older (λ d. high_of d.claim) c.args.certificates.now c.loop-place.place c.loop-place.greatest c.if-is_higher.greatest
        c.index-certificates-place.result c.index-certificates-greatest.result c.loop-place-test.true c.index-certificates-place.is
        c.index-certificates-greatest.is (c.is_higher.ensures.not_higher w.if-is_higher.false) c.loop-place.invariant.most w.greatest-is
  ];
}

pub returns-clause-greatest : goal.returns-clause-greatest
returns-clause-greatest c worst stands =
    subst (λ (cs : List Certificate). All (λ d. IsNotAbove (high_of d.claim) (high_of worst.claim)) cs) (take_all c.loop-place.place c.args.certificates.now c.loop-place-test.false)
    (c.loop-place.invariant.most worst stands)
