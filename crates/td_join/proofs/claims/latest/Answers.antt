use Rattle.std.proofs.Common.{rules, List, subst, take_all}
use Rattle.std.specs.Prelude.{All}
use Rattle.td_certificate.specs.declared.certificate.Certificate.{Certificate}
use Rattle.td_join.specs.Joining.{time_of, IsNotAbove}
use Rattle.td_join.proofs.Times.{newer, older}
use Rattle.td_join.proofs.claims.latest.Goals as goal
use Rattle.td_join.proofs.claims.latest.Goals.{then-is_later, else-is_later}

pub loop-place-preserved : goal.loop-place-preserved
loop-place-preserved c = record {
  within = search rules;
  most = elim c.if-is_later.branch [
    | then-is_later w ↦
        newer (λ d. time_of d.claim) c.args.certificates.now c.loop-place.place c.loop-place.greatest c.if-is_later.greatest
        c.index-certificates-place.result c.index-certificates-greatest.result c.loop-place-test.true c.index-certificates-place.is
        c.loop-place.invariant.within c.index-certificates-greatest.is (c.is_later.ensures.later w.if-is_later.true) c.loop-place.invariant.most w.greatest-is
    | else-is_later w ↦
        older (λ d. time_of d.claim) c.args.certificates.now c.loop-place.place c.loop-place.greatest c.if-is_later.greatest
        c.index-certificates-place.result c.index-certificates-greatest.result c.loop-place-test.true c.index-certificates-place.is
        c.index-certificates-greatest.is (c.is_later.ensures.not_later w.if-is_later.false) c.loop-place.invariant.most w.greatest-is
  ];
}

pub returns-clause-greatest : goal.returns-clause-greatest
returns-clause-greatest c worst stands =
    subst (λ (cs : List Certificate). All (λ d. IsNotAbove (time_of d.claim) (time_of worst.claim)) cs) (take_all c.loop-place.place c.args.certificates.now c.loop-place-test.false)
    (c.loop-place.invariant.most worst stands)
