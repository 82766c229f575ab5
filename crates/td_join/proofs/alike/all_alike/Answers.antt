use Rattle.std.proofs.Common.{List, subst, take_all}
use Rattle.std.specs.Prelude.{All}
use Rattle.td_certificate.specs.declared.certificate.Certificate.{Certificate}
use Rattle.td_certificate.specs.Trees.{IsTree}
use Rattle.td_join.specs.Joining.{IsAlike}
use Rattle.td_join.specs.Steps.{HasFit}
use Rattle.td_join.proofs.Times.{one_more}
use Rattle.td_join.proofs.alike.all_alike.Goals as goal

pub loop-place-preserved : goal.loop-place-preserved
loop-place-preserved c = record {
  alike = one_more (IsAlike c.args.first.now) c.args.certificates.now c.loop-place.place c.index-certificates-place.result c.loop-place-test.true
      c.index-certificates-place.is c.in_ok-alike.ensures.ok c.loop-place.invariant.alike;
  fit = one_more HasFit c.args.certificates.now c.loop-place.place c.index-certificates-place.result c.loop-place-test.true
      c.index-certificates-place.is c.alike.ensures.fit c.loop-place.invariant.fit;
  trees = one_more (λ (d : Certificate). IsTree d.tree) c.args.certificates.now c.loop-place.place c.index-certificates-place.result c.loop-place-test.true
      c.index-certificates-place.is c.alike.ensures.tree c.loop-place.invariant.trees;
}

pub returns-clause-trees : goal.returns-clause-trees
returns-clause-trees c =
    subst (λ (cs : List Certificate). All (λ d. IsTree d.tree) cs) (take_all c.loop-place.place c.args.certificates.now c.loop-place-test.false)
    c.loop-place.invariant.trees

pub returns-clause-fit : goal.returns-clause-fit
returns-clause-fit c =
    subst (λ (cs : List Certificate). All HasFit cs) (take_all c.loop-place.place c.args.certificates.now c.loop-place-test.false)
    c.loop-place.invariant.fit
