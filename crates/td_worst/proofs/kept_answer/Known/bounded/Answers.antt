use Rattle.std.proofs.Common.{arith, map, refl}
use Rattle.std.specs.Prelude.{Some}
use Rattle.td_refutation.specs.Whole.{step_of}
use Rattle.td_worst.proofs.KeptLeaves.{exact_certified}
use Rattle.td_worst.proofs.KeptStandings.{lesser, between, worst}
use Rattle.td_worst.proofs.kept_answer.Known.bounded.Goals as goal

pub returns-in_default-clause-answer : goal.returns-in_default-clause-answer
returns-in_default-clause-answer c = λ given admit fitted known shown.
    rw c.min-high.ensures (lesser given (record { admit = admit; keep = c.args.keep.now }) c.args.self.high c.args.refuted.bound known.high shown.bound)

pub returns-then-refuted-best-clause-answer : goal.returns-then-refuted-best-clause-answer
returns-then-refuted-best-clause-answer c = λ given admit fitted known shown. (
  rw c.min-high.ensures (between given (record { admit = admit; keep = c.args.keep.now }) c.in-Some.best _ (rw c.in-Some.is at known.best)
      (lesser given (record { admit = admit; keep = c.args.keep.now }) c.args.self.high c.args.refuted.bound known.high shown.bound)),
  shown,
)

pub returns-in-Some-tree_of-clause-answer : goal.returns-in-Some-tree_of-clause-answer
returns-in-Some-tree_of-clause-answer c = λ given admit fitted known shown. (
  worst given (record { admit = admit; keep = c.args.keep.now }) c.in-Some.best c.args.refuted.bound (rw c.in-Some.is at known.best) shown.bound
      (omega (arith, c.if-refuted-best.false)),
  exact_certified given admit c.args.keep.now fitted c.in-Some.best (rw c.in-Some.is at c.requires.small) (rw c.in-Some.is at known.best)
      (record { steps = map step_of c.args.refuted.steps.items; bound = Some c.args.refuted.bound }) c.args.refuted.bound refl
      (omega (arith, c.if-refuted-best.false)) shown.steps c.in-Some-tree_of.tree (rw c.deref.ensures.value at c.in-Some-tree_of.ensures),
)

pub returns-clause-answer : goal.returns-clause-answer
returns-clause-answer c = λ given admit fitted known shown. (
  rw c.min-high.ensures (between given (record { admit = admit; keep = c.args.keep.now }) c.in-Some.best _ (rw c.in-Some.is at known.best)
      (lesser given (record { admit = admit; keep = c.args.keep.now }) c.args.self.high c.args.refuted.bound known.high shown.bound)),
  tt,
)
