use Rattle.std.proofs.Common.{refl, arith, inl, inr}
use Rattle.td_question.proofs.Orders.{last_is, no_last, only_last}
use Rattle.td_question.proofs.rising.push_next.Goals.{in-Some+else-order_of, in_default}
use Rattle.td_question.proofs.rising.push_next.Goals as goal

pub returns-then-order_of : goal.returns-then-order_of
returns-then-order_of c = inl (
  refl,
  (
    c.in-Some.last.now,
    last_is _ c.args.kept.now.items c.in-Some.last.now c.deref.ensures.value (rw c.in-Some.is at c.last.ensures.value),
    omega (arith, c.if-order_of.true, c.order_of.ensures, c.order_of-in-Some.ensures),
  ),
)

pub returns : goal.returns
returns c = inr (
  c.in_ok-push.ensures.items,
  λ last is. elim c.match-last.branch [
    | in-Some+else-order_of w ↦
        only_last c.args.kept.now.items w.in-Some.last.now last c.args.condition
        (last_is _ c.args.kept.now.items w.in-Some.last.now c.deref.ensures.value (rw w.in-Some.is at c.last.ensures.value)) is
        (omega (arith, w.if-order_of.false, w.order_of.ensures, w.order_of-in-Some.ensures))
    | in_default w ↦
        absurd (no_last c.deref.result.now c.args.kept.now.items last c.deref.ensures.value (rw w.in_default.is at c.last.ensures.value) is)
  ],
)
